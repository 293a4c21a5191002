-- What reading says of a volume's bytes and of any file, by the structure (document 01, "What reading tells"; document 02, #110): as
-- `volume/Meaning` has it of the plain reading, and where the blocks begin some volume.
use Rattle.std.specs.Prelude.{ℕ, ◌≤◌, List, [], ◌∷◌, ◌++◌, ◌≡◌, length, take}
use Rattle.le.specs.Le.{Bytes}
use Rattle.rules.specs.Check.{Hold}
use Rattle.reading.specs.Reading.{told, stop, stretches}
use Rattle.volume.specs.Volume.{Volume, IsVolume, bytes_of_volume}
use Rattle.volume.specs.Accepted.{Accepted, AcceptedOk, bytes_of_accepted, due_size, due_rules, Says}
use Rattle.volume.specs.Meaning.{Holds, volume_stretches, accepted_stretches}
use Rattle.hope.specs.Hope.{Begins}

-- a volume's bytes are complete, and its radials are the whole ones
pub record ReadsVolume (v : Volume) : Type 0 where
  pub complete : told (bytes_of_volume v) ≡ 0 ∷ []
  pub radials : stretches (bytes_of_volume v) ≡ volume_stretches v

-- accepted blocks: each keeps its rules where it stands, and they begin the bytes of some volume
pub record Hopeful (a : Accepted) : Type 0 where
  pub is : AcceptedOk a
  pub hope : Begins (bytes_of_accepted a)

-- what they and the bytes `rest` behind them say: what they say by their own rules; and where the due block is there and keeps its rules,
-- but no volume begins with it, 40 at its first byte
pub data HopeSays : Accepted → List ℕ → List ℕ → Type 0 where
  plainly : (a : Accepted) (rest x : List ℕ) → Says a rest x → HopeSays a rest x
  hopeless : (a : Accepted) (rest : List ℕ) → due_size a ≤ length rest → Hold (due_rules a rest) → (Begins (bytes_of_accepted a ++ take (due_size a) rest) → ⊥)
      → HopeSays a rest (2 ∷ 40 ∷ length (bytes_of_accepted a) ∷ [])

-- of a file with these accepted blocks x is told, and they are what is read of it, their radials the whole ones
pub record ReadAs (f : List ℕ) (a : Accepted) (x : List ℕ) : Type 0 where
  pub verdict : told f ≡ x
  pub read : (stop f).at ≡ length (bytes_of_accepted a)
  pub radials : stretches f ≡ accepted_stretches a

-- a file's accepted blocks, and what they and the bytes behind them say, which is told of it
pub record Parts (f : List ℕ) : Type 0 where
  pub accepted : Accepted
  pub hopeful : Hopeful accepted
  pub rest : List ℕ
  pub bytes : bytes_of_accepted accepted ++ rest ≡ f
  pub verdict : List ℕ
  pub says : HopeSays accepted rest verdict
  pub told : ReadAs f accepted verdict

-- What reading means: a volume's bytes are read as that volume, a complete file is some volume's bytes, and only one's; what accepted
-- blocks and the bytes behind them say is told of their file; any file is such blocks and bytes, and only one way.
pub record Means : Type 0 where
  pub reads : (v : Volume) → IsVolume v → ReadsVolume v
  pub holds : (f : List ℕ) → Bytes f → told f ≡ 0 ∷ [] → Holds f
  pub once : (v u : Volume) → IsVolume v → IsVolume u → bytes_of_volume v ≡ bytes_of_volume u → v ≡ u
  pub tells : (a : Accepted) (rest x : List ℕ) → Bytes (bytes_of_accepted a ++ rest) → Hopeful a → HopeSays a rest x → ReadAs (bytes_of_accepted a ++ rest) a x
  pub accepts : (f : List ℕ) → Bytes f → Parts f
  pub one : (a b : Accepted) (rest q x y : List ℕ) → Bytes (bytes_of_accepted a ++ rest) → Hopeful a → Hopeful b → HopeSays a rest x → HopeSays b q y
      → bytes_of_accepted a ++ rest ≡ bytes_of_accepted b ++ q → (a ≡ b) × (rest ≡ q)

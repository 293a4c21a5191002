-- What the plain reading says of a volume's bytes, and which files are a volume's bytes (document 01, "What reading tells"). It asks the
-- blocks' own rules; what reading says, which asks for hope besides (document 02, #110), is in `hope/Meaning`.
use Rattle.std.specs.Prelude.{ℕ, suc, ◌+◌, ◌*◌, List, [], ◌∷◌, ◌++◌, ◌≡◌, length}
use Rattle.le.specs.Le.{Bytes}
use Rattle.cut.specs.Cut.{cut_size}
use Rattle.reading.specs.declared.Stretch.{Stretch}
use Rattle.reading.specs.Reading.{plain_told, plain_stop, plain_stretches}
use Rattle.generic.specs.Generic.{generic_size}
use Rattle.site.specs.Site.{site_size}
use Rattle.task.specs.Task.{task_size}
use Rattle.volume.specs.Volume.{VolumeRadial, Volume, IsVolume, bytes_of_radial, bytes_of_volume}
use Rattle.volume.specs.Accepted.{Accepted, nothing, generic, site, task, radials, radial, moment, volume, volume_of, bytes_of_accepted, AcceptedOk, Says}

-- where the radials of cut k lie that begin at place `at`, one behind the other
abbrev pub layer_stretches : ℕ → ℕ → List VolumeRadial → List Stretch
layer_stretches k at [] = []
layer_stretches k at (b ∷ bs) = record { start = at; end = at + length (bytes_of_radial b); cut = k } ∷ layer_stretches k (at + length (bytes_of_radial b)) bs

-- and where the last of them ends
abbrev pub end_of : ℕ → List VolumeRadial → ℕ
end_of at [] = at
end_of at (b ∷ bs) = end_of (at + length (bytes_of_radial b)) bs

-- and those of the cuts from k on
abbrev pub layers_stretches : ℕ → ℕ → List (List VolumeRadial) → List Stretch
layers_stretches k at [] = []
layers_stretches k at (l ∷ ls) = layer_stretches k at l ++ layers_stretches (suc k) (end_of at l) ls

-- where a volume's first radial begins
abbrev pub first_place : Volume → ℕ
first_place v = generic_size + site_size + task_size + cut_size * length v.cuts

-- where a volume's radials lie
abbrev pub volume_stretches : Volume → List Stretch
volume_stretches v = layers_stretches 1 (first_place v) v.layers

-- a volume's bytes are complete, and its radials are the whole ones
pub record Reads (v : Volume) : Type 0 where
  pub complete : plain_told (bytes_of_volume v) ≡ 0 ∷ []
  pub radials : plain_stretches (bytes_of_volume v) ≡ volume_stretches v

-- a file is a volume's bytes
pub record Holds (f : List ℕ) : Type 0 where
  pub volume : Volume
  pub is : IsVolume volume
  pub bytes : bytes_of_volume volume ≡ f

-- where the whole radials of the accepted blocks lie
abbrev pub accepted_stretches : Accepted → List Stretch
accepted_stretches nothing = []
accepted_stretches (generic g) = []
accepted_stretches (site g s) = []
accepted_stretches (task g s t cs) = []
accepted_stretches (radials b) = volume_stretches (volume_of b)
accepted_stretches (radial b r) = volume_stretches (volume_of b)
accepted_stretches (moment b r m) = volume_stretches (volume_of b)
accepted_stretches (volume v) = volume_stretches v

-- of a file with these accepted blocks x is told, and they are what is read of it, their radials the whole ones
pub record Told (f : List ℕ) (a : Accepted) (x : List ℕ) : Type 0 where
  pub verdict : plain_told f ≡ x
  pub read : (plain_stop f).at ≡ length (bytes_of_accepted a)
  pub radials : plain_stretches f ≡ accepted_stretches a

-- a file's accepted blocks are a volume's beginning, and what is told of it is what they and the bytes behind them say
pub record Accepts (f : List ℕ) : Type 0 where
  pub accepted : Accepted
  pub is : AcceptedOk accepted
  pub rest : List ℕ
  pub bytes : bytes_of_accepted accepted ++ rest ≡ f
  pub verdict : List ℕ
  pub says : Says accepted rest verdict
  pub told : Told f accepted verdict

-- What the plain reading means: a volume's bytes are read as that volume, a complete file is some volume's bytes, and only one's; what
-- accepted blocks and the bytes behind them say is told of their file; any file is such blocks and bytes, and only one way.
pub record PlainMeans : Type 0 where
  pub reads : (v : Volume) → IsVolume v → Reads v
  pub holds : (f : List ℕ) → Bytes f → plain_told f ≡ 0 ∷ [] → Holds f
  pub once : (v u : Volume) → IsVolume v → IsVolume u → bytes_of_volume v ≡ bytes_of_volume u → v ≡ u
  pub tells : (a : Accepted) (rest x : List ℕ) → AcceptedOk a → Says a rest x → Told (bytes_of_accepted a ++ rest) a x
  pub accepts : (f : List ℕ) → Bytes f → Accepts f
  pub one : (a b : Accepted) (rest q x y : List ℕ) → AcceptedOk a → AcceptedOk b → Says a rest x → Says b q y → bytes_of_accepted a ++ rest ≡ bytes_of_accepted b ++ q → (a ≡ b) × (rest ≡ q)

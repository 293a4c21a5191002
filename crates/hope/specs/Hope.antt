-- Hope (document 02, #110): some further bytes would make a file complete under all other rules. Nothing here counts, adds or looks at
-- a mask; how reading decides it is in `reading/Step` (`hope_at`), and that the two are the same is `Tested` below.
use Rattle.std.specs.Prelude.{ℕ, ◌+◌, ◌≤◌, ◌<◌, true, List, [], ◌∷◌, ◌++◌, ◌↔◌, ◌≡◌, take}
use Rattle.le.specs.Le.{Bytes}
use Rattle.walk.specs.declared.due.Walk.{Walk}
use Rattle.walk.specs.Due.{at_start, size_of}
use Rattle.reading.specs.declared.step.Step.TheVariants.{Took, Refused}
use Rattle.reading.specs.Step.{hope_at, plain_step, step_of}
use Rattle.reading.specs.Reading.{plain_stop, plain_stretches, plain_told, stop, stretches, told}
use Rattle.volume.specs.Volume.{Volume, IsVolume, bytes_of_volume}
use Rattle.writer.specs.Agree.{written, Agrees}
use Rattle.writer.specs.Block.{Block, kind_of, bytes_of}
use Rattle.writer.specs.Trips.{Fits}

-- ---- what it is

-- bytes exist with which the plain reading, which asks every other rule, calls the file complete
pub record Hope (f : List ℕ) : Type 0 where
  pub more : List ℕ
  pub bytes : Bytes more
  pub complete : plain_told (f ++ more) ≡ 0 ∷ []

-- the same by the grammar: the file begins the bytes of some volume
pub record Begins (f : List ℕ) : Type 0 where
  pub volume : Volume
  pub is : IsVolume volume
  pub more : List ℕ
  pub bytes : Bytes more
  pub begins : bytes_of_volume volume ≡ f ++ more

-- ---- the reading from the plain one

-- the walks that reading f reaches
pub data Reached (f : List ℕ) : Walk → Type 0 where
  start : Reached f at_start
  next : {w m : Walk} → Reached f w → step_of f w ≡ Took m → Reached f m

-- at such a walk, where the plain reading takes the block that is due and goes on with m: the test says yes exactly where hope is left
-- behind the block; there the reading takes it too, and where none is left refuses it by 40, at its first byte
pub record Tested (f : List ℕ) (w m : Walk) : Type 0 where
  pub test : (hope_at w.due (take (w.at + size_of w) f) w ≡ true) ↔ Hope (take m.at f)
  pub left : Hope (take m.at f) → step_of f w ≡ Took m
  pub ended : (Hope (take m.at f) → ⊥) → step_of f w ≡ Refused 40 w.at

-- ---- files

-- a file is told open
pub record Open (f : List ℕ) : Type 0 where
  pub missing : ℕ
  pub told : told f ≡ 1 ∷ missing ∷ []

-- hope ended at the block behind the accepted ones: the plain reading takes it, and no hope is left behind it
pub record Lost (f : List ℕ) : Type 0 where
  pub next : Walk
  pub taken : plain_step f (stop f) ≡ Took next
  pub none : Hope (take next.at f) → ⊥

-- what reading tells of a file against what the plain reading tells: the same, of the same blocks; or 40 at the first byte of a block that
-- the plain one has taken, with bytes of its own, before it stops
pub data Against (f : List ℕ) : Type 0 where
  same : told f ≡ plain_told f → stop f ≡ plain_stop f → stretches f ≡ plain_stretches f → Against f
  lost : (l : Lost f) → told f ≡ 2 ∷ 40 ∷ (stop f).at ∷ [] → (stop f).at < l.next.at → l.next.at ≤ (plain_stop f).at → Against f

-- what is read of a file is what the plain reading reads of its accepted blocks
pub record ReadAlike (f : List ℕ) : Type 0 where
  pub stops : plain_stop (take (stop f).at f) ≡ stop f
  pub radials : plain_stretches (take (stop f).at f) ≡ stretches f

-- ---- the writer

-- a block offered to the writer where it is due: the table's checks take it, and no hope is left behind it
pub record EndsHope (b : Block) (w : Walk) (room : List ℕ) : Type 0 where
  pub fits : Fits b
  pub bytes : Bytes (written w room ++ bytes_of b)
  pub agree : Agrees w room
  pub due : w.due ≡ kind_of b
  pub next : Walk
  pub taken : plain_step (written w room ++ bytes_of b) w ≡ Took next
  pub none : Hope (take next.at (written w room ++ bytes_of b)) → ⊥

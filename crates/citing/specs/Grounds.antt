-- What is cited of a file, by the structure (document 02, #104): of its accepted blocks each keeps its rules where it stands; the block
-- behind them is cited, by its place among them, with its first broken clause, before which every field of it keeps its rule.
use Rattle.std.specs.Prelude.{ℕ, suc, ◌+◌, ◌-◌, ◌<◌, ◌≤◌, List, [], ◌++◌, ◌≡◌, length, take, Some}
use Rattle.rules.specs.declared.check.Clause.{Clause}
use Rattle.rules.specs.Check.{Hold, First}
use Rattle.walk.specs.declared.due.Due.TheVariants as due
use Rattle.reading.specs.declared.Stretch.{Stretch}
use Rattle.reading.specs.Reading.{nth, told}
use Rattle.volume.specs.Volume.{Volume, bytes_of_volume}
use Rattle.volume.specs.Accepted.{Accepted, nothing, generic, site, task, radials, radial, moment, volume, bytes_of_accepted, due_rules, due_size, radials_in}
use Rattle.volume.specs.Meaning.{volume_stretches}
use Rattle.hope.specs.Hope.{Begins}
use Rattle.hope.specs.Meaning.{Hopeful}
use Rattle.citing.specs.declared.refusals.Block.{Block}
use Rattle.citing.specs.declared.refusals.Why.{Why}
use Rattle.citing.specs.declared.refusals.Why.TheVariants as why
use Rattle.citing.specs.Refusals.{block, cited_of, refusal_of, trailing_clause, why_of}

-- the block that is due behind accepted blocks: a cut is one more than the cuts before it, a radial than the radials, of whatever cut, a
-- moment than the moments of its radial. Data is never cited, and behind a volume no block is due
abbrev pub block_behind : Accepted → Block
block_behind nothing = block due.Generic 1 0 0
block_behind (generic g) = block due.Site 1 0 (length (bytes_of_accepted (generic g)))
block_behind (site g s) = block due.Task 1 0 (length (bytes_of_accepted (site g s)))
block_behind (task g s t cs) = block due.Cut (suc (length cs)) 0 (length (bytes_of_accepted (task g s t cs)))
block_behind (radials b) = block due.Radial (suc (radials_in b.closed + length b.now)) 0 (length (bytes_of_accepted (radials b)))
block_behind (radial b r) = block due.Moment (suc (radials_in b.closed + length b.now)) (suc (length r.moments)) (length (bytes_of_accepted (radial b r)))
block_behind (moment b r m) = block due.Data 0 0 (length (bytes_of_accepted (moment b r m)))
block_behind (volume v) = block due.Nothing 0 0 (length (bytes_of_volume v))

-- what is cited of accepted blocks and the bytes `rest` behind them
pub data Grounds : Accepted → List ℕ → Why → Type 0 where
  -- nothing is refused: a volume, or the due block is not all there
  complete : (v : Volume) → Grounds (volume v) [] why.Complete
  missing : (a : Accepted) (rest : List ℕ) → length rest < due_size a → Grounds a rest (why.Open (due_size a - length rest))
  -- bytes behind a volume: its last radial, which ends where they begin, and its state
  trailing : (v : Volume) (rest : List ℕ) (s : Stretch) → 0 < length rest → nth (volume_stretches v) (length (volume_stretches v)) ≡ Some s → s.end ≡ length (bytes_of_volume v)
      → Grounds (volume v) rest (why.Broken (cited_of (bytes_of_volume v ++ rest) s.end (block due.Radial (length (volume_stretches v)) 0 s.start) trailing_clause))
  -- the due block is there: its first broken clause
  clause : (a : Accepted) (rest : List ℕ) (c : Clause) → due_size a ≤ length rest → First (due_rules a rest) c
      → Grounds a rest (why.Broken (cited_of (bytes_of_accepted a ++ rest) (length (bytes_of_accepted a) + c.place) (block_behind a) c))
  -- it keeps its rules, and no volume begins with it: the block, with no field
  hopeless : (a : Accepted) (rest : List ℕ) → due_size a ≤ length rest → Hold (due_rules a rest) → (Begins (bytes_of_accepted a ++ take (due_size a) rest) → ⊥)
      → Grounds a rest (why.Hopeless (block_behind a))

-- of a file
pub record Grounded (f : List ℕ) : Type 0 where
  pub accepted : Accepted
  pub hopeful : Hopeful accepted
  pub rest : List ℕ
  pub bytes : bytes_of_accepted accepted ++ rest ≡ f
  pub grounds : Grounds accepted rest (why_of f)

-- what is cited is what is told, by number and place
abbrev pub CitesTold : Type 0
CitesTold = (f : List ℕ) → refusal_of (why_of f) ≡ told f

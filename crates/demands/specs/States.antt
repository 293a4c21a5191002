-- Which states the radials of a volume may have, and how many cuts its task: document 01, "States" and number 8, as document 02,
-- #103, changes them, as one table. It has the numbers themselves, a line for each scan type, and what the definitions say is
-- held against it: of each scan type, cut and count, of every volume, and of what is accepted of any file.
use Rattle.std.specs.Prelude.{ℕ, suc, ◌≤◌, ◌<◌, true, cond, List, [], ◌∷◌, ◌⊎◌, ◌↔◌, ◌≡◌, eqb, ltb, length, get_or}
use Rattle.rules.specs.States.{cut_number_ok, closing, state_ok}
use Rattle.task.specs.declared.Task.{Task}
use Rattle.volume.specs.Accepted.{Begun, BegunOk}
use Rattle.volume.specs.Volume.{VolumeRadial, Volume, IsVolume}

-- the state of a cut's first radial, and the state that closes the cut; any radial between the two has 1
pub record States : Type 0 where
  pub opens : ℕ
  pub closes : ℕ

abbrev pub from : ℕ → ℕ → States
from opens closes = record { opens = opens; closes = closes }

-- a line: a task of one cut, with the states of that cut; or one of up to so many, with the states of the only cut, and where there
-- are several, of the first, of one between and of the last
pub data Line : Type 0 where
  one : States → Line
  many : ℕ → States → States → States → States → Line

-- scan types 0 to 6 of table 2-4, in their order: volume scan, PPI, RHI, sector, sector volume, RHI in several layers, by hand
unfoldable pub table : List Line
table =
    many 256 (from 3 4) (from 3 2) (from 0 2) (from 0 4)
    ∷ many 256 (from 3 4) (from 3 2) (from 0 2) (from 0 4)
    ∷ one (from 5 6)
    ∷ many 256 (from 3 4) (from 3 2) (from 0 2) (from 0 4)
    ∷ many 256 (from 3 4) (from 3 2) (from 0 2) (from 0 4)
    ∷ many 256 (from 5 6) (from 5 6) (from 5 6) (from 5 6)
    ∷ many 256 (from 3 4) (from 3 2) (from 0 2) (from 0 4)
    ∷ []

-- the most cuts that a line allows
abbrev pub most_in : Line → ℕ
most_in (one s) = 1
most_in (many most only first between last) = most

-- the states of cut k of n
abbrev pub states_in : Line → ℕ → ℕ → States
states_in (one s) n k = s
states_in (many most only first between last) n k = cond (eqb n 1) only (cond (eqb k 1) first (cond (ltb k n) between last))

-- cut k of n, of a task that a line allows
pub record CutOf (l : Line) (n k : ℕ) : Type 0 where
  pub from_one : 1 ≤ k
  pub to_last : k ≤ n
  pub allowed : n ≤ most_in l

-- the definitions say of a scan type what its line says
pub record Says (scan : ℕ) (l : Line) : Type 0 where
  -- a task may have 1 cut to the most (number 8)
  pub cuts : (n : ℕ) → (cut_number_ok scan n ≡ true) ↔ ((1 ≤ n) × (n ≤ most_in l))
  -- a cut's first radial has the state that opens it (number 10)
  pub first : (n k s : ℕ) → CutOf l n k → (state_ok scan n k 0 s ≡ true) ↔ (s ≡ (states_in l n k).opens)
  -- any other, whatever the count of those before it, has 1 or the state that closes it (number 10)
  pub other : (n k count s : ℕ) → CutOf l n k → 1 ≤ count → (state_ok scan n k count s ≡ true) ↔ ((s ≡ 1) ⊎ (s ≡ (states_in l n k).closes))
  -- with which the cut is closed
  pub closes : (n k : ℕ) → CutOf l n k → closing scan n k ≡ (states_in l n k).closes

-- of each scan type from `scan` on
abbrev pub Lines : ℕ → List Line → Type 0
Lines scan [] = Unit {0}
Lines scan (l ∷ ls) = Says scan l × Lines (suc scan) ls

-- radials of which each has 1, but for the last, which has the closing state
abbrev pub ToTheLast : ℕ → List VolumeRadial → Type 0
ToTheLast closes [] = ⊥
ToTheLast closes (b ∷ []) = b.header.state ≡ closes
ToTheLast closes (b ∷ (n ∷ ns)) = (b.header.state ≡ 1) × ToTheLast closes (n ∷ ns)

-- a layer's radials, by their states in order
abbrev pub InOrder : States → List VolumeRadial → Type 0
InOrder s [] = ⊥
InOrder s (b ∷ bs) = (b.header.state ≡ s.opens) × ToTheLast s.closes bs

-- the layers of a task of n cuts, from cut k on
abbrev pub LayersInOrder : Line → ℕ → ℕ → List (List VolumeRadial) → Type 0
LayersInOrder l n k [] = Unit {0}
LayersInOrder l n k (bs ∷ ls) = InOrder (states_in l n k) bs × LayersInOrder l n (suc k) ls

-- the radials of a layer that is not closed yet
abbrev pub Ones : List VolumeRadial → Type 0
Ones [] = Unit {0}
Ones (b ∷ bs) = (b.header.state ≡ 1) × Ones bs

abbrev pub Unclosed : States → List VolumeRadial → Type 0
Unclosed s [] = Unit {0}
Unclosed s (b ∷ bs) = (b.header.state ≡ s.opens) × Ones bs

-- the line of a scan type that the table has
abbrev pub line_of : ℕ → Line
line_of scan = get_or table scan (one (from 0 0))

-- a task's scan type is in the table, it has no more cuts than the line allows, and of each of these layers, from the first on,
-- the radials are in the order of its states
pub record Layered (t : Task) (layers : List (List VolumeRadial)) : Type 0 where
  pub scan : t.scan_type < length table
  pub most : t.cut_number ≤ most_in (line_of t.scan_type)
  pub order : LayersInOrder (line_of t.scan_type) t.cut_number 1 layers

pub record StateRule : Type 0 where
  pub lines : Lines 0 table
  -- a volume has as many layers as its task says, in their order
  pub volumes : (v : Volume) → IsVolume v → Layered v.task v.layers × (length v.layers ≡ v.task.cut_number)
  -- of a file that is open or refused, the closed layers are in their order, and so is the one behind them (`volume/Accepted`)
  pub begun : (b : Begun) → BegunOk b
      → Layered b.task b.closed × Unclosed (states_in (line_of b.task.scan_type) b.task.cut_number (suc (length b.closed))) b.now

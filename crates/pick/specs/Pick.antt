-- A volume with the wanted moments only (document 02, #111), block by block; how it is refused; and what the room then holds.
use Rattle.std.specs.Prelude.{ℕ, Bool, cond, List, [], ◌∷◌, ◌++◌, ◌≡◌, eqb, leb, length, take, Option, Some, None}
use Rattle.std.specs.Int.Bits.{bit_and}
use Rattle.le.specs.Le.{le, bytes, items, part, patch, run, stored}
use Rattle.cut.specs.Cut.{cut_size}
use Rattle.walk.specs.Due.{cut_place}
use Rattle.gates.specs.Telling.{Telling, refused, answered}
use Rattle.index.specs.Answer.{complete}
use Rattle.reading.specs.declared.Stretch.{Stretch}
use Rattle.reading.specs.Reading.{bytes_of, stretches, told}
use Rattle.mend.specs.Mend.{behind_cut, cut_number}
use Rattle.pick.specs.declared.plan.Plan.{Plan}
use Rattle.pick.specs.declared.plan.Plan.TheVariants.{Fits, Empty, Unfinished}
use Rattle.pick.specs.declared.Picked.{Picked}
use Rattle.pick.specs.declared.Picked.TheVariants.{Written, Refused}
use Rattle.pick.specs.Keep.{wanted_of, picked_radial}

-- ---- the volume

-- a cut block whose moments mask (table 2-5) is cut down to the wanted bits
unfoldable pub picked_cut : ℕ → List ℕ → List ℕ
picked_cut wanted b = patch b 84 (bytes 8 (bit_and (le 8 b 84) wanted))

-- a file's cut blocks: as many as its task says, behind the task's ("Blocks")
abbrev pub cut_blocks : List ℕ → List (List ℕ)
cut_blocks f = items (part cut_size) cut_size (cut_number f) f (cut_place 1)

-- its radials with the wanted moments only
abbrev pub picked_radials : ℕ → List ℕ → List ℕ
picked_radials wanted f = run (λ (s : Stretch). picked_radial wanted (bytes_of f s)) (stretches f)

-- the blocks before the cuts are as they are
unfoldable pub picked : ℕ → List ℕ → List ℕ
picked wanted f = take (cut_place 1) f ++ run (picked_cut wanted) (cut_blocks f) ++ picked_radials wanted f

-- where the first radial starts: behind the last cut's block ("Blocks")
abbrev pub radials_at : List ℕ → ℕ
radials_at f = behind_cut (cut_number f)

-- ---- the answer

-- whether a radial would have no moment left
abbrev pub empties : ℕ → List ℕ → Bool
empties wanted b = eqb (length (wanted_of wanted b)) 0

-- the first of some radials that would
unfoldable pub first_empty : ℕ → List ℕ → List Stretch → Option Stretch
first_empty wanted f [] = None
first_empty wanted f (s ∷ ss) = cond (empties wanted (bytes_of f s)) (Some s) (first_empty wanted f ss)

abbrev pub empty_in : ℕ → List ℕ → Option Stretch
empty_in wanted f = first_empty wanted f (stretches f)

-- the length of the written volume; or the refusal's number and place
abbrev pub told_picked : Picked → Telling ℕ
told_picked (Written size) = answered size
told_picked (Refused number place) = refused number place

-- of a complete file: 60 at the first radial that would have no moment left, then 33 where the room of n bytes is too short, at place 0
unfoldable pub answer_by : ℕ → ℕ → Option Stretch → Telling ℕ
answer_by size n (Some s) = refused 60 s.start
answer_by size n None = cond (leb size n) (answered size) (refused 33 0)

-- what a room then holds: at its front the volume, where it fits; refused, what it held
unfoldable pub room_by : List ℕ → List ℕ → Option Stretch → List ℕ
room_by volume room (Some s) = room
room_by volume room None = stored (length volume) room 0 volume

-- before that 36, at place 0, where the file is not complete
abbrev pub answer_of : ℕ → List ℕ → ℕ → Telling ℕ
answer_of wanted f n = cond (complete f) (answer_by (length (picked wanted f)) n (empty_in wanted f)) (refused 36 0)

abbrev pub room_of : ℕ → List ℕ → List ℕ → List ℕ
room_of wanted f room = cond (complete f) (room_by (picked wanted f) room (empty_in wanted f)) room

pub record Picks (f : List ℕ) (wanted : ℕ) (before : List ℕ) (r : Picked) (after : List ℕ) : Type 0 where
  pub answer : told_picked r ≡ answer_of wanted f (length before)
  pub room : after ≡ room_of wanted f before

-- ---- what the private functions promise

-- what was found, or else something
unfoldable pub or_else : Option Stretch → Option Stretch → Option Stretch
or_else None other = other
or_else (Some s) other = Some s

unfoldable pub plan_by : Option Stretch → ℕ → ℕ → Plan
plan_by (Some s) radials size = Empty s.start
plan_by None radials size = Fits radials size

abbrev pub plan_of : ℕ → List ℕ → Plan
plan_of wanted f = cond (complete f) (plan_by (empty_in wanted f) (length (stretches f)) (length (picked wanted f))) Unfinished

-- reading says that the file is complete ("What reading tells")
abbrev pub Complete : List ℕ → Type 0
Complete f = told f ≡ 0 ∷ []

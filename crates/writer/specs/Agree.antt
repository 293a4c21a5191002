-- When the writer's state and its room agree (document 01, "Writing", and number 37).
use Rattle.std.specs.Prelude.{ℕ, ◌≤◌, ◌<◌, Bool, true, false, ◌&&◌, List, ◌≡◌, eqb, leb, length, take}
use Rattle.walk.specs.declared.due.Count.{Count}
use Rattle.walk.specs.declared.due.Due.{Due}
use Rattle.walk.specs.declared.due.Due.TheVariants as due
use Rattle.walk.specs.declared.due.Plan.{Plan}
use Rattle.walk.specs.declared.due.Present.{Present}
use Rattle.walk.specs.declared.due.Rest.{Rest}
use Rattle.walk.specs.declared.due.Walk.{Walk}
use Rattle.reading.specs.Reading.{stop}

-- a number for each kind of block, and for none: two kinds are the same where their numbers are ("Blocks")
unfoldable pub rank_of : Due → ℕ
rank_of due.Generic = 0
rank_of due.Site = 1
rank_of due.Task = 2
rank_of due.Cut = 3
rank_of due.Radial = 4
rank_of due.Moment = 5
rank_of due.Data = 6
rank_of due.Nothing = 7

abbrev pub same_kind : Due → Due → Bool
same_kind a b = eqb (rank_of a) (rank_of b)

-- two walks are the same, field by field: what a state says of the bytes ("Field rules", 37)
abbrev pub same_plan : Plan → Plan → Bool
same_plan a b = eqb a.scan_type b.scan_type && eqb a.cuts b.cuts

abbrev pub same_count : Count → Count → Bool
same_count a b = eqb a.cut b.cut && (eqb a.whole b.whole && eqb a.in_cut b.in_cut)

abbrev pub same_present : Present → Present → Bool
same_present a b =
    eqb a.start b.start
    && ((eqb a.state b.state && eqb a.sequence b.sequence) && (eqb a.mask b.mask && eqb a.sizes b.sizes))

abbrev pub same_rest : Rest → Rest → Bool
same_rest a b = eqb a.todo b.todo && (eqb a.left b.left && (eqb a.seen b.seen && eqb a.length b.length))

unfoldable pub same_walk : Walk → Walk → Bool
same_walk a b =
    (same_kind a.due b.due && eqb a.at b.at)
    && ((same_plan a.plan b.plan && same_count a.count b.count) && (same_present a.present b.present && same_rest a.rest b.rest))

-- What is written is the first `at` bytes of the room ("Writing").
abbrev pub written : Walk → List ℕ → List ℕ
written w room = take w.at room

-- State and room agree ("Writing"): the room has the bytes that the state counts, and reading those stops at the state.
pub record Agrees (w : Walk) (room : List ℕ) : Type 0 where
  pub within : w.at ≤ length room
  pub stops : stop (written w room) ≡ w

-- They do not ("Field rules and refusal numbers", 37): the state counts more bytes than the room has; or the bytes are not
-- read to their end, since one of their blocks is refused or the last is not whole; or reading them says something else.
pub data Disagrees (w : Walk) (room : List ℕ) : Type 0 where
  too_few : length room < w.at → Disagrees w room
  unended : ((stop (written w room)).at ≡ length (written w room) → ⊥) → Disagrees w room
  other : (stop (written w room) ≡ w → ⊥) → Disagrees w room

-- the same as a test, which comes before every other ("Writing": the order)
unfoldable pub agrees : Walk → List ℕ → Bool
agrees w room = leb w.at (length room) && same_walk (stop (written w room)) w

-- what the test tells ("Field rules and refusal numbers", 37)
pub record TestsAgreement (w : Walk) (room : List ℕ) : Type 0 where
  pub yes : agrees w room ≡ true → Agrees w room
  pub no : agrees w room ≡ false → Disagrees w room
  pub always : Agrees w room → agrees w room ≡ true
  pub never : Disagrees w room → agrees w room ≡ false

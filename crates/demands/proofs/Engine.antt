-- Answers by the index, by citing the crates `index` and `engine`, and the tables by computing. Assumes nothing.
use Prim.Native.Nat.{ℕ}
use mathlib.Core.Bool.{true}
use mathlib.Core.List.{List, map}
use mathlib.Core.Path.{◌≡◌, refl, sym, ◌∙◌}
use Rattle.le.specs.Le.{le}
use Rattle.index.specs.Answer.{right_for}
use Rattle.index.specs.Forms.{cuts_said, counts_at, radials_at, place_said}
use Rattle.index.proofs.Same.{right-only}
use Rattle.index.proofs.Says.{leads}
use Rattle.engine.specs.Engine.{asked}
use Rattle.engine.proofs.Meaning.{each_stands, as-in-row}
use Rattle.demands.specs.Engine.{read, said_table, paired, listed_table, ByIndex}

one : (f x y : List ℕ) → right_for f x ≡ true → right_for f y ≡ true → x ≡ y
one f x y a b = sym (right-only f x a).1 ∙ (right-only f y b).1

places : map read said_table ≡ said_table
unfolding said_table place_said radials_at counts_at cuts_said le
places = refl

lists : map paired listed_table ≡ listed_table
unfolding listed_table asked
lists = refl

pub by_index : ByIndex
by_index = record { leads = leads; one = one; each = each_stands; rows = as-in-row; places = places; lists = lists }

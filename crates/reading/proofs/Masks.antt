-- A cut's masks, read at their places in the file. Assumes nothing.
use mathlib.Core.Path.{◌≡◌, sym, ap₂}
use mathlib.Core.List.{List}
use Prim.Native.Nat.{ℕ, ◌+◌}
use lib.Dec.{lit≤}
use Rattle.le.specs.Le.{le}
use Rattle.le.proofs.Laws.{le-part}
use Rattle.cut.specs.Cut.{cut_of, cut_at}
use Rattle.radial.specs.declared.Radial.{Radial}
use Rattle.walk.specs.declared.due.Walk.{Walk}
use Rattle.walk.specs.Due.{cut_place}
use Rattle.reading.specs.Step.{take_radial, hope_after_radial, say_by_masks, say_radial, cut_in}

mask_at : (f : List ℕ) (at : ℕ) → le 8 f (at + 84) ≡ (cut_at f at).moments_mask
unfolding cut_at cut_of
mask_at f at = sym (le-part 8 256 f at 84 (lit≤ tt))

sizes-at : (f : List ℕ) (at : ℕ) → le 8 f (at + 92) ≡ (cut_at f at).size_mask
unfolding cut_at cut_of
sizes-at f at = sym (le-part 8 256 f at 92 (lit≤ tt))

-- a radial with the masks so read is what it is with its cut's
pub by-masks : (p : List ℕ) (w : Walk) (r : Radial) → say_by_masks r (le 8 p (cut_place w.count.cut + 84)) (le 8 p (cut_place w.count.cut + 92)) w ≡ say_radial r (cut_in p w) w
unfolding take_radial hope_after_radial
by-masks p w r = ap₂ (λ (m z : ℕ). say_by_masks r m z w) (mask_at p (cut_place w.count.cut)) (sizes-at p (cut_place w.count.cut))

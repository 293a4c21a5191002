-- The start of an index in its two forms, by the number of cuts, and bytes compared with it one by one. Assumes nothing.
use Prim.Native.Nat.{ℕ, suc, ◌≤◌}
use native.Mathlib.Omega.{arith}
use mathlib.Core.Bool.{Bool, true, false, ◌&&◌}
use mathlib.Core.List.{List, [], ◌∷◌}
use mathlib.Core.Path.{◌≡◌, refl, ap, ◌∙◌}
use lib.Dec.{eqb, leb}
use lib.ListN.{length, take}
use lib.Pointwise.{pointwise}
use Rattle.le.specs.Le.{part}
use Rattle.le.proofs.Laws.{length-bytes, part-here}
use Rattle.index.specs.Answer.{same}
use Rattle.index.specs.Index.{old_start, new_start, most_old, start_of}

pub start-old : (cuts : ℕ) → leb cuts most_old ≡ true → start_of cuts ≡ old_start cuts
unfolding start_of
start-old cuts e = rw e

pub start-new : (cuts : ℕ) → leb cuts most_old ≡ false → start_of cuts ≡ new_start cuts
unfolding start_of
start-new cuts e = rw e

pub length-old : (cuts : ℕ) → length (old_start cuts) ≡ 1
unfolding old_start
length-old cuts = length-bytes 1 cuts

pub length-new : (cuts : ℕ) → length (new_start cuts) ≡ 3
unfolding new_start
length-new cuts = ap suc (length-bytes 2 cuts)

-- a start has a byte at least, and 3 at the most
pub length-start : (cuts : ℕ) → (1 ≤ length (start_of cuts)) × (length (start_of cuts) ≤ 3)
length-start cuts = go (leb cuts most_old) refl
  where
    go : (b : Bool) → leb cuts most_old ≡ b → (1 ≤ length (start_of cuts)) × (length (start_of cuts) ≤ 3)
    go true e = let l = length-old cuts in rw (start-old cuts e) (omega arith, omega arith)
    go false e = let l = length-new cuts in rw (start-new cuts e) (omega arith, omega arith)

-- whether x begins with s
pointwise-same : (a b : List ℕ) → pointwise eqb a b ≡ same a b
unfolding same
pointwise-same [] [] = refl
pointwise-same [] (y ∷ b) = refl
pointwise-same (x ∷ a) [] = refl
pointwise-same (x ∷ a) (y ∷ b) = ap (λ (t : Bool). eqb x y && t) (pointwise-same a b)

pub begins : (s x : List ℕ) → length s ≤ length x → pointwise eqb s (take (length s) x) ≡ same s (part (length s) x 0)
begins s x l = pointwise-same s (take (length s) x) ∙ ap (same s) (part-here (length s) x 0 (omega arith))

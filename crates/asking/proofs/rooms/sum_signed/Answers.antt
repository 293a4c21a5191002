-- After some entries the number is their sum. Assumes nothing.
use mathlib.Core.Path.{◌≡◌, refl, subst}
use mathlib.Core.List.{List, [], ◌∷◌, ◌++◌, map}
use Prim.Native.Nat.{ℕ}
use lib.IntN.{ℤ}
use mir.Syntax.{w32}
use mir.Val.{of_z}
use borrow.Author.Rules.{rules}
use Rattle.std.proofs.lemmas.Fn.{fold_over, slice_gives, fronts}
use Rattle.printing.specs.Sum.{mixed_of, sum_from}
use Rattle.asking.proofs.rooms.sum_signed.Goals as goal

-- one entry more
sum-push : (n : ℕ) (ys : List ℤ) (z : ℤ) → sum_from n (map (of_z w32) (ys ++ (z ∷ []))) ≡ mixed_of (sum_from n (map (of_z w32) ys)) (of_z w32 z)
unfolding sum_from
sum-push n [] z = refl
sum-push n (y ∷ ys) z = sum-push (mixed_of n (of_z w32 y)) ys z

pub returns : goal.returns
unfolding sum_from
returns c = subst (λ (l : List ℤ). c.fold.result ≡ sum_from 0 (map (of_z w32) l)) c.iter.ensures.rest
    (fold_over fronts (λ y. y.now) _ (λ ys n. n ≡ sum_from 0 (map (of_z w32) ys)) _ (λ ys a x b f' j k. let more = sum-push 0 ys x.now in search rules)
    _ _ _ _ (slice_gives c.iter.result) refl c.fold.ensures.ran)

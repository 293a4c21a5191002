-- The fold over the bytes is the sum that the contract names. Assumes nothing.
use Rattle.std.proofs.Common.{rules, ◌≡◌, refl, ◌∙◌, ℕ, List, [], ◌∷◌}
use Rattle.std.specs.List.{fold}
use Rattle.printing.specs.Sum.{mixed_of, sum_from}
use Rattle.printing.proofs.sum.Goals as goal

fold-sum_from : (n : ℕ) (s : List ℕ) → fold mixed_of n s ≡ sum_from n s
unfolding sum_from
fold-sum_from n [] = refl
fold-sum_from n (b ∷ bs) = fold-sum_from (mixed_of n b) bs

pub returns : goal.returns
returns c =
    let e : c.fold.result ≡ fold mixed_of 0 c.args.s.now = search rules in
    e ∙ fold-sum_from 0 c.args.s.now

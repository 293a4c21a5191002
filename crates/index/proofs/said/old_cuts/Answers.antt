-- The first byte, and 0 where there is none. Assumes nothing.
use Rattle.std.proofs.Common.{◌≡◌, ℕ, List, [], ◌∷◌, ap, ◌∙◌, arith}
use Rattle.std.specs.Option.{unwrap_or}
use Rattle.std.specs.List.{slice_get}
use Rattle.std.specs.Prelude.{Option}
use Rattle.le.specs.Le.{le}
use Rattle.index.proofs.said.old_cuts.Goals as goal

front : (x : List ℕ) → unwrap_or (slice_get x 0) 0 ≡ le 1 x 0
unfolding le
front [] = omega arith
front (b ∷ x) = omega arith

pub returns : goal.returns
returns c =
    c.unwrap_or.ensures ∙ ap (λ (o : Option ℕ). unwrap_or o 0) (c.copied.ensures ∙ c.first.ensures.value) ∙ front c.args.index.now

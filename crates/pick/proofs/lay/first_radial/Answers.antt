-- Behind the last cut's block. Assumes nothing.
use mathlib.Core.Path.{ap, ◌∙◌}
use Prim.Native.Nat.{ℕ, ◌+◌}
use Rattle.walk.specs.Due.{cut_place}
use Rattle.pick.proofs.lay.first_radial.Goals as goal

pub returns : goal.returns
returns c = ap (λ (n : ℕ). n + 256) (c.cut_place.ensures ∙ ap cut_place c.cuts.ensures)

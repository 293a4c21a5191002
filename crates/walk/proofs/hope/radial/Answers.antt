use mathlib.Core.Path.{sym, ◌∙◌}
use Rattle.walk.specs.Hope.{radial_hope}
use Rattle.walk.proofs.hope.radial.Goals as goal

pub returns-then-moments : goal.returns-then-moments
unfolding radial_hope
returns-then-moments c = rw (sym c.moments.ensures ∙ c.if-moments.true) c.radials.ensures

pub returns-else-moments : goal.returns-else-moments
unfolding radial_hope
returns-else-moments c = rw (sym c.moments.ensures ∙ c.if-moments.false)

use mathlib.Core.Path.{sym, ap, ◌∙◌}
use Rattle.citing.specs.declared.answers.WhyGate.TheVariants.{NoRadial}
use Rattle.citing.specs.Answers.{in_radial}
use Rattle.citing.proofs.answers.gate.Goals as goal

pub returns-in-Some : goal.returns-in-Some
unfolding in_radial
returns-in-Some c = let a = c.args in c.in_stretch.ensures ∙ ap (in_radial a.file.now a.t a.i) (sym c.in-Some.is ∙ c.find.ensures)

pub returns-in-None : goal.returns-in-None
unfolding in_radial
returns-in-None c = let a = c.args in ap NoRadial c.read.ensures.radials ∙ ap (in_radial a.file.now a.t a.i) (sym c.in-None.is ∙ c.find.ensures)

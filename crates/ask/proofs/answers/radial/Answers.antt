use Rattle.ask.specs.Answers.{radial_told}
use Rattle.ask.proofs.answers.radial.Goals as goal

pub returns-in-Some : goal.returns-in-Some
unfolding radial_told
returns-in-Some c = rw (← c.find.ensures, c.in-Some.is, c.read.ensures)

pub returns-in-None : goal.returns-in-None
unfolding radial_told
returns-in-None c = rw (← c.find.ensures, c.in-None.is, c.read-in-None.ensures)

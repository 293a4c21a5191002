use Rattle.ask.specs.Answers.{gate_told}
use Rattle.ask.specs.Places.{in_found}
use Rattle.engine.proofs.gate.Goals as goal

pub returns-in-Some : goal.returns-in-Some
unfolding in_found
returns-in-Some c = rw (← c.find.ensures, c.in-Some.is) c.gate_at.ensures

pub returns-in-None : goal.returns-in-None
unfolding in_found gate_told
returns-in-None c = rw (← c.find.ensures, c.in-None.is)

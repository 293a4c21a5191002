use Rattle.ask.specs.Answers.{gate_told}
use Rattle.ask.specs.Places.{in_stretch}
use Rattle.ask.proofs.answers.gate_at.Goals as goal

pub returns-in-Some : goal.returns-in-Some
unfolding gate_told in_stretch
returns-in-Some c =
    rw (c.gate_in.ensures, c.data.ensures, c.read.ensures, ← c.own-b.ensures, ← c.find.ensures, c.in-Some.is, c.own-b.ensures)

pub returns-in-None : goal.returns-in-None
unfolding gate_told in_stretch
returns-in-None c = rw (← c.own-b.ensures, ← c.find.ensures, c.in-None.is)

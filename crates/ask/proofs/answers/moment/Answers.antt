use Rattle.ask.specs.Answers.{moment_told}
use Rattle.ask.proofs.answers.moment.Goals as goal

pub returns-in-At : goal.returns-in-At
unfolding moment_told
returns-in-At c = rw (← c.find.ensures, c.in-At.is, c.read.ensures, c.own.ensures)

pub returns-in-NoRadial : goal.returns-in-NoRadial
unfolding moment_told
returns-in-NoRadial c = rw (← c.find.ensures, c.in-NoRadial.is, c.read-in-NoRadial.ensures)

pub returns-in-NoMoment : goal.returns-in-NoMoment
unfolding moment_told
returns-in-NoMoment c = rw (← c.find.ensures, c.in-NoMoment.is, c.read-in-NoMoment.ensures)

use Rattle.ask.specs.Answers.{data_told}
use Rattle.ask.proofs.answers.moment_data.Goals as goal

pub returns-in-At : goal.returns-in-At
unfolding data_told
returns-in-At c = rw (← c.find.ensures, c.in-At.is, c.data.ensures, c.own.ensures)

pub returns-in-NoRadial : goal.returns-in-NoRadial
unfolding data_told
returns-in-NoRadial c = rw (← c.find.ensures, c.in-NoRadial.is)

pub returns-in-NoMoment : goal.returns-in-NoMoment
unfolding data_told
returns-in-NoMoment c = rw (← c.find.ensures, c.in-NoMoment.is)

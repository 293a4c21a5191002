use Rattle.ask.specs.Places.{found_of}
use Rattle.ask.proofs.places.found.Goals as goal

pub returns-in-At : goal.returns-in-At
unfolding found_of
returns-in-At c = rw (← c.find.ensures, c.in-At.is)

pub returns-in-NoRadial : goal.returns-in-NoRadial
unfolding found_of
returns-in-NoRadial c = rw (← c.find.ensures, c.in-NoRadial.is)

pub returns-in-NoMoment : goal.returns-in-NoMoment
unfolding found_of
returns-in-NoMoment c = rw (← c.find.ensures, c.in-NoMoment.is)

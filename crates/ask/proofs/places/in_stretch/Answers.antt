use Rattle.ask.specs.Places.{in_stretch}
use Rattle.ask.proofs.places.in_stretch.Goals as goal

pub returns-in-Some : goal.returns-in-Some
unfolding in_stretch
returns-in-Some c = rw (← c.find.ensures, c.in-Some.is)

pub returns-in-None : goal.returns-in-None
unfolding in_stretch
returns-in-None c = rw (← c.find.ensures, c.in-None.is)

use Rattle.ask.specs.Places.{in_found}
use Rattle.ask.proofs.places.find.Goals as goal

pub returns-in-Some : goal.returns-in-Some
unfolding in_found
returns-in-Some c =
    rw (← c.find.ensures, c.in-Some.is, ← c.own.ensures) c.in_stretch.ensures

pub returns-in-None : goal.returns-in-None
unfolding in_found
returns-in-None c = rw (← c.find.ensures, c.in-None.is)

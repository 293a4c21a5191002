use Rattle.ask.specs.Tallies.{carried}
use Rattle.ask.proofs.tallies.carry.Goals as goal

pub returns-in-At : goal.returns-in-At
unfolding carried
returns-in-At c =
    rw (
      c.in-At.is,
      c.counts_of.ensures,
      c.coding.ensures,
      c.data.ensures,
      c.blank.ensures,
      c.read-h.ensures,
    )

pub returns-in-NoRadial : goal.returns-in-NoRadial
unfolding carried
returns-in-NoRadial c = rw c.in-NoRadial.is c.none.ensures

pub returns-in-NoMoment : goal.returns-in-NoMoment
unfolding carried
returns-in-NoMoment c = rw c.in-NoMoment.is c.none-in-NoMoment.ensures

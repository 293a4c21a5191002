use Rattle.reading.specs.Step.{take_cut}
use Rattle.reading.proofs.step.cut.Goals as goal

pub returns : goal.returns
unfolding take_cut
returns c =
    rw (
      c.hoping.ensures,
      c.some_moment.ensures,
      c.settle-says.ensures,
      c.cut.ensures,
      c.check.ensures,
      c.read-r.ensures,
      c.requires,
    )

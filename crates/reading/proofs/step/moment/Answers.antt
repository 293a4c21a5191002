use Rattle.reading.specs.Step.{take_moment, hope_after_moment}
use Rattle.reading.proofs.step.moment.Goals as goal

pub returns : goal.returns
unfolding take_moment hope_after_moment
returns c =
    rw (
      c.hoping.ensures,
      c.moments.ensures,
      c.settle-says.ensures,
      c.check.ensures,
      c.moment_due.ensures,
      c.moment-next.ensures,
      c.read-r.ensures,
      c.requires,
    )

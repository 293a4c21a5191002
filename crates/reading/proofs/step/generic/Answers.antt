use Rattle.reading.specs.Step.{take_generic}
use Rattle.reading.proofs.step.generic.Goals as goal

pub returns : goal.returns
unfolding take_generic
returns c =
    rw (c.settle.ensures, c.generic.ensures, c.check.ensures, c.read-r.ensures, c.requires)

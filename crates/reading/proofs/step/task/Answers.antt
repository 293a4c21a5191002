use Rattle.reading.specs.Step.{take_task}
use Rattle.reading.proofs.step.task.Goals as goal

pub returns : goal.returns
unfolding take_task
returns c =
    rw (c.settle.ensures, c.task.ensures, c.check.ensures, c.read-r.ensures, c.requires)

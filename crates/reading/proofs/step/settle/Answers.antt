use Rattle.reading.specs.Step.{settle}
use Rattle.reading.proofs.step.settle.Goals as goal

pub returns-in-Ok : goal.returns-in-Ok
unfolding settle
returns-in-Ok c = rw c.in-Ok.is

pub returns-in-Err : goal.returns-in-Err
unfolding settle
returns-in-Err c = rw c.in-Err.is

use Rattle.writer.specs.Block.{task}
use Rattle.writer.proofs.Putting.{puts-agreed, puts-astray}
use Rattle.writer.proofs.put_task.Goals as goal

pub returns-then-agrees : goal.returns-then-agrees
returns-then-agrees c =
    let a = c.args in
    puts-agreed (task a.r) a.w a.room.now c.agrees.ensures c.if-agrees.true c.task_on.ensures

pub returns : goal.returns
returns c =
    let a = c.args in
    puts-astray (task a.r) a.w a.room.now c.agrees.ensures c.if-agrees.false c.refused.ensures

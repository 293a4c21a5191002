use Rattle.writer.specs.Block.{«data»}
use Rattle.writer.proofs.Putting.{puts-agreed, puts-astray}
use Rattle.writer.proofs.put_data.Goals as goal

pub returns-then-agrees : goal.returns-then-agrees
returns-then-agrees c =
    let a = c.args in
    puts-agreed («data» a.bytes.now) a.w a.room.now c.agrees.ensures c.if-agrees.true c.data_on.ensures

pub returns : goal.returns
returns c =
    let a = c.args in
    puts-astray («data» a.bytes.now) a.w a.room.now c.agrees.ensures c.if-agrees.false c.refused.ensures

use Rattle.writer.specs.Block.{«data»}
use Rattle.writer.proofs.Putting.{puts-taken, puts-refused}
use Rattle.writer.proofs.on.data_on.Goals as goal

pub returns-in-Taken : goal.returns-in-Taken
returns-in-Taken c =
    let a = c.args in
    puts-taken («data» a.bytes.now) a.w a.room.now c.data-p.ensures c.in-Taken.is c.put.ensures

pub returns-in-Refused : goal.returns-in-Refused
returns-in-Refused c =
    let a = c.args in
    puts-refused («data» a.bytes.now) a.w a.room.now c.data-p.ensures _ _ c.in-Refused.is

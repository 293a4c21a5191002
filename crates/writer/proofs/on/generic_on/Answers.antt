use Rattle.writer.specs.Block.{generic}
use Rattle.writer.proofs.Putting.{puts-taken, puts-refused}
use Rattle.writer.proofs.on.generic_on.Goals as goal

pub returns-in-Taken : goal.returns-in-Taken
returns-in-Taken c =
    let a = c.args in
    puts-taken (generic a.r) a.w a.room.now c.generic-p.ensures c.in-Taken.is c.write.ensures

pub returns-in-Refused : goal.returns-in-Refused
returns-in-Refused c =
    let a = c.args in
    puts-refused (generic a.r) a.w a.room.now c.generic-p.ensures _ _ c.in-Refused.is

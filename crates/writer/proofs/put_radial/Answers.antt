use Rattle.writer.specs.Block.{radial}
use Rattle.writer.proofs.Putting.{puts-agreed, puts-astray}
use Rattle.writer.proofs.put_radial.Goals as goal

pub returns-then-agrees : goal.returns-then-agrees
returns-then-agrees c =
    let a = c.args in
    puts-agreed (radial a.r) a.w a.room.now c.agrees.ensures c.if-agrees.true c.radial_on.ensures

pub returns : goal.returns
returns c =
    let a = c.args in
    puts-astray (radial a.r) a.w a.room.now c.agrees.ensures c.if-agrees.false c.refused.ensures

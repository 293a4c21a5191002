use Rattle.writer.specs.Block.{site}
use Rattle.writer.proofs.Putting.{puts-agreed, puts-astray}
use Rattle.writer.proofs.put_site.Goals as goal

pub returns-then-agrees : goal.returns-then-agrees
returns-then-agrees c =
    let a = c.args in
    puts-agreed (site a.r) a.w a.room.now c.agrees.ensures c.if-agrees.true c.site_on.ensures

pub returns : goal.returns
returns c =
    let a = c.args in
    puts-astray (site a.r) a.w a.room.now c.agrees.ensures c.if-agrees.false c.refused.ensures

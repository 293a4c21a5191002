use Rattle.moments.proofs.Laws.{number_is}
use Rattle.moments.proofs.first.Goals as goal

pub returns : goal.returns
returns c = rw (number_is c.args.b.now, c.u32_at.ensures)

use Rattle.le.proofs.Laws.{padded-out}
use Rattle.le.proofs.padded.Goals as goal

pub returns : goal.returns
returns g c = padded-out g.row.N c.args.tail.now c.requires c.copy_from_slice.ensures.after

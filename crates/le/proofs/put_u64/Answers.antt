use Rattle.le.proofs.Laws.{to64}
use Rattle.le.proofs.put_u64.Goals as goal

pub returns : goal.returns
returns c = rw (c.put_bytes.ensures.stored, c.to_le_bytes.ensures, to64 c.args.x)

use Rattle.le.proofs.Laws.{to32}
use Rattle.le.proofs.put_u32.Goals as goal

pub returns : goal.returns
returns c = rw (c.put_bytes.ensures.stored, c.to_le_bytes.ensures, to32 c.args.x)

use Rattle.le.specs.Le.{bytes}
use Rattle.le.proofs.put_u16.Goals as goal

pub returns : goal.returns
unfolding bytes
returns c = rw (c.put_bytes.ensures.stored, c.to_le_bytes.ensures)

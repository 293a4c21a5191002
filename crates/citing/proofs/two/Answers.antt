use Rattle.citing.proofs.two.Goals as goal

pub returns : goal.returns
returns c = rw c.u16_at.ensures

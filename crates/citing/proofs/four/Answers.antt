use Rattle.citing.proofs.four.Goals as goal

pub returns : goal.returns
returns c = rw c.u32_at.ensures

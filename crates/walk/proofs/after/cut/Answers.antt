use Rattle.walk.proofs.after.cut.Goals as goal

pub returns : goal.returns
returns c = rw (c.saturating_sub.ensures, c.due_if.ensures)

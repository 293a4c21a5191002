use Rattle.writer.proofs.agree.same_count.Goals as goal

pub returns : goal.returns
returns c = rw (c.both-2.ensures, c.both.ensures)

use Rattle.writer.proofs.agree.same_rest.Goals as goal

pub returns : goal.returns
returns c = rw (c.both-2.ensures, c.both.ensures, c.both-data.ensures)

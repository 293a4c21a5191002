use Rattle.writer.proofs.agree.same_present.Goals as goal

pub returns : goal.returns
returns c = rw (c.both-2.ensures, c.both.ensures, c.both-kind.ensures, c.both-masks.ensures)

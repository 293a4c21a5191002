use Rattle.citing.specs.Answers.{cited_at}
use Rattle.citing.proofs.answers.cited.Goals as goal

pub returns : goal.returns
unfolding cited_at
returns c = rw (c.code.ensures, c.four-3.ensures, c.four-2.ensures, c.four.ensures, c.two-bin_length.ensures)

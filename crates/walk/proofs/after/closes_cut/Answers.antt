use Rattle.walk.specs.After.{closes_cut}
use Rattle.walk.proofs.after.closes_cut.Goals as goal

pub returns : goal.returns
unfolding closes_cut
returns c = rw c.closing.ensures

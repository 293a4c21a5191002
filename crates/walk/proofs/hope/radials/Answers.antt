use Rattle.walk.specs.Hope.{radials_hope}
use Rattle.walk.proofs.hope.radials.Goals as goal

pub returns : goal.returns
unfolding radials_hope
returns c = rw (c.radials_can_after.ensures, c.closes_cut.ensures)

use Rattle.walk.specs.Hope.{moments_hope}
use Rattle.walk.proofs.hope.moments.Goals as goal

pub returns : goal.returns
unfolding moments_hope
returns c = c.moments_can.ensures

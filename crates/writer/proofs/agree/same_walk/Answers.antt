use Rattle.writer.specs.Agree.{same_walk}
use Rattle.writer.proofs.agree.same_walk.Goals as goal

pub returns : goal.returns
unfolding same_walk
returns c =
    rw (
      c.both-2.ensures,
      c.both.ensures,
      c.both-radial.ensures,
      c.same_rest.ensures,
      c.same_present.ensures,
      c.both-settled.ensures,
      c.same_count.ensures,
      c.same_plan.ensures,
      c.both-place.ensures,
      c.rank-2.ensures,
      c.rank.ensures,
    )

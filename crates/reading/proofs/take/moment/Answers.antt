use native.Mathlib.Omega.{arith}
use Rattle.reading.specs.Step.{take_moment, hope_after_moment}
use Rattle.reading.proofs.Rooms.{fits-room, past_room}
use Rattle.reading.proofs.take.moment.Goals as goal

pub returns-then-at-gt-MOST : goal.returns-then-at-gt-MOST
returns-then-at-gt-MOST c = past_room _ _ (omega arith)

pub returns : goal.returns
unfolding take_moment hope_after_moment
returns c = rw (c.hoping.ensures, c.moments.ensures, c.settle-says.ensures, c.check.ensures, c.moment_due.ensures, c.moment-next.ensures) (fits-room _ _ (omega arith))

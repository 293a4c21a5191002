use native.Mathlib.Omega.{arith}
use Rattle.reading.specs.Step.{take_cut}
use Rattle.reading.proofs.Rooms.{fits-room, past_room}
use Rattle.reading.proofs.take.cut.Goals as goal

pub returns-then-at-gt-MOST : goal.returns-then-at-gt-MOST
returns-then-at-gt-MOST c = past_room _ _ (omega arith)

pub returns : goal.returns
unfolding take_cut
returns c = rw (c.hoping.ensures, c.some_moment.ensures, c.settle-says.ensures, c.cut.ensures, c.check.ensures) (fits-room _ _ (omega arith))

use native.Mathlib.Omega.{arith}
use Rattle.reading.proofs.Rooms.{fits-room, past_room}
use Rattle.reading.proofs.take.radial.Goals as goal

pub returns-then-at-gt-MOST : goal.returns-then-at-gt-MOST
returns-then-at-gt-MOST c = past_room _ _ (omega arith)

pub returns : goal.returns
returns c = rw (c.hoping.ensures, c.radial.ensures, c.settle-says.ensures, c.check.ensures, c.radial_due.ensures, c.radial-next.ensures) (fits-room _ _ (omega arith))

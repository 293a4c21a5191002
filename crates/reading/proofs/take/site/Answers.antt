use native.Mathlib.Omega.{arith}
use Rattle.reading.specs.Step.{take_site}
use Rattle.reading.proofs.Rooms.{fits-room, past_room}
use Rattle.reading.proofs.take.site.Goals as goal

pub returns-then-at-gt-MOST : goal.returns-then-at-gt-MOST
returns-then-at-gt-MOST c = past_room _ _ (omega arith)

pub returns : goal.returns
unfolding take_site
returns c = rw (c.settle.ensures, c.site.ensures, c.check.ensures) (fits-room _ _ (omega arith))

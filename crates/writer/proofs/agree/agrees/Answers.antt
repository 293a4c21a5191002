use mathlib.Core.Path.{sym}
use native.Mathlib.Omega.{arith}
use borrow.Author.Tests.{le-leb, lt-leb}
use lib.Seq.{length-take-le}
use Rattle.writer.specs.Agree.{agrees}
use Rattle.writer.proofs.agree.agrees.Goals as goal

pub returns-then-room-at : goal.returns-then-room-at
unfolding agrees
returns-then-room-at c = rw (lt-leb _ _ c.if-room-at.true)

pub slice_bounds-state_of-end : goal.slice_bounds-state_of-end
slice_bounds-state_of-end c =
    let a = c.args in
    sym (length-take-le a.w.at a.room.now (omega arith))

pub returns : goal.returns
unfolding agrees
returns c =
    rw (le-leb _ _ c.if-room-at.false, ← c.state_of-read.ensures) c.same_walk.ensures

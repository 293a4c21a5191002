use borrow.Author.Tests.{lt-ltb, le-ltb}
use Rattle.walk.specs.Due.{due_if}
use Rattle.walk.specs.After.{after_data}
use Rattle.walk.proofs.after.data.Goals as goal

pub returns-then-w-gt0 : goal.returns-then-w-gt0
unfolding after_data due_if
returns-then-w-gt0 c = rw (lt-ltb _ _ c.if-w-gt0.true)

pub returns-then-not-closes_cut : goal.returns-then-not-closes_cut
unfolding after_data due_if
returns-then-not-closes_cut c = rw (le-ltb _ _ c.if-w-gt0.false, ← c.closes_cut.ensures, c.if-not-closes_cut.true)

pub returns-then-w : goal.returns-then-w
unfolding after_data due_if
returns-then-w c =
    let w = c.args.w in
    rw (le-ltb _ _ c.if-w-gt0.false, ← c.closes_cut.ensures, c.if-not-closes_cut.false, lt-ltb w.count.cut w.plan.cuts c.if-w.true)

pub returns : goal.returns
unfolding after_data due_if
returns c =
    let w = c.args.w in
    rw (le-ltb _ _ c.if-w-gt0.false, ← c.closes_cut.ensures, c.if-not-closes_cut.false, le-ltb w.count.cut w.plan.cuts c.if-w.false)

use borrow.Author.Tests.{lt-ltb, le-ltb, eq-eqb, ne_eqb}
use Rattle.writer.specs.Put.{answer_to}
use Rattle.writer.proofs.order.answer_to.Goals as goal

pub returns-then-len-at : goal.returns-then-len-at
unfolding answer_to
returns-then-len-at c = rw (lt-ltb _ _ c.if-len-at.true)

pub returns-then-is_end : goal.returns-then-is_end
unfolding answer_to
returns-then-is_end c = rw (le-ltb _ _ c.if-len-at.false, ← c.is_end.ensures, c.if-is_end.true)

pub returns-then-rank : goal.returns-then-rank
unfolding answer_to
returns-then-rank c =
    rw (le-ltb _ _ c.if-len-at.false, ← c.is_end.ensures, c.if-is_end.false, ← c.rank.ensures, ← c.rank-2.ensures, ne_eqb _ _ c.if-rank.true)

pub returns : goal.returns
unfolding answer_to
returns c =
    rw (le-ltb _ _ c.if-len-at.false, ← c.is_end.ensures, c.if-is_end.false, ← c.rank.ensures, ← c.rank-2.ensures, eq-eqb _ _ c.if-rank.false, ← c.last_tests.ensures)
    c.checked.ensures

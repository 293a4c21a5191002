use mathlib.Core.Path.{sym, ◌∙◌}
use Prim.Native.Nat.{◌+◌}
use borrow.Author.Tests.{leb-true}
use lib.ListN.{length}
use Rattle.le.proofs.Laws.{stored-yes, stored_no, laid_over}
use Rattle.le.proofs.put.Goals as goal

pub returns-then-has : goal.returns-then-has
returns-then-has c =
    let s = c.args in
    let h = leb-true (s.at + length s.src.now) (length s.room.now) (sym c.has.ensures ∙ c.if-has.true) in
    laid_over s.room.now s.at s.src.now h c.copy_from_slice.ensures.after
    ∙ sym (stored-yes (length s.src.now) s.room.now s.at s.src.now (sym c.has.ensures ∙ c.if-has.true))

pub returns-else-has : goal.returns-else-has
returns-else-has c =
    let s = c.args in
    sym (stored_no (length s.src.now) s.room.now s.at s.src.now (sym c.has.ensures ∙ c.if-has.false))

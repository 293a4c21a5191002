use mathlib.Core.Path.{sym, ◌∙◌}
use Prim.Native.Nat.{◌+◌}
use borrow.Author.Tests.{leb-true}
use lib.ListN.{length}
use Rattle.le.proofs.Laws.{stored-yes, stored_no}
use Rattle.generic.specs.Generic.{generic_bytes}
use Rattle.generic.proofs.Generic.write.Goals as goal

pub write_here-requires : goal.write_here-requires
write_here-requires c =
    let s = c.args in
    leb-true (s.at + 32) (length s.room.now) (sym c.has.ensures ∙ c.if-has.true)

pub returns-then-has : goal.returns-then-has
returns-then-has c =
    let s = c.args in
    c.write_here.ensures
    ∙ sym (stored-yes 32 s.room.now s.at (generic_bytes s.self) (sym c.has.ensures ∙ c.if-has.true))

pub returns-else-has : goal.returns-else-has
returns-else-has c =
    let s = c.args in
    sym (stored_no 32 s.room.now s.at (generic_bytes s.self) (sym c.has.ensures ∙ c.if-has.false))

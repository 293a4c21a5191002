use mathlib.Core.Path.{sym, ◌∙◌}
use Prim.Native.Nat.{◌+◌, ◌*◌}
use borrow.Author.Tests.{leb-true}
use lib.ListN.{length}
use Rattle.le.specs.Le.{run}
use Rattle.le.proofs.Laws.{stored-yes, stored_no}
use Rattle.old.specs.Codes.{new_bytes}
use Rattle.old.proofs.codes.put_codes.Goals as goal

pub put_codes_here-requires : goal.put_codes_here-requires
put_codes_here-requires c =
    let s = c.args in
    leb-true (s.at + 2 * length s.codes.now) (length s.room.now)
    (sym c.has.ensures ∙ c.if-has.true)

pub returns-then-has : goal.returns-then-has
returns-then-has c =
    let s = c.args in
    let fits = sym c.has.ensures ∙ c.if-has.true in
    c.put_codes_here.ensures
    ∙ sym (stored-yes (2 * length s.codes.now) s.room.now s.at (run new_bytes s.codes.now) fits)

pub returns-else-has : goal.returns-else-has
returns-else-has c =
    let s = c.args in
    let not = sym c.has.ensures ∙ c.if-has.false in
    sym (stored_no (2 * length s.codes.now) s.room.now s.at (run new_bytes s.codes.now) not)

use Prim.Native.Nat.{◌+◌}
use native.Mathlib.Omega.{arith}
use mathlib.Core.Path.{sym, ◌∙◌}
use borrow.Author.Tests.{leb-true, leb-false}
use Rattle.reading.specs.Step.{take_data}
use Rattle.reading.proofs.Rooms.{fits-room, past_room}
use Rattle.reading.proofs.take.data.Goals as goal

pub overflow_add-at : goal.overflow_add-at
overflow_add-at c =
    let w = c.args.w in
    let h = leb-true (w.at + w.rest.length) 9223372036854775807 (sym c.has.ensures ∙ c.if-has.true) in
    omega arith

pub returns-then-has : goal.returns-then-has
unfolding take_data
returns-then-has c =
    let w = c.args.w in
    let h = leb-true (w.at + w.rest.length) 9223372036854775807 (sym c.has.ensures ∙ c.if-has.true) in
    rw c.data.ensures (fits-room (w.at + w.rest.length) _ (omega arith))

pub returns : goal.returns
returns c =
    let w = c.args.w in
    let h = leb-false (w.at + w.rest.length) 9223372036854775807 (sym c.has.ensures ∙ c.if-has.false) in
    past_room (w.at + w.rest.length) _ (omega arith)

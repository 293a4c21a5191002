use Prim.Native.Nat.{ℕ, ◌+◌}
use mathlib.Core.Path.{◌≡◌, sym, ◌∙◌}
use native.Mathlib.Omega.{arith}
use borrow.Author.Tests.{eqb-true}
use lib.Dec.{eqb}
use Rattle.walk.specs.declared.due.Due.TheVariants as due
use Rattle.walk.specs.declared.due.Walk.{Walk}
use Rattle.walk.specs.After.{after_data}
use Rattle.reading.specs.declared.step.Step.TheVariants.{Took}
use Rattle.reading.specs.Step.{take_data}
use Rattle.writer.specs.declared.order.Answer.{Answer}
use Rattle.writer.specs.declared.order.Answer.TheVariants.{Taken, Refused}
use Rattle.writer.specs.declared.order.Put.{Put}
use Rattle.writer.specs.Put.{checked, answer_to, next_of, settled, settled_by}
use Rattle.writer.proofs.Putting.{passed}
use Rattle.writer.proofs.settle.data.Goals as goal

-- data has no rule, whatever the walk after it
module _ (w : Walk) (size room : ℕ) {x : Answer} (e : x ≡ answer_to due.Data (Took w) (eqb size w.rest.length) size w room) where
  no-rule : x ≡ answer_to due.Data (take_data w) (eqb size w.rest.length) size w room
  unfolding take_data checked answer_to
  no-rule = e

  by_size : (n : Walk) {p : Put} → x ≡ Taken → n ≡ after_data w (w.at + size) → p ≡ record { answer = Taken; walk = n }
      → p ≡ settled_by due.Data (take_data w) (eqb size w.rest.length) size w room
  unfolding settled take_data next_of
  by_size n t m q =
      let whole = eqb-true size w.rest.length (passed _ _ _ _ w _ (sym e ∙ t)).whole in
      rw (sym no-rule ∙ t, q, m, whole)

  not_taken : (number place : ℕ) {p : Put} → x ≡ Refused number place → p ≡ record { answer = Refused number place; walk = w }
      → p ≡ settled_by due.Data (take_data w) (eqb size w.rest.length) size w room
  unfolding settled
  not_taken number place t q = rw (sym no-rule ∙ t, q)

pub overflow_add-at : goal.overflow_add-at
overflow_add-at c =
    let a = c.args in
    let h = (passed _ _ _ _ a.w _ (sym c.answer_to.ensures ∙ c.in-Taken.is)).suffices in
    omega arith

pub returns-in-Taken : goal.returns-in-Taken
returns-in-Taken c =
    let a = c.args in
    by_size a.w a.size _ c.answer_to.ensures _ c.in-Taken.is c.data.ensures c.taken.ensures

pub returns-in-Refused : goal.returns-in-Refused
returns-in-Refused c =
    let a = c.args in
    not_taken a.w a.size _ c.answer_to.ensures _ _ c.in-Refused.is c.refused.ensures

use mathlib.Core.Path.{◌≡◌, sym, ◌∙◌}
use Prim.Native.Nat.{ℕ}
use Rattle.walk.specs.declared.due.Walk.{Walk}
use Rattle.reading.specs.declared.step.Step.{Step}
use Rattle.writer.specs.declared.order.Answer.{Answer}
use Rattle.writer.specs.declared.order.Answer.TheVariants.{Taken, Refused}
use Rattle.writer.specs.declared.order.Put.{Put}
use Rattle.writer.specs.Put.{next_of, settled}
use Rattle.writer.proofs.settle.settled.Goals as goal

by_answer : (s : Step) (w n : Walk) {x y : Answer} {p : Put} → x ≡ y → x ≡ Taken → n ≡ next_of s w → p ≡ record { answer = Taken; walk = n } → p ≡ settled y s w
unfolding settled
by_answer s w n e t m q = rw (sym e ∙ t, q, m)

not_taken : (s : Step) (w : Walk) (number place : ℕ) {x y : Answer} {p : Put} → x ≡ y → x ≡ Refused number place
    → p ≡ record { answer = Refused number place; walk = w } → p ≡ settled y s w
unfolding settled
not_taken s w number place e t q = rw (sym e ∙ t, q)

pub returns-in-Taken : goal.returns-in-Taken
returns-in-Taken c =
    let a = c.args in
    by_answer a.says a.w _ c.answer_to.ensures c.in-Taken.is c.next_of.ensures c.taken.ensures

pub returns-in-Refused : goal.returns-in-Refused
returns-in-Refused c =
    let a = c.args in
    not_taken a.says a.w _ _ c.answer_to.ensures c.in-Refused.is c.refused.ensures

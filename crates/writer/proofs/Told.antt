-- What a promise of the writer's allows is one thing: answers are told apart by what is told of them. Assumes nothing.
use Prim.Native.Nat.{ℕ}
use mathlib.Core.Path.{◌≡◌, refl, sym, ◌∙◌}
use mathlib.Core.List.{List}
use Rattle.writer.specs.declared.order.Answer.{Answer}
use Rattle.writer.specs.declared.order.Answer.TheVariants.{Taken, Refused}
use Rattle.writer.specs.declared.order.Put.{Put}
use Rattle.writer.specs.Put.{told_answer, Outcome, Puts}

pub told_is : (a b : Answer) → told_answer a ≡ told_answer b → a ≡ b
unfolding told_answer
told_is Taken Taken e = refl
told_is Taken (Refused n p) e = cc
told_is (Refused n p) Taken e = cc
told_is (Refused n p) (Refused m q) e = cc

-- two results that one outcome allows are the same, and so are the two rooms
pub puts-same : (o : Outcome) (p q : Put) (held other : List ℕ) → Puts o p held → Puts o q other → (p ≡ q) × (held ≡ other)
puts-same o p q held other a b =
    let answer = told_is p.answer q.answer (a.answer ∙ sym b.answer) in
    let walk = a.walk ∙ sym b.walk in
    (λ i. record { answer = answer i; walk = walk i }, a.room ∙ sym b.room)

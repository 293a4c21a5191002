-- What is sought among all moments is sought among those still to come. Assumes nothing.
use mathlib.Core.Path.{sym, ◌∙◌}
use borrow.Author.Tests.{eq-eqb, ne_eqb}
use Rattle.moments.specs.Moments.{find_in}
use Rattle.moments.proofs.Laws.{Goes, there, end}
use Rattle.moments.proofs.find.Goals as goal

pub loop-at-init : goal.loop-at-init
loop-at-init c = rw c.first-p.ensures

-- the step that was taken
step : (c : goal.In-Some) → Goes c.args.b.now c.loop-at.p c.in-Some.at c.in-Some.q
step c = there _ _ _ _ (sym c.next.ensures ∙ c.in-Some.is)

pub type_at-requires : goal.type_at-requires
type_at-requires c = (step c).within

step-2 : (c : goal.Then-type_at-t) → Goes c.args.b.now c.loop-at.p c.in-Some.at c.in-Some.q
step-2 c = there _ _ _ _ (sym c.next.ensures ∙ c.in-Some.is)

pub returns-then-type_at-t : goal.returns-then-type_at-t
unfolding find_in
returns-then-type_at-t c =
    sym (c.loop-at.invariant
    ∙ rw ((step-2 c).more, ← c.type_at.ensures, eq-eqb _ _ c.if-type_at-t.true))

step-3 : (c : goal.Else-type_at-t) → Goes c.args.b.now c.loop-at.p c.in-Some.at c.in-Some.q
step-3 c = there _ _ _ _ (sym c.next.ensures ∙ c.in-Some.is)

pub loop-at-smaller : goal.loop-at-smaller
loop-at-smaller c = (step-3 c).fewer

pub loop-at-preserved : goal.loop-at-preserved
unfolding find_in
loop-at-preserved c =
    c.loop-at.invariant
    ∙ rw ((step-3 c).more, ← c.type_at.ensures, ne_eqb _ _ c.if-type_at-t.false)

pub returns-in-None : goal.returns-in-None
unfolding find_in
returns-in-None c =
    let none = end _ _ (sym c.next.ensures ∙ c.in-None.is) in
    sym (c.loop-at.invariant ∙ rw none)

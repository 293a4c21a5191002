-- By the cases and the test of the definition. Assumes nothing.
use mathlib.Core.Bool.{Bool, cond}
use mathlib.Core.Path.{sym, ap, ◌∙◌}
use borrow.Author.Tests.{eq-eqb, ne_eqb}
use lib.Dec.{eqb}
use Rattle.std.specs.Prelude.{Option, Some, None}
use Rattle.reading.specs.declared.Stretch.{Stretch}
use Rattle.pick.specs.Pick.{or_else}
use Rattle.pick.proofs.plan.first_empty.Goals as goal

pub returns-then-moments-eq0 : goal.returns-then-moments-eq0
unfolding or_else
returns-then-moments-eq0 c =
    let a = c.args in
    sym (ap (λ (x : Option Stretch). or_else x (cond (eqb a.moments 0) (Some a.s) None)) c.in-None.is
    ∙ ap (λ (b : Bool). cond b (Some a.s) None) (eq-eqb a.moments 0 c.if-moments-eq0.true))

pub returns-in-Some : goal.returns-in-Some
unfolding or_else
returns-in-Some c =
    let a = c.args in
    let e = c.in-Some.is in
    e ∙ sym (ap (λ (x : Option Stretch). or_else x (cond (eqb a.moments 0) (Some a.s) None)) e)

pub returns-else-moments-eq0 : goal.returns-else-moments-eq0
unfolding or_else
returns-else-moments-eq0 c =
    let a = c.args in
    let e = c.in-None.is in
    e
    ∙ sym (ap (λ (x : Option Stretch). or_else x (cond (eqb a.moments 0) (Some a.s) None)) e
    ∙ ap (λ (b : Bool). cond b (Some a.s) None) (ne_eqb a.moments 0 c.if-moments-eq0.false))

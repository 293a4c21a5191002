-- The loop's walks lead to the same whole radial, or stop. Assumes nothing.
use mathlib.Core.Path.{◌≡◌, refl, sym, subst⁻¹, ◌∙◌}
use mathlib.Core.Bool.{true, false}
use Rattle.reading.specs.declared.step.Step.TheVariants.{Took}
use Rattle.reading.specs.Step.{step_of}
use Rattle.reading.specs.Reading.{advance_if}
use Rattle.reading.proofs.Run.{taken, Stays}
use Rattle.reading.proofs.Loops.{advance-step, advance-stops}
use Rattle.reading.proofs.by_steps.Goals as goal

pub loop-n-init : goal.loop-n-init
loop-n-init c = (c.requires, refl)

pub returns-then-ends_radial : goal.returns-then-ends_radial
unfolding advance_if
returns-then-ends_radial c =
    let e = sym c.step_at.ensures ∙ c.in-Took.is in
    sym (c.loop-n.invariant.1 ∙ advance-step c.args.file.now c.loop-n.w c.in-Took.n true e (sym c.ends_radial.ensures ∙ c.if-ends_radial.true))

pub loop-n-smaller : goal.loop-n-smaller
loop-n-smaller c =
    let e = sym c.step_at.ensures ∙ c.in-Took.is in
    (taken c.args.file.now c.loop-n.w c.in-Took.n e).less

pub loop-n-preserved : goal.loop-n-preserved
unfolding advance_if
loop-n-preserved c =
    let f = c.args.file.now in
    let n = c.in-Took.n in
    let e : step_of f c.loop-n.w ≡ Took n = sym c.step_at.ensures ∙ c.in-Took.is in
    ((taken f c.loop-n.w n e).within, c.loop-n.invariant.1 ∙ advance-step f c.loop-n.w n false e (sym c.ends_radial.ensures ∙ c.if-ends_radial.false))

pub returns-in-Open : goal.returns-in-Open
unfolding Stays
returns-in-Open c =
    sym (c.loop-n.invariant.1 ∙ advance-stops c.args.file.now c.loop-n.w (subst⁻¹ Stays (sym c.step_at.ensures ∙ c.in-Open.is) tt))

pub returns-in-Refused : goal.returns-in-Refused
unfolding Stays
returns-in-Refused c =
    sym (c.loop-n.invariant.1 ∙ advance-stops c.args.file.now c.loop-n.w (subst⁻¹ Stays (sym c.step_at.ensures ∙ c.in-Refused.is) tt))

pub returns-in-Complete : goal.returns-in-Complete
unfolding Stays
returns-in-Complete c =
    sym (c.loop-n.invariant.1 ∙ advance-stops c.args.file.now c.loop-n.w (subst⁻¹ Stays (sym c.step_at.ensures ∙ c.in-Complete.is) tt))

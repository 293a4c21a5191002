-- The loop's walks come to the same whole radial, or stop. Assumes nothing.
use mathlib.Core.Path.{◌≡◌, refl, sym, subst, ◌∙◌}
use native.Mathlib.Omega.{arith}
use Rattle.walk.specs.declared.due.Due.TheVariants as due
use Rattle.reading.specs.declared.step.Step.TheVariants.{Took}
use Rattle.reading.specs.Step.{step_of}
use Rattle.reading.specs.Reading.{advance_of}
use Rattle.reading.proofs.Run.{taken, Stays}
use Rattle.reading.proofs.Loops.{advance-stops}
use Rattle.reading.proofs.Known.{not-took, moment-then, moment-on, data-then, data-on, data-last}
use Rattle.reading.proofs.whole.moments_from.Goals as goal

pub loop-m-init : goal.loop-m-init
loop-m-init c = (c.requires.at_in_bounds, c.requires.due_value, refl)

pub returns-in_default : goal.returns-in_default
returns-in_default c =
    sym (c.loop-m.invariant.2 ∙ advance-stops c.args.file.now c.loop-m.w (subst Stays c.moment_step.ensures (not-took _ c.in_default.not-Took)))

-- the two blocks of a turn
took-m : (c : goal.In-Took) → step_of c.args.file.now c.loop-m.w ≡ Took c.in-Took.m
took-m c = sym c.moment_step.ensures ∙ c.in-Took.is

is-data : (c : goal.In-Took) → c.in-Took.m.due ≡ due.Data
is-data c = moment-then c.args.file.now c.loop-m.w c.in-Took.m (took-m c) c.loop-m.invariant.1

pub data_step-requires : goal.data_step-requires
data_step-requires c =
    record { at_in_bounds = (taken _ _ _ (took-m c)).within; due_value = is-data c }

took-m-2 : (c : goal.In_default-data_step) → step_of c.args.file.now c.loop-m.w ≡ Took c.in-Took.m
took-m-2 c = sym c.moment_step.ensures ∙ c.in-Took.is

to-m : (c : goal.In_default-data_step) → advance_of c.args.file.now c.args.from ≡ advance_of c.args.file.now c.in-Took.m
to-m c =
    c.loop-m.invariant.2 ∙ moment-on c.args.file.now c.loop-m.w c.in-Took.m (took-m-2 c) c.loop-m.invariant.1

pub returns-in_default-data_step : goal.returns-in_default-data_step
returns-in_default-data_step c =
    sym (to-m c ∙ advance-stops c.args.file.now c.in-Took.m (subst Stays c.data_step.ensures (not-took _ c.in_default-data_step.not-Took)))

took-m-3 : (c : goal.Then-m-eq0) → step_of c.args.file.now c.loop-m.w ≡ Took c.in-Took.m
took-m-3 c = sym c.moment_step.ensures ∙ c.in-Took.is

to-m-2 : (c : goal.Then-m-eq0) → advance_of c.args.file.now c.args.from ≡ advance_of c.args.file.now c.in-Took.m
to-m-2 c =
    c.loop-m.invariant.2 ∙ moment-on c.args.file.now c.loop-m.w c.in-Took.m (took-m-3 c) c.loop-m.invariant.1

took-n : (c : goal.Then-m-eq0) → step_of c.args.file.now c.in-Took.m ≡ Took c.in-Took-data_step.n
took-n c = sym c.data_step.ensures ∙ c.in-Took-data_step.is

is-data-2 : (c : goal.Then-m-eq0) → c.in-Took.m.due ≡ due.Data
is-data-2 c = moment-then c.args.file.now c.loop-m.w c.in-Took.m (took-m-3 c) c.loop-m.invariant.1

pub returns-then-m-eq0 : goal.returns-then-m-eq0
returns-then-m-eq0 c =
    sym (to-m-2 c ∙ data-last _ c.in-Took.m _ (took-n c) (is-data-2 c) c.if-m-eq0.true)

took-m-4 : (c : goal.Else-m-eq0) → step_of c.args.file.now c.loop-m.w ≡ Took c.in-Took.m
took-m-4 c = sym c.moment_step.ensures ∙ c.in-Took.is

took-n-2 : (c : goal.Else-m-eq0) → step_of c.args.file.now c.in-Took.m ≡ Took c.in-Took-data_step.n
took-n-2 c = sym c.data_step.ensures ∙ c.in-Took-data_step.is

pub loop-m-smaller : goal.loop-m-smaller
loop-m-smaller c =
    let a = (taken _ _ _ (took-m-4 c)).less in
    let b = (taken _ _ _ (took-n-2 c)).less in
    omega arith

is-data-3 : (c : goal.Else-m-eq0) → c.in-Took.m.due ≡ due.Data
is-data-3 c = moment-then c.args.file.now c.loop-m.w c.in-Took.m (took-m-4 c) c.loop-m.invariant.1

to-m-3 : (c : goal.Else-m-eq0) → advance_of c.args.file.now c.args.from ≡ advance_of c.args.file.now c.in-Took.m
to-m-3 c =
    c.loop-m.invariant.2 ∙ moment-on c.args.file.now c.loop-m.w c.in-Took.m (took-m-4 c) c.loop-m.invariant.1

pub loop-m-preserved : goal.loop-m-preserved
loop-m-preserved c =
    let e = took-n-2 c in
    ((taken _ _ _ e).within, data-then _ c.in-Took.m _ e (is-data-3 c) c.if-m-eq0.false, to-m-3 c ∙ data-on _ c.in-Took.m _ e (is-data-3 c) c.if-m-eq0.false)

pub moment_step-requires : goal.moment_step-requires
moment_step-requires c = record { at_in_bounds = c.loop-m.invariant.0; due_value = c.loop-m.invariant.1 }

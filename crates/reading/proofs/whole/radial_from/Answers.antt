use mathlib.Core.Path.{◌≡◌, sym, subst, ◌∙◌}
use Rattle.reading.specs.declared.step.Step.TheVariants.{Took}
use Rattle.reading.specs.Step.{step_of}
use Rattle.reading.proofs.Run.{taken, Stays}
use Rattle.reading.proofs.Loops.{advance-stops}
use Rattle.reading.proofs.Known.{not-took, radial-then, radial-on}
use Rattle.reading.proofs.whole.radial_from.Goals as goal

pub returns-in_default : goal.returns-in_default
returns-in_default c =
    sym (advance-stops c.args.file.now c.args.w (subst Stays c.radial_step.ensures (not-took _ c.in_default.not-Took)))

took-n : (c : goal.In-Took) → step_of c.args.file.now c.args.w ≡ Took c.in-Took.n
took-n c = sym c.radial_step.ensures ∙ c.in-Took.is

pub moments_from-requires : goal.moments_from-requires
moments_from-requires c =
    record { at_in_bounds = (taken _ _ _ (took-n c)).within; due_value = radial-then c.args.file.now c.args.w _ (took-n c) c.requires.due_value }

took-n-2 : (c : goal.After-moments_from) → step_of c.args.file.now c.args.w ≡ Took c.in-Took.n
took-n-2 c = sym c.radial_step.ensures ∙ c.in-Took.is

pub returns : goal.returns
returns c =
    c.moments_from.ensures ∙ sym (radial-on c.args.file.now c.args.w _ (took-n-2 c) c.requires.due_value)

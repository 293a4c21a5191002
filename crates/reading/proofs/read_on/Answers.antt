-- The loop's walks are those of the reading. Assumes nothing.
use mathlib.Core.Path.{◌≡◌, refl, sym, ◌∙◌}
use Rattle.reading.specs.declared.step.Step.TheVariants.{Took, Open, Refused, Complete}
use Rattle.reading.specs.Step.{step_of}
use Rattle.reading.specs.Reading.{verdict_told, ending_told}
use Rattle.reading.proofs.Run.{taken, Stays}
use Rattle.reading.proofs.Loops.{last_step}
use Rattle.reading.proofs.Counts.{tells}
use Rattle.reading.proofs.read_on.Goals as goal

pub loop-n-init : goal.loop-n-init
loop-n-init c = (c.requires.at_in_bounds, c.requires.file_value)

pub loop-n-smaller : goal.loop-n-smaller
loop-n-smaller c =
    (taken c.args.file.now c.loop-n.w c.in-Took.n (sym c.step_at.ensures ∙ c.in-Took.is)).less

pub loop-n-preserved : goal.loop-n-preserved
loop-n-preserved c =
    let f = c.args.file.now in
    let n = c.in-Took.n in
    let e : step_of f c.loop-n.w ≡ Took n = sym c.step_at.ensures ∙ c.in-Took.is in
    ((taken f c.loop-n.w n e).within, c.loop-n.invariant.1 ∙ last_step f c.loop-n.w n e)

pub returns-in-Open : goal.returns-in-Open
unfolding verdict_told ending_told Stays
returns-in-Open c =
    tells c.args.file.now c.loop-n.w (Open _) _ c.loop-n.invariant.1 (sym c.step_at.ensures ∙ c.in-Open.is) tt refl

pub returns-in-Refused : goal.returns-in-Refused
unfolding verdict_told ending_told Stays
returns-in-Refused c =
    tells c.args.file.now c.loop-n.w (Refused _ _) _ c.loop-n.invariant.1 (sym c.step_at.ensures ∙ c.in-Refused.is) tt refl

pub returns-in-Complete : goal.returns-in-Complete
unfolding verdict_told ending_told Stays
returns-in-Complete c =
    tells c.args.file.now c.loop-n.w Complete _ c.loop-n.invariant.1 (sym c.step_at.ensures ∙ c.in-Complete.is) tt refl

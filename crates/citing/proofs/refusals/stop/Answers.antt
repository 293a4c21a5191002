-- The loop's walks are those of the reading. Assumes nothing.
use mathlib.Core.Path.{refl, sym, ◌∙◌}
use Rattle.reading.proofs.Loops.{further, stopped}
use Rattle.citing.proofs.refusals.stop.Goals as goal

pub loop-n-init : goal.loop-n-init
loop-n-init c = rw c.begin-w.ensures refl

pub loop-n-smaller : goal.loop-n-smaller
loop-n-smaller c =
    (further c.args.file.now c.loop-n.w _ _ (sym c.advance.ensures ∙ c.in-Whole.is)).less

pub loop-n-preserved : goal.loop-n-preserved
loop-n-preserved c =
    sym (further c.args.file.now c.loop-n.w _ _ (sym c.advance.ensures ∙ c.in-Whole.is)).stop ∙ c.loop-n.invariant

pub returns-in-Stopped : goal.returns-in-Stopped
returns-in-Stopped c =
    sym (stopped c.args.file.now c.loop-n.w _ (sym c.advance.ensures ∙ c.in-Stopped.is)) ∙ c.loop-n.invariant

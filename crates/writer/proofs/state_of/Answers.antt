-- The loop's walks are those of the reading. Assumes nothing.
use mathlib.Core.Path.{sym, ◌∙◌}
use Rattle.reading.specs.Reading.{stop}
use Rattle.reading.proofs.Loops.{further, stopped}
use Rattle.writer.proofs.state_of.Goals as goal

pub loop-n-init : goal.loop-n-init
loop-n-init c = rw c.begin-w.ensures

pub loop-n-smaller : goal.loop-n-smaller
loop-n-smaller c =
    (further c.args.written.now c.loop-n.w _ _ (sym c.advance.ensures ∙ c.in-Whole.is)).less

pub loop-n-preserved : goal.loop-n-preserved
loop-n-preserved c =
    c.loop-n.invariant ∙ (further c.args.written.now c.loop-n.w _ _ (sym c.advance.ensures ∙ c.in-Whole.is)).stop

pub returns-in-Stopped : goal.returns-in-Stopped
returns-in-Stopped c =
    sym (c.loop-n.invariant ∙ stopped c.args.written.now c.loop-n.w _ (sym c.advance.ensures ∙ c.in-Stopped.is))

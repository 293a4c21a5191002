-- The loop's walk has passed all radials but those of its trace, and the last two that it passed decide with these. Assumes nothing.
use mathlib.Core.Path.{sym, ◌∙◌}
use Rattle.reading.proofs.Loops.{Further, further, no_more}
use Rattle.mend.proofs.Keeping.{from_start, from_more, from-none}
use Rattle.mend.proofs.keep.last_kept.Goals as goal

pub loop-s-init : goal.loop-s-init
loop-s-init c = rw c.begin-w.ensures (from_start _)

-- what a turn that found a further radial has
ahead : (c : goal.In-Whole) → Further c.args.file.now c.loop-s.w c.in-Whole.s c.in-Whole.n
ahead c =
    further c.args.file.now c.loop-s.w c.in-Whole.s c.in-Whole.n
    (sym c.advance.ensures ∙ c.in-Whole.is)

pub loop-s-smaller : goal.loop-s-smaller
loop-s-smaller c = (ahead c).less

pub loop-s-preserved : goal.loop-s-preserved
loop-s-preserved c =
    let l = c.loop-s in
    l.invariant ∙ from_more l.before l.newest _ _ _ (ahead c).more

pub returns-in-Stopped : goal.returns-in-Stopped
returns-in-Stopped c =
    let l = c.loop-s in
    c.kept_of.ensures ∙ sym (l.invariant ∙ from-none l.before l.newest _ (no_more c.args.file.now l.w _ (sym c.advance.ensures ∙ c.in-Stopped.is)))

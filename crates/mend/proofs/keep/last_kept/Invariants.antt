-- The loop's walk has passed all radials but those of its trace, and the last two that it passed decide with these. Assumes nothing.
use mathlib.Core.Path.{◌≡◌}
use Rattle.reading.specs.Reading.{trace, fuel}
use Rattle.reading.proofs.Run.{left}
use Rattle.mend.specs.Kept.{last_kept}
use Rattle.mend.proofs.Keeping.{last_from}
use Rattle.mend.proofs.keep.last_kept.Given as goal

abbrev pub invariant-loop-s : goal.invariant-loop-s
invariant-loop-s l = last_kept l.file ≡ last_from l.before l.newest (trace (fuel l.file) l.file l.w)

abbrev pub decreases-loop-s : goal.decreases-loop-s
decreases-loop-s l = left l.file l.w

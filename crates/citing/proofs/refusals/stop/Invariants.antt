-- The loop's walks are those of the reading. Assumes nothing.
use mathlib.Core.Path.{◌≡◌}
use Rattle.reading.specs.Reading.{last, fuel, stop}
use Rattle.reading.proofs.Run.{left}
use Rattle.citing.proofs.refusals.stop.Given as goal

abbrev pub invariant-loop-n : goal.invariant-loop-n
invariant-loop-n l = last (fuel l.file) l.file l.w ≡ stop l.file

abbrev pub decreases-loop-n : goal.decreases-loop-n
decreases-loop-n l = left l.file l.w

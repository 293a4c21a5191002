-- The loop's walks are those of the reading. Assumes nothing.
use mathlib.Core.Path.{◌≡◌}
use Rattle.reading.specs.Reading.{stop, last, fuel}
use Rattle.reading.proofs.Run.{left}
use Rattle.writer.proofs.state_of.Given as goal

abbrev pub invariant-loop-n : goal.invariant-loop-n
invariant-loop-n l = stop l.written ≡ last (fuel l.written) l.written l.w

abbrev pub decreases-loop-n : goal.decreases-loop-n
decreases-loop-n l = left l.written l.w

-- The loop's walks are those of the reading. Assumes nothing.
use mathlib.Core.Path.{◌≡◌}
use Prim.Native.Nat.{◌≤◌}
use lib.ListN.{length}
use Rattle.reading.specs.Reading.{stop, last, fuel}
use Rattle.reading.proofs.Run.{left}
use Rattle.reading.proofs.read_on.Given as goal

abbrev pub invariant-loop-n : goal.invariant-loop-n
invariant-loop-n l = (l.w.at ≤ length l.file) × (stop l.file ≡ last (fuel l.file) l.file l.w)

abbrev pub decreases-loop-n : goal.decreases-loop-n
decreases-loop-n l = left l.file l.w

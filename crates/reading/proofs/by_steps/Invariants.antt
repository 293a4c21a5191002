-- The loop's walks lead to the same whole radial, or stop. Assumes nothing.
use mathlib.Core.Path.{◌≡◌}
use Prim.Native.Nat.{◌≤◌}
use lib.ListN.{length}
use Rattle.reading.specs.Reading.{advance_of}
use Rattle.reading.proofs.Run.{left}
use Rattle.reading.proofs.by_steps.Given as goal

abbrev pub invariant-loop-n : goal.invariant-loop-n
invariant-loop-n l = (l.w.at ≤ length l.file) × (advance_of l.file l.initial.w ≡ advance_of l.file l.w)

abbrev pub decreases-loop-n : goal.decreases-loop-n
decreases-loop-n l = left l.file l.w

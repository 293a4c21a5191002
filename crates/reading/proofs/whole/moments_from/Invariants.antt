-- The loop's walks come to the same whole radial, or stop. Assumes nothing.
use mathlib.Core.Path.{◌≡◌}
use Prim.Native.Nat.{◌≤◌}
use lib.ListN.{length}
use Rattle.walk.specs.declared.due.Due.TheVariants as due
use Rattle.reading.specs.Reading.{advance_of}
use Rattle.reading.proofs.Run.{left}
use Rattle.reading.proofs.whole.moments_from.Given as goal

abbrev pub invariant-loop-m : goal.invariant-loop-m
invariant-loop-m l = (l.w.at ≤ length l.file) × (l.w.due ≡ due.Moment) × (advance_of l.file l.initial.w ≡ advance_of l.file l.w)

abbrev pub decreases-loop-m : goal.decreases-loop-m
decreases-loop-m l = left l.file l.w

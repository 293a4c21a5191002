-- The loop's walk has passed as many whole radials as `before` has come down. Assumes nothing.
use mathlib.Core.Path.{◌≡◌}
use Prim.Native.Nat.{suc, ◌-◌}
use Rattle.reading.specs.Reading.{stretches, trace, fuel, nth}
use Rattle.reading.proofs.Run.{left}
use Rattle.reading.proofs.find.Given as goal

abbrev pub invariant-loop-stretch : goal.invariant-loop-stretch
invariant-loop-stretch l = nth (stretches l.file) l.sequence ≡ nth (trace (fuel l.file) l.file l.w) (suc l.before)

abbrev pub decreases-loop-stretch : goal.decreases-loop-stretch
decreases-loop-stretch l = left l.file l.w

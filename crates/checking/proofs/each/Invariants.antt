-- Each turn leaves at least eight bytes fewer, or none. Assumes nothing.
use Rattle.std.proofs.Common.{length}
use Rattle.checking.proofs.each.Given as goal

abbrev pub decreases-loop-rest : goal.decreases-loop-rest
decreases-loop-rest g l = length l.rest

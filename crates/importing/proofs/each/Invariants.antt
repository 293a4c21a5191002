-- Each turn leaves at least sixteen bytes fewer, or none. Assumes nothing.
use Rattle.std.proofs.Common.{length}
use Rattle.importing.proofs.each.Given as goal

abbrev pub decreases-loop-rest : goal.decreases-loop-rest
decreases-loop-rest g l = length l.rest

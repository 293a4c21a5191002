-- Each turn goes on by a case, which has at least twenty-eight bytes. Assumes nothing.
use Rattle.std.proofs.Common.{length}
use Rattle.picking.proofs.each.Given as goal

abbrev pub decreases-loop-rest : goal.decreases-loop-rest
decreases-loop-rest g l = length l.rest

-- No sum is too large, since a start has 3 bytes at the most. Assumes nothing.
use native.Mathlib.Omega.{arith}
use Rattle.index.proofs.Starts.{length-start}
use Rattle.index.proofs.making.second_at.Goals as goal

pub overflow_add-result : goal.overflow_add-result
overflow_add-result c = omega (arith, length-start c.args.cuts, c.start_length.ensures)

-- A start has 3 bytes at the most. Assumes nothing.
use native.Mathlib.Omega.{arith}
use Rattle.index.proofs.Starts.{length-start}
use Rattle.index.proofs.layout_for.Goals as goal

pub overflow_add-places : goal.overflow_add-places
overflow_add-places c = omega (arith, length-start c.args.cuts)

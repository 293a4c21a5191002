use native.Mathlib.Omega.{arith}
use lib.Count.{ones-le}
use Rattle.coming.proofs.ones_of.Goals as goal

pub overflow_cast-result : goal.overflow_cast-result
overflow_cast-result c = omega (arith, ones-le 64 c.args.x (omega arith))

use native.Mathlib.Omega.{arith}
use mir.Syntax.{w32}
use Rattle.gates.proofs.Signs.{sub-fits, sub_back}
use Rattle.gates.proofs.difference.Goals as goal

pub overflow_sub-result : goal.overflow_sub-result
overflow_sub-result c = sub-fits w32 c.args.code c.args.c.offset (omega arith) (omega arith)

pub returns : goal.returns
returns c = sub_back w32 c.args.code c.args.c.offset (omega arith) (omega arith)

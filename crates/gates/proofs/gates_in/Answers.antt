use mathlib.Core.Path.{sym}
use Rattle.gates.proofs.Codes.{length-one, length_two}
use Rattle.gates.proofs.gates_in.Goals as goal

pub returns-then-bin-eq1 : goal.returns-then-bin-eq1
returns-then-bin-eq1 c = sym (length-one c.args.bin c.args.bytes.now c.if-bin-eq1.true)

pub returns-else-bin-eq1 : goal.returns-else-bin-eq1
returns-else-bin-eq1 c = sym (length_two c.args.bin c.args.bytes.now c.if-bin-eq1.false)

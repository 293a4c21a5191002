use native.Mathlib.Omega.{arith}
use Rattle.rules.proofs.Order.{in-low, in-high, out}
use Rattle.rules.proofs.angles.azimuth_ok.Goals as goal

pub returns-in-2147483648 : goal.returns-in-2147483648
returns-in-2147483648 c = in-high 0x43B4_0000 0x8000_0000 c.args.bits (omega arith) (omega arith)

pub returns-in-0-to-1135869952 : goal.returns-in-0-to-1135869952
returns-in-0-to-1135869952 c = in-low 0x43B4_0000 0x8000_0000 c.args.bits (omega arith)

pub returns-in_default : goal.returns-in_default
returns-in_default c = out 0x43B4_0000 0x8000_0000 c.args.bits (omega arith) (λ h k. c.in_default.in_default-own.rest.1 (omega arith))

use native.Mathlib.Omega.{arith}
use Rattle.rules.proofs.Order.{in-low, in-high, out}
use Rattle.rules.proofs.angles.elevation_ok.Goals as goal

pub returns-in_default : goal.returns-in_default
returns-in_default c = out 0x42B4_0000 0xC000_0000 c.args.bits (omega arith) (λ h k. omega arith)

pub returns-in_default-2 : goal.returns-in_default-2
returns-in_default-2 c = out 0x42B4_0000 0xC000_0000 c.args.bits (omega arith) (λ h k. omega arith)

pub returns-in-0-to-1119092736 : goal.returns-in-0-to-1119092736
returns-in-0-to-1119092736 c = in-low 0x42B4_0000 0xC000_0000 c.args.bits (omega arith)

pub returns-in-0-to-1119092736-2 : goal.returns-in-0-to-1119092736-2
returns-in-0-to-1119092736-2 c = in-high 0x42B4_0000 0xC000_0000 c.args.bits (omega arith) (omega arith)

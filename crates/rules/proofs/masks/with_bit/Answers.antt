use Prim.Native.Nat.{◌-◌}
use native.Mathlib.Omega.{arith}
use Rattle.rules.specs.Masks.{with_bit}
use Rattle.rules.proofs.Numbers.{in-range, under, over, one_bit}
use Rattle.rules.proofs.masks.with_bit.Goals as goal

pub returns-in-1-to-64 : goal.returns-in-1-to-64
unfolding with_bit
returns-in-1-to-64 c = rw (in-range 1 64 _ c.in-1-to-64.if-t-lt1-own.false c.in-1-to-64.if-t-lt65-own.true, one_bit (c.args.t - 1) (omega arith))

pub returns-in_default : goal.returns-in_default
unfolding with_bit
returns-in_default c = rw (under 1 64 _ c.in_default.if-t-lt1-own.true)

pub returns-in_default-2 : goal.returns-in_default-2
unfolding with_bit
returns-in_default-2 c = rw (over 1 64 _ c.in_default.if-t-lt65-own.false)

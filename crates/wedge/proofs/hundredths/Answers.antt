use mathlib.Core.Logic.{◌⊎◌, inl, inr}
use mathlib.Core.Path.{◌≡◌}
use Prim.Native.Nat.{ℕ, ◌≤◌}
use native.Mathlib.Omega.{arith}
use lib.Ieee.{binary32, of_bits}
use Rattle.wedge.specs.Wedge.{Whole, turned}
use Rattle.wedge.proofs.Exact.{low, middle, at-full, minus-zero, azimuths}
use Rattle.wedge.proofs.hundredths.Goals as goal

pub returns-in-1006632960-to-1135869951 : goal.returns-in-1006632960-to-1135869951
returns-in-1006632960-to-1135869951 c = let b = c.args.bits in middle b c.in-1006632960-to-1135869951.if-bits-lt1135869952-own.true c.in-1006632960-to-1135869951.if-bits-lt1006632960-own.false

pub returns-in_default : goal.returns-in_default
returns-in_default c = let b = c.args.bits in low b (omega arith) c.in_default.if-bits-lt1006632960-own.true

-- 360 or minus zero
pub returns-in_default-2 : goal.returns-in_default-2
returns-in_default-2 c =
    go c.args.bits c.in_default.if-bits-lt1135869952-own.false (azimuths c.args.bits c.requires)
  where
    go : (b : ℕ) → 0x43B4_0000 ≤ b → (b ≤ 0x43B4_0000) ⊎ (b ≡ 0x8000_0000) → Whole (turned (of_bits binary32 b)) 0
    go b h (inl k) = let e : b ≡ 0x43B4_0000 = omega arith in rw e at-full
    go b h (inr e) = rw e minus-zero

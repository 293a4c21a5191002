-- Signed numbers: the test of two of them, and those of 32 bits raised by 2^31. Assumes nothing.
use mathlib.Core.Bool.{true, false≢true}
use mathlib.Core.Path.{◌≡◌, refl, sym, ap, ◌∙◌}
use Prim.Native.Nat.{ℕ, suc, ◌+◌, ◌-◌, ◌^◌, ◌<◌}
use native.Mathlib.Omega.{arith}
use borrow.Author.Tests.{le-ltb, eq-eqb, ne_eqb, eqb-true}
use lib.Dec.{eqb}
use lib.IntN.{ℤ, pos, negsuc, ◌+ℤ◌}
use mir.Syntax.{w32, w64}
use mir.Val.{SFits, of_z}
use Rattle.le.proofs.Tests.{eqb_same}
use Rattle.decoded.specs.Decoded.{eqℤ}

-- ---- the test of two numbers

pub eqℤ-true : (x y : ℤ) → eqℤ x y ≡ true → x ≡ y
eqℤ-true (pos m) (pos n) e = ap pos (eqb-true m n e)
eqℤ-true (pos m) (negsuc n) e = absurd (false≢true e)
eqℤ-true (negsuc m) (pos n) e = absurd (false≢true e)
eqℤ-true (negsuc m) (negsuc n) e = ap negsuc (eqb-true m n e)

pub eqℤ-own : (x : ℤ) → eqℤ x x ≡ true
eqℤ-own (pos m) = eq-eqb m m refl
eqℤ-own (negsuc m) = eq-eqb m m refl

-- ---- raised

-- a wider type has room for it
pub wide : (z : ℤ) → SFits w32 z → SFits w64 z
wide (pos n) f = let h = f.sfits in record { sfits = omega arith }
wide (negsuc n) f = let h = f.sfits in record { sfits = omega arith }

-- it is not below 0 any more, and has 32 bits
pub raised : (z : ℤ) → SFits w32 z → (n : ℕ) × (z +ℤ pos 2147483648 ≡ pos n) × (n < 2 ^ 32)
raised (pos n) f = let h = f.sfits in (n + 2147483648, refl, omega arith)
raised (negsuc n) f = let h = f.sfits in (2147483648 - suc n, rw (le-ltb 2147483648 (suc n) (omega arith)), omega arith)

pub raised-small : (z : ℤ) → SFits w32 z → (r : ℕ) → pos r ≡ z +ℤ pos 2147483648 → r < 2 ^ 32
raised-small z f r e =
    let n = raised z f in
    let x : pos r ≡ pos n.0 = e ∙ n.1 in
    let y : r ≡ n.0 = cc in
    let h = n.2 in
    omega arith

pub raised-pos : (n r : ℕ) → pos r ≡ pos n +ℤ pos 2147483648 → r ≡ n + 2147483648
raised-pos n r e = cc

pub raised-neg : (n r : ℕ) → SFits w32 (negsuc n) → pos r ≡ negsuc n +ℤ pos 2147483648 → r + suc n ≡ 2147483648
raised-neg n r f e =
    let h = f.sfits in
    let x : pos r ≡ pos (2147483648 - suc n) = rw (le-ltb 2147483648 (suc n) (omega arith)) at e in
    let y : r ≡ 2147483648 - suc n = cc in
    omega arith

-- the bits of 0, and of no other
pub is_zero : (z : ℤ) → SFits w32 z → eqb (of_z w32 z) 0 ≡ eqℤ (pos 0) z
is_zero (pos n) f = eqb_same n 0 0 n sym sym
is_zero (negsuc n) f = ne_eqb (4294967296 - suc n) 0 (λ e. let h = f.sfits in omega arith)

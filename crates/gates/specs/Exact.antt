-- What it is to carry a whole number over into a float without loss, and to divide by it (document 01, "What reading tells";
-- document 02, #105).
use Rattle.std.specs.Prelude.{false, cond, ◌≡◌, ℕ, ◌*◌, ◌≤◌, ◌<◌, ℤ, pos, neg_ℤ, nat_abs, Float}
use Rattle.std.specs.Float.{nan, inf, fin, binary64}
use Rattle.std.specs.Float.Ieee.{up, down, div}
use Rattle.gates.specs.declared.Coding.{Coding}
use Rattle.gates.specs.Gates.{difference_of, float_of}

-- a float is exactly a whole number: plus or minus m * 2 ^ e is that number, 2 ^ e being up e / down e
abbrev pub Exactly : Float → ℤ → Type 0
Exactly nan z = ⊥
Exactly (inf s) z = ⊥
Exactly (fin s m e) z = (m * up e ≡ nat_abs z * down e) × (z ≡ cond s (neg_ℤ (pos (nat_abs z))) (pos (nat_abs z)))

-- a float is neither a NaN nor an infinity
abbrev pub Finite : Float → Type 0
Finite nan = ⊥
Finite (inf s) = ⊥
Finite (fin s m e) = Unit {0}

-- a float is in size at least 1 / 65,536 and below 65,536: finite, and far from where a double overflows or underflows
abbrev pub Middling : Float → Type 0
Middling nan = ⊥
Middling (inf s) = ⊥
Middling (fin s m e) = (down e ≤ m * up e * 65536) × (m * up e < 65536 * down e)

-- a float is the double-precision quotient of two floats that are exactly two whole numbers. The division flags nothing but that it
-- is inexact: both floats are finite and the lower one is not 0, so it is neither invalid nor a division by zero; and the quotient
-- is 0 or middling, so it neither overflows nor underflows
pub record Quotient (difference : ℤ) (scale : ℕ) (x : Float) : Type 0 where
  pub upper : Float
  pub lower : Float
  pub upper_is : Exactly upper difference
  pub lower-is : Exactly lower (pos scale)
  pub divides : 1 ≤ scale
  pub quotient : x ≡ div binary64 upper lower
  pub at_zero : difference ≡ pos 0 → x ≡ fin false 0 (pos 0)
  pub size : (difference ≡ pos 0 → ⊥) → Middling x

-- the float of a value is the quotient of the code less the offset by the scale
abbrev pub Lossless : Coding → ℕ → Type 0
Lossless c code = Quotient (difference_of c code) c.scale (float_of c code)

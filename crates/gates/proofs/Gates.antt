-- Laws of specs/Gates: which types are measurements, what a code of 5 or more says, what is told beside a gate, the
-- hundredths on either side of the offset, and what a scale of 0 gives. Assumes nothing.
use mathlib.Core.Bool.{Bool, true, false, cond, not, ◌||◌, true≢false}
use mathlib.Core.Logic.{◌⊎◌, inl, inr, dite}
use mathlib.Core.Path.{◌≡◌, refl, sym, ap, ◌∙◌}
use mathlib.Core.List.{[], ◌∷◌}
use Prim.Native.Nat.{ℕ, zero, suc, ◌+◌, ◌-◌, ◌*◌, ◌≤◌, ◌<◌}
use native.Mathlib.Decide.{dec_lt}
use native.Mathlib.Nat.{div-le_self, div-zero}
use native.Mathlib.Omega.{arith}
use borrow.Author.Tests.{eq-eqb, ne_eqb, eqb-true}
use lib.Dec.{eqb}
use lib.IntN.{ℤ, pos, negsuc, neg_ℤ}
use lib.Ieee.{fin}
use lib.ListN.{get_or-eq_default}
use Rattle.gates.specs.declared.Coding.{Coding}
use Rattle.gates.specs.declared.Gate.{Gate}
use Rattle.gates.specs.declared.Gate.TheVariants.{BelowThreshold, RangeFolded, NotScanned, Unknown, Reserved, Value, Class}
use Rattle.gates.specs.Gates.{is_measurement, difference_of, float_of, other_of, gate_of, nothing, told_gate, kind_of, magnitude_of, rounded_of, hundredths_of, told_of, Values, values_of}
use Rattle.gates.proofs.Signs.{diff-ge, diff-lt}

pub no-measurement : (t : ℕ) → (t ≡ 14) ⊎ (t ≡ 15) → is_measurement t ≡ false
unfolding is_measurement
no-measurement t (inl e) = rw e
no-measurement t (inr e) = rw e

pub classes-only : (t : ℕ) → is_measurement t ≡ false → (t ≡ 14) ⊎ (t ≡ 15)
unfolding is_measurement
classes-only t e = go (eqb t 14) (eqb t 15) refl refl e
  where
    go : (a b : Bool) → eqb t 14 ≡ a → eqb t 15 ≡ b → not (a || b) ≡ false → (t ≡ 14) ⊎ (t ≡ 15)
    go true b p q r = inl (eqb-true t 14 p)
    go false true p q r = inr (eqb-true t 15 q)
    go false false p q r = absurd (true≢false r)

pub a-measurement : (t : ℕ) → (t ≡ 14 → ⊥) → (t ≡ 15 → ⊥) → is_measurement t ≡ true
unfolding is_measurement
a-measurement t a b = rw (ne_eqb t 14 a, ne_eqb t 15 b)

-- all that is told of a value, and of any other case
module _ (c : Coding) (code : ℕ) where
  pub told-value : kind_of c code ≡ 5
      → told_of c code ≡ record { gate = gate_of c code; difference = difference_of c code; scale = c.scale; hundredths = hundredths_of c code }
  unfolding told_of
  told-value k = rw (eq-eqb (kind_of c code) 5 k)

  pub told-other : (kind_of c code ≡ 5 → ⊥) → told_of c code ≡ record { gate = gate_of c code; difference = pos 0; scale = 0; hundredths = pos 0 }
  unfolding told_of
  told-other k = rw (ne_eqb (kind_of c code) 5 k)

-- a special code, of every type
module _ (c : Coding) where
  pub special-told : (code : ℕ) → code < 5 → values_of (told_of c code) ≡ record { gate = (code, nothing); difference = pos 0; scale = 0; hundredths = pos 0 }
  unfolding gate_of told_of
  special-told zero h = refl
  special-told (suc zero) h = refl
  special-told (suc (suc zero)) h = refl
  special-told (suc (suc (suc zero))) h = refl
  special-told (suc (suc (suc (suc zero)))) h = refl
  special-told (suc (suc (suc (suc (suc n))))) h = absurd (omega arith)

  kind-special : (code : ℕ) → code < 5 → kind_of c code ≡ code
  unfolding told_of
  kind-special code h = ap (λ (v : Values). v.gate.0) (special-told code h)

-- any other code, which the type tells apart
module _ (c : Coding) (code : ℕ) where
  pub other-value : is_measurement c.data_type ≡ true → other_of c code ≡ Value (float_of c code)
  unfolding other_of
  other-value m = rw m

  pub other-class : is_measurement c.data_type ≡ false → other_of c code ≡ Class code
  unfolding other_of
  other-class m = rw m

  pub gate-other : 5 ≤ code → gate_of c code ≡ other_of c code
  unfolding gate_of
  gate-other h = get_or-eq_default (BelowThreshold ∷ RangeFolded ∷ NotScanned ∷ Unknown ∷ Reserved ∷ []) (other_of c code) h

  kind-other : 5 ≤ code → (m : Bool) → is_measurement c.data_type ≡ m → kind_of c code ≡ cond m 5 6
  kind-other h true is = ap (λ (g : Gate). (told_gate g).0) (gate-other h ∙ other-value is)
  kind-other h false is = ap (λ (g : Gate). (told_gate g).0) (gate-other h ∙ other-class is)

  -- kind 5 is that of a value, kind 6 that of a class, and of nothing else
  pub kind-back : (m : Bool) → kind_of c code ≡ cond m 5 6 → (is_measurement c.data_type ≡ m) × (5 ≤ code)
  kind-back m k =
      dite (dec_lt code 5)
      (λ l. absurd (under m (sym (kind-special c code l) ∙ k) l))
      (λ l. (same (is_measurement c.data_type) m (sym (kind-other (omega arith) _ refl) ∙ k), omega arith))
    where
      under : (m : Bool) → code ≡ cond m 5 6 → code < 5 → ⊥
      under true e l = omega arith
      under false e l = omega arith

      same : (a m : Bool) → cond {A = ℕ} a 5 6 ≡ cond m 5 6 → a ≡ m
      same true true e = refl
      same true false e = absurd (omega arith)
      same false true e = absurd (omega arith)
      same false false e = refl

  pub kind-is : (m : Bool) → (kind_of c code ≡ cond m 5 6 → (is_measurement c.data_type ≡ m) × (5 ≤ code)) × (is_measurement c.data_type ≡ m → 5 ≤ code → kind_of c code ≡ cond m 5 6)
  kind-is m = (kind-back m, λ is h. kind-other h m is)

  pub value-told : is_measurement c.data_type ≡ true → 5 ≤ code
      → told_of c code ≡ record { gate = Value (float_of c code); difference = difference_of c code; scale = c.scale; hundredths = hundredths_of c code }
  value-told is h = rw (← other-value is, ← gate-other h) (told-value c code (kind-other h true is))

  pub class-told : is_measurement c.data_type ≡ false → 5 ≤ code → told_of c code ≡ record { gate = Class code; difference = pos 0; scale = 0; hundredths = pos 0 }
  class-told is h = rw (← other-class is, ← gate-other h) (told-other c code (λ k. true≢false (sym (kind-back true k).0 ∙ is)))

-- there are seven kinds
pub kind-lt : (g : Gate) → (told_gate g).0 < 7
kind-lt BelowThreshold = omega arith
kind-lt RangeFolded = omega arith
kind-lt NotScanned = omega arith
kind-lt Unknown = omega arith
kind-lt Reserved = omega arith
kind-lt (Value x) = omega arith
kind-lt (Class code) = omega arith

pub magnitude-le : (n scale : ℕ) → magnitude_of n scale ≤ 200 * n + scale
unfolding magnitude_of
magnitude-le n scale = div-le_self (200 * n + scale) (2 * scale)

-- the hundredths on either side of the offset
module _ (c : Coding) (code : ℕ) where
  pub hundredths-ge : c.offset ≤ code → hundredths_of c code ≡ pos (magnitude_of (code - c.offset) c.scale)
  unfolding rounded_of
  hundredths-ge h = ap (λ (z : ℤ). rounded_of z c.scale) (diff-ge code c.offset h)

  pub hundredths-lt : code < c.offset → hundredths_of c code ≡ neg_ℤ (pos (magnitude_of (c.offset - code) c.scale))
  unfolding rounded_of
  hundredths-lt h =
      let e : suc (c.offset - suc code) ≡ c.offset - code = omega arith in
      ap (λ (z : ℤ). rounded_of z c.scale) (diff-lt code c.offset h) ∙ ap (λ (n : ℕ). neg_ℤ (pos (magnitude_of n c.scale))) e

-- over a scale of 0 both are 0
rounded-zero : (z : ℤ) → rounded_of z 0 ≡ pos 0
unfolding rounded_of magnitude_of
rounded-zero (pos n) = rw div-zero
rounded-zero (negsuc n) = rw div-zero

pub by_zero : (c : Coding) (code : ℕ) → c.scale ≡ 0 → (float_of c code ≡ fin false 0 (pos 0)) × (hundredths_of c code ≡ pos 0)
unfolding float_of
by_zero c code e = (rw (eq-eqb c.scale 0 e), rw e (rounded-zero (difference_of c code)))

-- Whole numbers up to 2 ^ 53 either way are carried over into a double-precision float without loss, and so the float of a value
-- is a quotient of two whole numbers. Assumes nothing.
use mathlib.Core.Path.{◌≡◌, refl, sym, ap, subst, ◌∙◌}
use mathlib.Core.Logic.{dite}
use Prim.Native.Nat.{ℕ, zero, suc, ◌^◌, ◌≤◌, ◌<◌}
use native.Mathlib.Decide.{dec_lt}
use native.Mathlib.Nat.{mul-one}
use native.Mathlib.Omega.{arith}
use borrow.Author.Tests.{ne_eqb}
use mathlib.Core.Bool.{Bool, true, false, true≢false, false≢true}
use lib.IntN.{ℤ, pos, negsuc, nat_abs, ◌-ℤ◌}
use lib.Ieee.{Float, nan, inf, fin, binary64, round, of_int, div}
use lib.Ieee.Back.{round_whole}
use lib.Ieee.Exact.{HasValue}
use Rattle.gates.specs.declared.Coding.{Coding}
use Rattle.gates.specs.Exact.{Exactly, Finite, Middling, Lossless}
use Rattle.gates.specs.Gates.{difference_of, float_of}
use Rattle.gates.proofs.Gates.{by_zero}
use Rattle.gates.proofs.Quotients.{div_is, none, middling}
use Rattle.gates.proofs.Signs.{diff-ge, diff-lt}

abbrev below-zero : ℤ → Bool
below-zero (pos n) = false
below-zero (negsuc n) = true

value : (z : ℤ) → nat_abs z ≤ 2 ^ 53 → HasValue (of_int binary64 z) (below-zero z) (nat_abs z) 1
unfolding of_int
value (pos n) h = round_whole binary64 false n h
value (negsuc n) h = round_whole binary64 true (suc n) h

exactly : (x : Float) (z : ℤ) → HasValue x (below-zero z) (nat_abs z) 1 → Exactly x z
exactly nan z v = v
exactly (inf s) z v = v
exactly (fin true m e) (pos n) v = absurd (true≢false v.0)
exactly (fin false m e) (pos n) v = (sym (mul-one _) ∙ v.1, refl)
exactly (fin false m e) (negsuc n) v = absurd (false≢true v.0)
exactly (fin true m e) (negsuc n) v = (sym (mul-one _) ∙ v.1, refl)

exact : (z : ℤ) → nat_abs z ≤ 2 ^ 53 → Exactly (of_int binary64 z) z
exact z h = exactly (of_int binary64 z) z (value z h)

size : (a b : ℕ) → a < 65536 → b < 65536 → nat_abs (pos a -ℤ pos b) < 65536
size a b ha hb = dite (dec_lt a b) (λ h. rw (diff-lt a b h) (omega arith)) (λ h. rw (diff-ge a b (omega arith)) (omega arith))

not-zero : (z : ℤ) → (z ≡ pos 0 → ⊥) → 1 ≤ nat_abs z
not-zero (pos zero) h = absurd (h refl)
not-zero (pos (suc n)) h = omega arith
not-zero (negsuc n) h = omega arith

-- 16 bits hold a code, an offset and a scale
module _ (c : Coding) (code : ℕ) (C : code < 65536) (O : c.offset < 65536) (S : 1 ≤ c.scale) (T : c.scale < 65536) where
  divided : float_of c code ≡ div binary64 (of_int binary64 (difference_of c code)) (of_int binary64 (pos c.scale))
  unfolding float_of
  divided = rw (ne_eqb c.scale 0 (λ e. omega arith))

  rounded : float_of c code ≡ round binary64 (below-zero (difference_of c code)) (nat_abs (difference_of c code)) c.scale
  rounded =
      let small = size code c.offset C O in
      divided ∙ div_is _ _ _ _ c.scale S (value (difference_of c code) (omega arith)) (value (pos c.scale) (omega arith))

  pub lossless : Lossless c code
  lossless =
      let small = size code c.offset C O in
      record {
        upper = of_int binary64 (difference_of c code);
        lower = of_int binary64 (pos c.scale);
        upper_is = exact (difference_of c code) (omega arith);
        lower-is = exact (pos c.scale) (omega arith);
        divides = S;
        quotient = divided;
        at_zero = λ e. rounded ∙ ap (λ (z : ℤ). round binary64 (below-zero z) (nat_abs z) c.scale) e ∙ none c.scale S;
        size = λ some. rw rounded (middling _ _ c.scale (not-zero (difference_of c code) some) small S T);
      }

middling-finite : (x : Float) → Middling x → Finite x
middling-finite nan m = m
middling-finite (inf s) m = m
middling-finite (fin s m e) h = tt

-- over a scale of 0 too
pub finite : (c : Coding) (code : ℕ) → code < 65536 → c.offset < 65536 → c.scale < 65536 → Finite (float_of c code)
finite c code C O T =
    dite (dec_lt 0 c.scale) (λ S. by_difference (difference_of c code) refl (lossless c code C O S T))
    (λ none. subst Finite (sym (by_zero c code (omega arith)).0) tt)
  where
    some : Lossless c code → 0 < nat_abs (difference_of c code) → Finite (float_of c code)
    some l h = middling-finite (float_of c code) (l.size (λ z. let a : nat_abs (difference_of c code) ≡ 0 = ap nat_abs z in omega arith))

    by_difference : (z : ℤ) → difference_of c code ≡ z → Lossless c code → Finite (float_of c code)
    by_difference (pos zero) e l = subst Finite (sym (l.at_zero e)) tt
    by_difference (pos (suc n)) e l = some l (rw e (omega arith))
    by_difference (negsuc n) e l = some l (rw e (omega arith))

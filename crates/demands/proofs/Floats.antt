-- Each angle's test on the bits is the range of its value, and the table and the rules follow; the division is cited. Assumes nothing.
use Prim.Native.Nat.{ℕ, ◌/◌, ◌%◌, ◌^◌, ◌≤◌, ◌<◌}
use mathlib.Core.Bool.{true, false, cond, not, false≢true}
use mathlib.Core.List.{map}
use mathlib.Core.Logic.{◌↔◌, dite}
use mathlib.Core.Path.{◌≡◌, refl, sym, ◌∙◌}
use native.Mathlib.Decide.{dec_lt}
use native.Mathlib.Omega.{arith}
use borrow.Author.Tests.{lt-leb, lt-ltb, le-ltb, eq-eqb, ne_eqb, eqb-true}
use lib.Dec.{leb, ltb, eqb, lit≤}
use lib.Ieee.{Float, nan, inf, fin, binary32, is_nan, nan_bits, of_bits, of_int, lt, le, eq}
use lib.Ieee.Bits.{nan_bits_is}
use Rattle.le.proofs.Tests.{both}
use Rattle.rules.specs.Ranges.{between, angle, within, on_bits}
use Rattle.rules.proofs.Four as four
use Rattle.rules.proofs.Order.{by_sign}
use Rattle.gates.proofs.Exact.{finite}
use Rattle.gates.proofs.Gates.{by_zero}
use Rattle.ask.proofs.Divided.{divided}
use Rattle.demands.specs.Floats.{Angle, latitude, longitude, azimuth, elevation, in_range, Nan, OnBits, by_ranges, by_tests, table, Ruled, Floats}

-- a NaN lies past both ends
past : (upper lower b : ℕ) → upper ≤ 0x7F80_0000 → lower ≤ 0xFF80_0000 → b < 2 ^ 32 → Nan b → cond (ltb b (2 ^ 31)) (leb b upper) (leb b lower) ≡ false
past upper lower b u l h n =
    let e = n.exponent in
    let some : 0 < b % 2 ^ 23 = dite (dec_lt 0 (b % 2 ^ 23)) (λ k. k) (λ k. absurd (n.digits (omega arith))) in
    dite (dec_lt b (2 ^ 31)) (λ k. rw (lt-ltb b (2 ^ 31) k, lt-leb b upper (omega arith)))
    (λ k. rw (le-ltb b (2 ^ 31) (omega arith), lt-leb b lower (omega arith)))

only_nan : (x : Float) → is_nan x ≡ true → x ≡ nan
unfolding is_nan
only_nan nan e = refl
only_nan (inf s) e = absurd (false≢true e)
only_nan (fin s m k) e = absurd (false≢true e)

nan-bits : (b : ℕ) → of_bits binary32 b ≡ nan → nan_bits binary32 b ≡ true
unfolding is_nan
nan-bits b e = nan_bits_is binary32 b ∙ rw e refl

nans : (b : ℕ) → b < 2 ^ 32 → (of_bits binary32 b ≡ nan) ↔ Nan b
unfolding nan_bits
nans b h = (there, back)
  where
    there : of_bits binary32 b ≡ nan → Nan b
    there e =
        let a = both (eqb (b % 2 ^ 31 / 2 ^ 23) 255) (not (eqb (b % 2 ^ 23) 0)) (nan-bits b e) in
        let x = eqb-true (b % 2 ^ 31 / 2 ^ 23) 255 a.0 in
        record { exponent = omega arith; digits = λ z. false≢true (rw (eq-eqb (b % 2 ^ 23) 0 z) at a.1) }

    back : Nan b → of_bits binary32 b ≡ nan
    back n =
        let x = n.exponent in
        let y : b % 2 ^ 31 / 2 ^ 23 ≡ 255 = omega arith in
        only_nan (of_bits binary32 b) (sym (nan_bits_is binary32 b) ∙ rw (eq-eqb (b % 2 ^ 31 / 2 ^ 23) 255 y, ne_eqb (b % 2 ^ 23) 0 n.digits))

-- what is left for each angle is its law and its ends, which antt computes
on-bits : (a : Angle) → (a.test ≡ on_bits a.upper a.lower) → a.upper ≤ 0x7F80_0000 → a.lower ≤ 0xFF80_0000
    → ((b : ℕ) → b < 2 ^ 32 → in_range a b ≡ a.test b)
    → (eq (of_bits binary32 a.upper) (of_int binary32 a.to) ≡ true) × (eq (of_bits binary32 a.lower) (of_int binary32 a.from) ≡ true)
    → OnBits a
on-bits a is u l law ends =
    let turned : (b : ℕ) → a.test b ≡ cond (ltb b (2 ^ 31)) (leb b a.upper) (leb b a.lower) = λ b. rw is (by_sign a.upper a.lower b (omega arith)) in
    record { same = λ b h. sym (law b h); turns = λ b h. turned b; ends = ends; nan = λ b h n. turned b ∙ past a.upper a.lower b u l h n }

on-latitude : OnBits latitude
unfolding angle between eq of_bits of_int
on-latitude = on-bits latitude refl (lit≤ tt) (lit≤ tt) four.latitude (refl, refl)

on-longitude : OnBits longitude
unfolding angle between eq of_bits of_int
on-longitude = on-bits longitude refl (lit≤ tt) (lit≤ tt) four.longitude (refl, refl)

on-azimuth : OnBits azimuth
unfolding angle between eq of_bits of_int
on-azimuth = on-bits azimuth refl (lit≤ tt) (lit≤ tt) four.azimuth (refl, refl)

on-elevation : OnBits elevation
unfolding angle between eq of_bits of_int
on-elevation = on-bits elevation refl (lit≤ tt) (lit≤ tt) four.elevation (refl, refl)

by-ranges : map by_ranges table ≡ table
unfolding table le lt eq of_bits of_int
by-ranges = refl

by_tests_lem : map by_tests table ≡ table
unfolding table on_bits within of_bits
by_tests_lem = refl

ruled : Ruled
ruled =
    record {
      number-3 = λ r h. rw (four.latitude r.latitude h);
      number-4 = λ r h. rw (four.longitude r.longitude h);
      number-15 = λ r d h. rw (four.azimuth r.azimuth h);
      number-16 = λ r d h. rw (four.elevation r.elevation h);
    }

pub floats : Floats
floats =
    record {
      latitude = on-latitude;
      longitude = on-longitude;
      azimuth = on-azimuth;
      elevation = on-elevation;
      nans = nans;
      by-ranges = by-ranges;
      by_tests = by_tests_lem;
      rules = ruled;
      division = divided;
      by_zero = by_zero;
      finite = finite;
    }

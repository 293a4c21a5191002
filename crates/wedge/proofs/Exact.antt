-- A hundred times the exact value of a single against a whole number: what the bits decide. Assumes nothing.
use mathlib.Core.Path.{◌≡◌, refl, sym, ap, ◌∙◌, subst}
use mathlib.Core.Bool.{Bool, true, false, true≢false}
use mathlib.Core.Logic.{dite, ◌⊎◌, inl, inr}
use Prim.Native.Nat.{ℕ, ◌+◌, ◌-◌, ◌*◌, ◌/◌, ◌%◌, ◌^◌, ◌≤◌, ◌<◌}
use native.Mathlib.Nat.{mul-one, mul_assoc, mul-le-mul_right, le_of_mul-le-mul_right, le-div_iff_mul-le, div-lt_iff_lt-mul, div-eq_of_lt, mul-div-mul_right, le_of_eq, mod-eq_of_lt}
use native.Mathlib.Decide.{dec_lt}
use native.Mathlib.Omega.{arith}
use lib.Dec.{leb, eqb, lit≤}
use lib.Pow.{pow_pos, pow-add}
use lib.Ieee.{Float, nan, inf, fin, binary32, up, down, of_bits}
use lib.Ieee.Exact.{HasValue}
use lib.Ieee.Fits.{down_pos}
use borrow.Author.Tests.{lt-leb, leb-true, eq-eqb, ne_eqb, le-leb}
use Rattle.le.proofs.Tests.{both, leb-same}
use Rattle.rules.specs.Ranges.{azimuth_bits, on_bits, within}
use Rattle.rules.proofs.Order.{mag, mag-normal, mag-lt, of_bits_is, finite}
use Rattle.wedge.specs.Wedge.{reaches, turned, Whole}

-- ---- the comparison over another denominator, and as a quotient

cross : (n d v a c : ℕ) → 0 < d → 0 < c → v * c ≡ a * d → leb (n * d) (100 * v) ≡ leb (n * c) (100 * a)
cross n d v a c D C e =
    leb-same (n * d) (100 * v) (n * c) (100 * a)
    (λ h. let k : n * d * c ≤ 100 * v * c = mul-le-mul_right c h in le_of_mul-le-mul_right {k = d} (omega arith) D)
    (λ h. let k : n * c * d ≤ 100 * a * d = mul-le-mul_right d h in le_of_mul-le-mul_right {k = c} (omega arith) C)

by_value : (x : Float) (a c n : ℕ) → 0 < c → HasValue x false a c → reaches n x ≡ leb (n * c) (100 * a)
unfolding reaches
by_value nan a c n C v = absurd v
by_value (inf t) a c n C v = absurd v
by_value (fin false m e) a c n C v = cross n (down e) (m * up e) a c (down_pos e) C v.1
by_value (fin true m e) a c n C v = absurd (let z : ◌≡◌ {A = ℕ} 0 1 = cc in omega arith)

quotient : (n c a : ℕ) → 0 < c → leb (n * c) a ≡ leb n (a / c)
quotient n c a C = leb-same (n * c) a n (a / c) (λ h. (le-div_iff_mul-le C).1 h) (λ h. (le-div_iff_mul-le C).0 h)

-- the whole part of a hundred times a / c is their quotient
whole : (x : Float) (a c : ℕ) → 0 < c → HasValue x false a c → Whole x (100 * a / c)
whole x a c C v n = by_value x a c n C v ∙ quotient n c (100 * a) C

-- ---- 360 turned to 0, and what is not turned

kept : (x : Float) (r : ℕ) → r < 36000 → Whole x r → Whole (turned x) r
unfolding turned
kept x r h w = rw (w 36000 ∙ lt-leb 36000 r h) w

-- ---- patterns with the sign clear. `omega` takes no number of more than 38 digits, so laws with 2 ^ 149 stand over variables

more : (a b c : ℕ) → a < b → 100 * b ≤ c → 100 * a < c
more a b c h e = omega arith

small : 100 * mag 0x3C00_0000 ≤ 2 ^ 149
unfolding mag
small = lit≤ tt

full : 100 * mag 0x43B4_0000 ≡ 36000 * 2 ^ 149
unfolding mag
full = refl

-- up to 360 a pattern's size, in units of 2 ^ -149
value : (b : ℕ) → b ≤ 0x43B4_0000 → HasValue (of_bits binary32 b) false (mag b) (2 ^ 149)
value b h = rw (of_bits_is b b false (lt-leb 2147483648 b (omega arith)) (mod-eq_of_lt (omega arith))) (finite false b (omega arith))

module _ (b : ℕ) (h : b < 0x43B4_0000) where
  -- below 360
  by-quotient : Whole (turned (of_bits binary32 b)) (100 * mag b / 2 ^ 149)
  by-quotient =
      kept _ (100 * mag b / 2 ^ 149)
      ((div-lt_iff_lt-mul (pow_pos 149)).1 (more (mag b) (mag 0x43B4_0000) (36000 * 2 ^ 149) (mag-lt b 0x43B4_0000 h) (le_of_eq full)))
      (whole _ (mag b) (2 ^ 149) (pow_pos 149) (value b (omega arith)))

  -- below 2 ^ -7 degrees: no whole hundredth
  pub low : b < 0x3C00_0000 → Whole (turned (of_bits binary32 b)) 0
  low k =
      let none : 100 * mag b / 2 ^ 149 ≡ 0 = div-eq_of_lt (more (mag b) (mag 0x3C00_0000) (2 ^ 149) (mag-lt b 0x3C00_0000 k) small) in
      subst (λ (r : ℕ). Whole (turned (of_bits binary32 b)) r) none by-quotient

  -- from there on: the significand, a hundred times, shifted
  pub middle : 0x3C00_0000 ≤ b → Whole (turned (of_bits binary32 b)) (100 * (8388608 + b % 8388608) / 2 ^ (150 - b / 8388608))
  middle k = subst (λ (r : ℕ). Whole (turned (of_bits binary32 b)) r) same by-quotient
    where
      same : 100 * mag b / 2 ^ 149 ≡ 100 * (8388608 + b % 8388608) / 2 ^ (150 - b / 8388608)
      same =
          let x = b / 8388608 in
          let s = 8388608 + b % 8388608 in
          let parts : 149 ≡ (150 - x) + (x - 1) = omega arith in
          let power : 2 ^ 149 ≡ 2 ^ (150 - x) * 2 ^ (x - 1) = ap (λ (i : ℕ). 2 ^ i) parts ∙ pow-add 2 (150 - x) (x - 1) in
          ap (λ (a : ℕ). 100 * a / 2 ^ 149) (mag-normal b (omega arith))
          ∙ ap (λ (a : ℕ). a / 2 ^ 149) (sym (mul_assoc 100 s (2 ^ (x - 1))))
          ∙ ap (λ (c : ℕ). 100 * s * 2 ^ (x - 1) / c) power
          ∙ mul-div-mul_right (100 * s) (2 ^ (150 - x)) (pow_pos (x - 1))

-- ---- 360, and minus zero

none-but-zero : (n : ℕ) → eqb n 0 ≡ leb n 0
none-but-zero n = dite (dec_lt 0 n) (λ h. ne_eqb n 0 (λ e. omega arith) ∙ sym (lt-leb n 0 h)) (λ h. eq-eqb n 0 (omega arith) ∙ sym (le-leb n 0 (omega arith)))

pub at-full : Whole (turned (of_bits binary32 0x43B4_0000)) 0
unfolding turned reaches of_bits
at-full n = rw (mul-one n)

pub minus-zero : Whole (turned (of_bits binary32 0x8000_0000)) 0
unfolding turned reaches of_bits
minus-zero n = none-but-zero n

-- ---- the bits of an azimuth: from 0 to 360, or minus zero

pub azimuths : (b : ℕ) → azimuth_bits b ≡ true → (b ≤ 0x43B4_0000) ⊎ (b ≡ 0x8000_0000)
unfolding on_bits within
azimuths b e = go (leb b 0x43B4_0000) refl
  where
    go : (t : Bool) → leb b 0x43B4_0000 ≡ t → (b ≤ 0x43B4_0000) ⊎ (b ≡ 0x8000_0000)
    go true k = inl (leb-true b 0x43B4_0000 k)
    go false k =
        let a = both (leb 2147483648 b) (leb b 2147483648) (rw k at e) in
        let l = leb-true 2147483648 b a.0 in
        let u = leb-true b 2147483648 a.1 in
        inr (omega arith)

-- ---- an azimuth by any fraction that is its value: it has a sign only where it is minus zero

one-sign : (x : Float) (s t : Bool) (a b c d : ℕ) → HasValue x s a c → HasValue x t b d → s ≡ t
one-sign nan s t a b c d p q = absurd p
one-sign (inf r) s t a b c d p q = absurd p
one-sign (fin r m e) s t a b c d p q = sym p.0 ∙ q.0

minus-zero-by : (a c n : ℕ) → 0 < c → HasValue (of_bits binary32 0x8000_0000) true a c → reaches n (of_bits binary32 0x8000_0000) ≡ leb (n * c) (100 * a)
unfolding reaches of_bits
minus-zero-by a c n C v =
    let none : a ≡ 0 = omega (arith, v.1) in
    rw none
    (none-but-zero n ∙ leb-same n 0 (n * c) 0 (λ h. let z : n ≡ 0 = omega arith in rw z (omega arith)) (λ h. le_of_mul-le-mul_right {k = c} (omega arith) C))

pub by_fraction : (b a c : ℕ) (s : Bool) → azimuth_bits b ≡ true → 0 < c → HasValue (of_bits binary32 b) s a c → (n : ℕ) → reaches n (of_bits binary32 b) ≡ leb (n * c) (100 * a)
by_fraction b a c false is C v n = by_value (of_bits binary32 b) a c n C v
by_fraction b a c true is C v n = go (azimuths b is)
  where
    go : (b ≤ 0x43B4_0000) ⊎ (b ≡ 0x8000_0000) → reaches n (of_bits binary32 b) ≡ leb (n * c) (100 * a)
    go (inl h) = absurd (true≢false (one-sign (of_bits binary32 b) true false a (mag b) c (2 ^ 149) v (value b h)))
    go (inr e) = rw e (minus-zero-by a c n C (subst (λ (x : ℕ). HasValue (of_bits binary32 x) true a c) e v))

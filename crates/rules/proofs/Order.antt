-- The order of f32 values by their patterns: a finite pattern's magnitude goes up with the pattern, so a range of values is two ranges of patterns. Assumes nothing.
use mathlib.Core.Path.{◌≡◌, refl, sym, ap, ◌∙◌, subst}
use mathlib.Core.Bool.{Bool, true, false, ◌&&◌, ◌||◌, cond, or-true}
use mathlib.Core.Logic.{dite}
use Prim.Native.Nat.{ℕ, suc, ◌+◌, ◌-◌, ◌*◌, ◌/◌, ◌%◌, ◌^◌, ◌≤◌, ◌<◌}
use native.Mathlib.Nat.{mul-pos, mul-one, mul_assoc, mul_comm, mul_right_comm, zero-mul, add-mul, mul-lt-mul_of_pos_right, le_of_mul-le-mul_right, lt_of_mul-lt-mul_right, mul-le-mul_right, mul-le-mul_left, le_trans, lt_of_lt_of_le, mod-eq_of_lt, pow-succ'}
use native.Mathlib.Decide.{dec_lt}
use native.Mathlib.Omega.{arith}
use lib.Dec.{leb, ltb, eqb}
use lib.Pow.{pow_pos, pow_mono}
use lib.Ieee.{Float, nan, inf, fin, binary32, up, down, odd, below, level, lt, eq, le, of_bits, of_fields}
use lib.Ieee.Exact.{HasValue, odd_sign}
use lib.Ieee.Fits.{down_pos}
use borrow.Author.Tests.{lt-ltb, le-ltb, le-leb, lt-leb, eq-eqb, ne_eqb}
use Rattle.rules.specs.Ranges.{between, within, on_bits}

-- ---- tests on numbers
le-or : (u v : ℕ) → (ltb u v || (eqb u v && true)) ≡ leb u v
le-or u v =
    dite (dec_lt u v) (λ h. rw (lt-ltb u v h, le-leb u v (omega arith)))
    (λ h. dite (dec_lt v u) (λ k. rw (le-ltb u v (omega arith), ne_eqb u v (λ e. omega arith), lt-leb u v k))
    (λ k. rw (le-ltb u v (omega arith), eq-eqb u v (omega arith), le-leb u v (omega arith))))

le-or' : (u v : ℕ) → (ltb u v || (eqb v u && true)) ≡ leb u v
le-or' u v =
    dite (dec_lt u v) (λ h. rw (lt-ltb u v h, le-leb u v (omega arith)))
    (λ h. dite (dec_lt v u) (λ k. rw (le-ltb u v (omega arith), ne_eqb v u (λ e. omega arith), lt-leb u v k))
    (λ k. rw (le-ltb u v (omega arith), eq-eqb v u (omega arith), le-leb u v (omega arith))))

-- x / p and y / p are a / c and b / c
module _ (x y a b c p : ℕ) (C : 0 < c) (P : 0 < p) (ex : x * c ≡ a * p) (ey : y * c ≡ b * p) where
  lt-to : a < b → x < y
  lt-to h = lt_of_mul-lt-mul_right c (rw (ex, ey) (mul-lt-mul_of_pos_right h P))

  le-to : a ≤ b → x ≤ y
  le-to h = le_of_mul-le-mul_right (rw (ex, ey) (mul-le-mul_right p h)) C

module _ (x y a b c p : ℕ) (C : 0 < c) (P : 0 < p) (ex : x * c ≡ a * p) (ey : y * c ≡ b * p) where
  lt_same : ltb x y ≡ ltb a b
  lt_same =
      dite (dec_lt a b) (λ h. lt-ltb x y (lt-to x y a b c p C P ex ey h) ∙ sym (lt-ltb a b h))
      (λ h. le-ltb x y (le-to y x b a c p C P ey ex (omega arith)) ∙ sym (le-ltb a b (omega arith)))

  eq-same : eqb x y ≡ eqb a b
  eq-same =
      dite (dec_lt a b) (λ h. let k : x < y = lt-to x y a b c p C P ex ey h in ne_eqb x y (λ e. omega arith) ∙ sym (ne_eqb a b (λ e. omega arith)))
      (λ h. dite (dec_lt b a) (λ l. let k : y < x = lt-to y x b a c p C P ey ex l in ne_eqb x y (λ e. omega arith) ∙ sym (ne_eqb a b (λ e. omega arith)))
      (λ l. let k : x ≤ y = le-to x y a b c p C P ex ey (omega arith) in let m : y ≤ x = le-to y x b a c p C P ey ex (omega arith) in eq-eqb x y (omega arith) ∙ sym (eq-eqb a b (omega arith))))

-- ---- `le` of two finite values over one denominator goes by the signs and the numerators
abbrev le_s : Bool → ℕ → Bool → ℕ → Bool
le_s s a t b = below s a t b || level s a t b

le_s-same : (s t : Bool) (x y a b c p : ℕ) → 0 < c → 0 < p → x * c ≡ a * p → y * c ≡ b * p → le_s s x t y ≡ le_s s a t b
le_s-same s t x y a b c p C P ex ey =
    let z : 0 * c ≡ 0 * p = zero-mul c ∙ sym (zero-mul p) in
    let l = lt_same x y a b c p C P ex ey in
    let r = lt_same y x b a c p C P ey ex in
    let e = eq-same x y a b c p C P ex ey in
    let o = eq-same x 0 a 0 c p C P ex z in
    let w = lt_same 0 (x + y) 0 (a + b) c p C P z (add-mul x y c ∙ rw (ex, ey) (sym (add-mul a b p))) in
    go s t l r e o w
  where
    go : (s t : Bool) → ltb x y ≡ ltb a b → ltb y x ≡ ltb b a → eqb x y ≡ eqb a b → eqb x 0 ≡ eqb a 0 → ltb 0 (x + y) ≡ ltb 0 (a + b) → le_s s x t y ≡ le_s s a t b
    go false false l r e o w = rw (l, e)
    go false true l r e o w = rw (e, o)
    go true false l r e o w = rw (w, e, o)
    go true true l r e o w = rw (r, e)

le-by : (x y : Float) (s t : Bool) (a b c : ℕ) → 0 < c → HasValue x s a c → HasValue y t b c → le x y ≡ le_s s a t b
unfolding le lt eq
le-by nan y s t a b c C p q = absurd p
le-by (inf r) y s t a b c C p q = absurd p
le-by (fin r m e) nan s t a b c C p q = absurd q
le-by (fin r m e) (inf u) s t a b c C p q = absurd q
le-by (fin r m e) (fin u n d) s t a b c C p q =
    let P : 0 < down e * down d = mul-pos (down_pos e) (down_pos d) in
    rw (p.0, q.0) (le_s-same s t (m * up e * down d) (n * up d * down e) a b c (down e * down d) C P
    (mul_right_comm (m * up e) (down d) c ∙ rw p.1 (mul_assoc a (down e) (down d)))
    (mul_right_comm (n * up d) (down e) c ∙ rw q.1 (mul_assoc b (down d) (down e) ∙ ap (λ (k : ℕ). b * k) (mul_comm (down d) (down e)))))

-- ---- the four comparisons that a range makes. The lower end is negative, or zero
abbrev pub Low : Bool → ℕ → Type 0
Low true a = Unit {0}
Low false a = a ≡ 0

lo-pos : (s : Bool) (a b : ℕ) → Low s a → le_s s a false b ≡ true
lo-pos true a b w =
    dite (dec_lt 0 (a + b)) (λ h. rw (lt-ltb 0 (a + b) h))
    (λ h. let a0 : a ≡ 0 = omega arith in let b0 : b ≡ 0 = omega arith in rw (a0, b0))
lo-pos false a b e =
    dite (dec_lt 0 b) (λ h. rw (e, lt-ltb 0 b h)) (λ h. let b0 : b ≡ 0 = omega arith in rw (e, b0))

lo-neg : (s : Bool) (a b : ℕ) → Low s a → le_s s a true b ≡ leb b a
lo-neg true a b w = le-or' b a
lo-neg false a b e = dite (dec_lt 0 b) (λ h. rw (e, lt-leb b 0 h, ne_eqb 0 b (λ k. omega arith))) (λ h. let b0 : b ≡ 0 = omega arith in rw (e, b0))

-- ---- a pattern's magnitude, in units of 2 ^ -149
unfoldable pub mag : ℕ → ℕ
mag m = cond (ltb m 8388608) m ((8388608 + m % 8388608) * 2 ^ (m / 8388608 - 1))

mag-small : (m : ℕ) → m < 8388608 → mag m ≡ m
unfolding mag
mag-small m h = rw (lt-ltb m 8388608 h)

pub mag-normal : (m : ℕ) → 8388608 ≤ m → mag m ≡ (8388608 + m % 8388608) * 2 ^ (m / 8388608 - 1)
unfolding mag
mag-normal m h = rw (le-ltb m 8388608 h)

-- a normal one is at least 2 ^ 23 times its power
floor : (m : ℕ) → 8388608 ≤ m → 8388608 * 2 ^ (m / 8388608 - 1) ≤ mag m
floor m h = rw (mag-normal m h) (mul-le-mul_right (2 ^ (m / 8388608 - 1)) (omega arith))

-- and below 2 ^ 24 times it
ceiling : (m : ℕ) → 8388608 ≤ m → mag m < 8388608 * 2 ^ suc (m / 8388608 - 1)
ceiling m h =
    rw (mag-normal m h, pow-succ' 2 (m / 8388608 - 1), ← mul_assoc 8388608 2 (2 ^ (m / 8388608 - 1)))
    (mul-lt-mul_of_pos_right (omega arith) (pow_pos (m / 8388608 - 1)))

pub mag-lt : (m n : ℕ) → m < n → mag m < mag n
mag-lt m n h =
    dite (dec_lt n 8388608) (λ k. rw (mag-small m (omega arith), mag-small n k) h)
    (λ k. dite (dec_lt m 8388608)
    (λ j. rw (mag-small m j) (lt_of_lt_of_le j (le_trans (mul-le-mul_left 8388608 (pow_pos (n / 8388608 - 1))) (floor n (omega arith)))))
    (λ j. dite (dec_lt (m / 8388608) (n / 8388608))
    (λ i. lt_of_lt_of_le (ceiling m (omega arith)) (le_trans (mul-le-mul_left 8388608 (pow_mono (omega arith))) (floor n (omega arith))))
    (λ i. let e : m / 8388608 ≡ n / 8388608 = omega arith in
    rw (mag-normal m (omega arith), mag-normal n (omega arith), e) (mul-lt-mul_of_pos_right (omega arith) (pow_pos (n / 8388608 - 1))))))

mag-leb : (m n : ℕ) → leb (mag m) (mag n) ≡ leb m n
mag-leb m n =
    dite (dec_lt n m) (λ h. lt-leb (mag m) (mag n) (mag-lt n m h) ∙ sym (lt-leb m n h))
    (λ h. dite (dec_lt m n) (λ k. let l : mag m < mag n = mag-lt m n k in le-leb (mag m) (mag n) (omega arith) ∙ sym (le-leb m n (omega arith)))
    (λ k. let e : m ≡ n = omega arith in rw e (le-leb (mag n) (mag n) (omega arith) ∙ sym (le-leb n n (omega arith)))))

-- ---- what a pattern stands for
pub of_bits_is : (b m : ℕ) (s : Bool) → leb 2147483648 b ≡ s → b % 2147483648 ≡ m → of_bits binary32 b ≡ of_fields binary32 s (m / 8388608) (m % 8388608)
unfolding of_bits
of_bits_is b m s es em = let et : b % 8388608 ≡ m % 8388608 = omega arith in rw (es, em, et)

pub finite : (s : Bool) (m : ℕ) → m < 2139095040 → HasValue (of_fields binary32 s (m / 8388608) (m % 8388608)) s (mag m) (2 ^ 149)
unfolding of_fields
finite s m h =
    dite (dec_lt m 8388608)
    (λ k. let x0 : m / 8388608 ≡ 0 = omega arith in let t0 : m % 8388608 ≡ m = omega arith in
    rw (x0, t0, mag-small m k) (subst (λ (a : ℕ). HasValue (odd 24 s m 0 149) s a (2 ^ 149)) (mul-one m) (odd_sign 24 s m 0 149)))
    (λ k. let x = m / 8388608 - 1 in let e : m / 8388608 ≡ suc x = omega arith in
    rw (mag-normal m (omega arith)) (subst (λ (y : ℕ). HasValue (of_fields binary32 s y (m % 8388608)) s ((8388608 + m % 8388608) * 2 ^ x) (2 ^ 149)) (sym e)
    (rw (ne_eqb (suc x) 255 (λ j. omega arith)) (odd_sign 24 s (8388608 + m % 8388608) x 149))))

-- an infinity and a NaN lie between no two finite values
beyond : (lo hi : Float) (r t : Bool) (a b c : ℕ) (s : Bool) (m : ℕ) → HasValue lo r a c → HasValue hi t b c → 2139095040 ≤ m → m < 2147483648
    → between lo hi (of_fields binary32 s (m / 8388608) (m % 8388608)) ≡ false
unfolding of_fields between le lt eq
beyond lo hi r t a b c s m p q h k = let e : m / 8388608 ≡ 255 = omega arith in rw e (go lo hi s (eqb (m % 8388608) 0) p q)
  where
    go : (lo hi : Float) (s z : Bool) → HasValue lo r a c → HasValue hi t b c → between lo hi (cond z (inf s) nan) ≡ false
    go nan hi s z p q = absurd p
    go (inf u) hi s z p q = absurd p
    go (fin u n d) nan s z p q = absurd q
    go (fin u n d) (inf v) s z p q = absurd q
    go (fin u n d) (fin v n' d') s false p q = refl
    go (fin u n d) (fin v n' d') true true p q = refl
    go (fin u n d) (fin v n' d') false true p q = refl

-- ---- the test on the bits goes by the sign
pub by_sign : (upper lower b : ℕ) → upper < 2147483648 → on_bits upper lower b ≡ cond (ltb b 2147483648) (leb b upper) (leb b lower)
unfolding on_bits within
by_sign upper lower b u =
    dite (dec_lt b 2147483648) (λ h. rw (lt-ltb b 2147483648 h, lt-leb 2147483648 b h) (or-false (leb b upper)))
    (λ h. rw (le-ltb b 2147483648 (omega arith), lt-leb b upper (omega arith), le-leb 2147483648 b (omega arith)))
  where
    or-false : (x : Bool) → (x || false) ≡ x
    or-false true = refl
    or-false false = refl

-- ---- a range, on the patterns; `low` and `high` are those of its ends without their signs
module _ (lo hi : Float) (s : Bool) (low high : ℕ) (L : low < 2139095040) (U : high < 2139095040)
    (is-lo : HasValue lo s (mag low) (2 ^ 149)) (w : Low s (mag low)) (is-hi : HasValue hi false (mag high) (2 ^ 149)) where
  D : 0 < 2 ^ 149
  D = pow_pos 149

  clear : (m : ℕ) → m < 2147483648 → between lo hi (of_fields binary32 false (m / 8388608) (m % 8388608)) ≡ leb m high
  unfolding between
  clear m h =
      dite (dec_lt m 2139095040)
      (λ k. let v = finite false m k in
      rw (
        le-by lo (of_fields binary32 false (m / 8388608) (m % 8388608)) s false (mag low) (mag m) (2 ^ 149) D is-lo v,
        lo-pos s (mag low) (mag m) w,
        le-by (of_fields binary32 false (m / 8388608) (m % 8388608)) hi false false (mag m) (mag high) (2 ^ 149) D v is-hi,
      )
      (le-or (mag m) (mag high) ∙ mag-leb m high))
      (λ k. beyond lo hi s false (mag low) (mag high) (2 ^ 149) false m is-lo is-hi (omega arith) h ∙ sym (lt-leb m high (omega arith)))

  signed : (m : ℕ) → m < 2147483648 → between lo hi (of_fields binary32 true (m / 8388608) (m % 8388608)) ≡ leb m low
  unfolding between
  signed m h =
      dite (dec_lt m 2139095040)
      (λ k. let v = finite true m k in
      rw (
        le-by lo (of_fields binary32 true (m / 8388608) (m % 8388608)) s true (mag low) (mag m) (2 ^ 149) D is-lo v,
        lo-neg s (mag low) (mag m) w,
        le-by (of_fields binary32 true (m / 8388608) (m % 8388608)) hi true false (mag m) (mag high) (2 ^ 149) D v is-hi,
        lo-pos true (mag m) (mag high) tt,
        mag-leb m low,
      )
      (and-true (leb m low)))
      (λ k. beyond lo hi s false (mag low) (mag high) (2 ^ 149) true m is-lo is-hi (omega arith) h ∙ sym (lt-leb m low (omega arith)))
    where
      and-true : (x : Bool) → (x && true) ≡ x
      and-true true = refl
      and-true false = refl

  pub by_bits : (b : ℕ) → b < 2 ^ 32 → between lo hi (of_bits binary32 b) ≡ on_bits high (2147483648 + low) b
  by_bits b h =
      rw (by_sign high (2147483648 + low) b (omega arith))
      (dite (dec_lt b 2147483648)
      (λ k. rw (of_bits_is b b false (lt-leb 2147483648 b k) (mod-eq_of_lt k), clear b k, lt-ltb b 2147483648 k))
      (λ k. let m = b - 2147483648 in
      rw (of_bits_is b m true (le-leb 2147483648 b (omega arith)) (omega arith), signed m (omega arith), le-ltb b 2147483648 (omega arith)) (same b m (omega arith))))
    where
      same : (b m : ℕ) → b ≡ 2147483648 + m → leb m low ≡ leb b (2147483648 + low)
      same b m e =
          dite (dec_lt low m) (λ h. lt-leb m low h ∙ sym (lt-leb b (2147483648 + low) (omega arith)))
          (λ h. le-leb m low (omega arith) ∙ sym (le-leb b (2147483648 + low) (omega arith)))

-- ---- what the tests on a pattern show
module _ (upper lower b : ℕ) where
  pub in-low : b ≤ upper → true ≡ on_bits upper lower b
  unfolding on_bits
  in-low h = rw (le-leb b upper h)

  pub in-high : 2147483648 ≤ b → b ≤ lower → true ≡ on_bits upper lower b
  unfolding on_bits within
  in-high h k = rw (le-leb 2147483648 b h, le-leb b lower k) (sym (or-true (leb b upper)))

  pub out : upper < b → (2147483648 ≤ b → b ≤ lower → ⊥) → false ≡ on_bits upper lower b
  unfolding on_bits within
  out h k =
      dite (dec_lt b 2147483648) (λ l. rw (lt-leb b upper h, lt-leb 2147483648 b l))
      (λ l. dite (dec_lt lower b) (λ m. rw (lt-leb b upper h, le-leb 2147483648 b (omega arith), lt-leb b lower m)) (λ m. absurd (k (omega arith) (omega arith))))

-- The double-precision quotient of two whole numbers is their fraction, rounded; of 0 it is plus zero, and of two numbers of 16
-- bits, neither of them 0, it is middling. Assumes nothing.
use mathlib.Core.Path.{◌≡◌, refl, sym, ◌∙◌, subst}
use mathlib.Core.Bool.{Bool, true, false}
use Prim.Native.Nat.{ℕ, ◌*◌, ◌^◌, ◌≤◌, ◌<◌}
use native.Mathlib.Nat.{mul-one, mul_comm, mul_assoc, mul_left_comm, mul_right_comm, mul-pos, zero-mul, mul-le-mul_right, mul-lt-mul_of_pos_right, le_of_mul-le-mul_right, lt_of_mul-lt-mul_right}
use native.Mathlib.Omega.{arith}
use lib.Dec.{T, lit<}
use lib.IntN.{pos}
use lib.Pow.{pow_pos}
use lib.Ieee.{Float, nan, inf, fin, binary64, up, down, unlike, round, div, le}
use lib.Ieee.Exact.{HasValue, units_val}
use lib.Ieee.Fits.{down_pos, round_is}
use lib.Ieee.Order.{kept, drop, round_mono}
use lib.Ieee.Positive.{positive-finite, positive_of_value, values_of_le, between}
use lib.Ieee.Scale.{grid, round_same, round_val, round_under}
use borrow.Author.Tests.{ne_eqb}
use Rattle.gates.specs.Exact.{Middling}

-- a quotient of whole numbers is their fraction, rounded
pub div_is : (x y : Float) (s : Bool) (n d : ℕ) → 0 < d → HasValue x s n 1 → HasValue y false d 1 → div binary64 x y ≡ round binary64 s n d
unfolding div
div_is nan y s n d P v w = absurd v
div_is (inf t) y s n d P v w = absurd v
div_is (fin t m e) nan s n d P v w = absurd w
div_is (fin t m e) (inf u) s n d P v w = absurd w
div_is (fin t m e) (fin u k j) s n d P v w =
    let x : m * up e ≡ n * down e = sym (mul-one (m * up e)) ∙ v.1 in
    let y : k * up j ≡ d * down j = sym (mul-one (k * up j)) ∙ w.1 in
    let p : 0 < d * down j = mul-pos P (down_pos j) in
    let some : k ≡ 0 → ⊥ = λ z. let o : d * down j ≡ 0 = sym y ∙ rw z (zero-mul (up j)) in omega arith in
    rw (ne_eqb k 0 some, v.0, w.0, x, y, own s)
    (round_same binary64 s (n * down e * down j) (d * down j * down e) n d (mul-pos p (down_pos e)) P (simp (mul_assoc, mul_comm, mul_left_comm)))
  where
    own : (s : Bool) → unlike s false ≡ s
    own true = refl
    own false = refl

-- of 0 it is plus zero
pub none : (d : ℕ) → 0 < d → round binary64 false 0 d ≡ fin false 0 (pos 0)
unfolding round
none d P = round_same binary64 false 0 d 0 1 P (lit< tt) (sym (zero-mul d))

-- a / k and g / unit are one number
module _ (a k g unit : ℕ) (U : 0 < unit) (same : a * unit ≡ g * k) where
  at_least : unit ≤ g * 65536 → k ≤ a * 65536
  at_least h = le_of_mul-le-mul_right (rw (mul_comm k unit, mul_right_comm a 65536 unit, same, mul_right_comm g k 65536) (mul-le-mul_right k h)) U

  under : 0 < k → g ≤ 65535 * unit → a < 65536 * k
  under K h = let l : g < 65536 * unit = omega arith in lt_of_mul-lt-mul_right unit (rw (same, mul_right_comm 65536 k unit) (mul-lt-mul_of_pos_right l K))

by_value : (x : Float) (s : Bool) (g unit : ℕ) → 0 < unit → HasValue x s g unit → unit ≤ g * 65536 → g ≤ 65535 * unit → Middling x
by_value nan s g unit U v lo hi = v
by_value (inf t) s g unit U v lo hi = v
by_value (fin t m e) s g unit U v lo hi = (at_least (m * up e) (down e) g unit U v.1 lo, under (m * up e) (down e) g unit U v.1 (down_pos e) hi)

-- both ends of what a fraction of two such numbers may be, rounded
abbrev least : Float
least = round binary64 false 1 65536

abbrev most : Float
most = round binary64 false 65535 1

least-is : HasValue least false 1 65536
unfolding round
least-is = (refl, refl)

most-is : HasValue most false 65535 1
unfolding round
most-is = (refl, refl)

module _ (s : Bool) (n d : ℕ) (N : 1 ≤ n) (L : n < 65536) (D : 1 ≤ d) (M : d < 65536) where
  pub middling : Middling (round binary64 s n d)
  middling =
      let x = round binary64 false n d in
      let g = grid binary64 n d in
      let unit = 2 ^ 1074 in
      let above : T (le least x) = round_mono binary64 1 65536 n d (lit< tt) D (omega arith) in
      let below : T (le x most) = round_mono binary64 n d 65535 1 D (lit< tt) (omega arith) in
      let p = positive_of_value least 1 65536 least-is (lit< tt) in
      let q = positive_of_value most 65535 1 most-is (lit< tt) in
      let r = between least x most p q above below in
      let fits = round_under binary64 n d (positive-finite x r) in
      let v = round_val binary64 n d fits in
      let signed : HasValue (round binary64 s n d) s g unit =
      subst (λ (y : Float). HasValue y s g unit) (sym (round_is binary64 s n d)) (units_val binary64 s (kept 53 (n * unit) d) (drop 53 (n * unit) d) fits) in
      let lo : 1 * unit ≤ g * 65536 = values_of_le least x 1 65536 g unit p r least-is v above in
      let hi : g * 1 ≤ 65535 * unit = values_of_le x most g unit 65535 1 r q v most-is below in
      by_value (round binary64 s n d) s g unit (pow_pos 1074) signed (rw (mul-one unit, mul_comm unit 1) lo) (rw (mul-one g) at hi)

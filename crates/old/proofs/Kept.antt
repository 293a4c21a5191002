-- Our code says what the old one meant: its kind and, of a value, the exact fraction. Assumes nothing.
use mathlib.Core.Path.{◌≡◌, refl, sym, ap, ◌∙◌}
use mathlib.Core.Bool.{Bool, true, false, cond}
use mathlib.Core.Logic.{dite, ◌⊎◌, inl, inr}
use Prim.Native.Nat.{ℕ, zero, suc, ◌+◌, ◌-◌, ◌*◌, ◌≤◌, ◌<◌}
use native.Mathlib.Decide.{dec_lt}
use native.Mathlib.Nat.{add-mul, mul-le-mul_right, mul-lt-mul_of_pos_right}
use native.Mathlib.Omega.{arith}
use lib.Dec.{eqb, lit<}
use lib.IntN.{ℤ, pos, negsuc, neg_ℤ, ◌-ℤ◌, ◌*ℤ◌}
use borrow.Author.Tests.{le-ltb, lt-ltb}
use Rattle.gates.specs.declared.Coding.{Coding}
use Rattle.gates.specs.Gates.{is_measurement, nothing, told_of, Values, values_of}
use Rattle.gates.proofs.Gates.{special-told, value-told}
use Rattle.gates.proofs.Signs.{diff-ge, diff-lt}
use Rattle.old.specs.declared.codes.Quantity.{Quantity}
use Rattle.old.specs.declared.codes.Quantity.TheVariants.{Reflectivity, Velocity, Width}
use Rattle.old.specs.Codes.{over, less, Same, formula, worth, meaning, new_code, coding_of, Tells}

-- ---- differences of two numbers that are not below 0
level : (a b c d : ℕ) → a + d ≡ c + b → pos a -ℤ pos b ≡ pos c -ℤ pos d
level a b c d e =
    dite (dec_lt a b)
    (λ h. diff-lt a b h ∙ ap negsuc (omega arith) ∙ sym (diff-lt c d (omega arith)))
    (λ h. diff-ge a b (omega arith) ∙ ap pos (omega arith) ∙ sym (diff-ge c d (omega arith)))

neg_is : (n : ℕ) → 0 < n → neg_ℤ (pos n) ≡ negsuc (n - 1)
neg_is zero h = absurd (omega arith)
neg_is (suc n) h = ap negsuc (omega arith)

times : (a b k : ℕ) → 0 < k → (pos a -ℤ pos b) *ℤ pos k ≡ pos (a * k) -ℤ pos (b * k)
times a b k K =
    dite (dec_lt a b)
    (λ h. let e : suc (b - suc a) ≡ b - a = omega arith in
    let s = add-mul (b - a) a k in
    let t : b - a + a ≡ b = omega arith in
    let u : b * k ≡ (b - a) * k + a * k = ap (λ (x : ℕ). x * k) (sym t) ∙ s in
    let l : a * k < b * k = mul-lt-mul_of_pos_right h K in
    ap (λ (z : ℤ). z *ℤ pos k) (diff-lt a b h) ∙ ap (λ (x : ℕ). neg_ℤ (pos (x * k))) e
    ∙ neg_is ((b - a) * k) (omega arith) ∙ ap negsuc (omega arith) ∙ sym (diff-lt (a * k) (b * k) l))
    (λ h. let s = add-mul (a - b) b k in
    let t : a - b + b ≡ a = omega arith in
    let u : a * k ≡ (a - b) * k + b * k = ap (λ (x : ℕ). x * k) (sym t) ∙ s in
    ap (λ (z : ℤ). z *ℤ pos k) (diff-ge a b (omega arith)) ∙ ap pos (omega arith)
    ∙ sym (diff-ge (a * k) (b * k) (mul-le-mul_right k (omega arith))))

-- a code of w + 5 less the offset o, over s, is w / s - p / q
same : (w o s p q : ℕ) → 0 < s → 0 < s * q → (w + 5) * (s * q) + p * s * s ≡ w * q * s + o * (s * q)
    → Same (over (pos (w + 5) -ℤ pos o) s) (less (over (pos w) s) (over (pos p) q))
same w o s p q S Q e =
    times (w + 5) o (s * q) Q ∙ level ((w + 5) * (s * q)) (o * (s * q)) (w * q * s) (p * s * s) e ∙ sym (times (w * q) (p * s) s S)

-- ---- what comes out
new-small : (v : ℕ) → v < 2 → new_code v ≡ v
unfolding new_code
new-small v h = rw (lt-ltb v 2 h)

new-large : (v : ℕ) → 2 ≤ v → new_code v ≡ v + 3
unfolding new_code
new-large v h = rw (le-ltb v 2 h)

-- no special code but 0 and 1
pub clear : (v : ℕ) → (new_code v ≡ 0) ⊎ (new_code v ≡ 1) ⊎ (5 ≤ new_code v)
clear zero = inl (new-small 0 (lit< tt))
clear (suc zero) = inr (inl (new-small 1 (lit< tt)))
clear (suc (suc w)) = inr (inr (omega (arith, new-large (suc (suc w)) (omega arith))))

pub new-fits : (v : ℕ) → v < 256 → new_code v < 65536
new-fits v h = dite (dec_lt v 2) (λ k. omega (arith, new-small v k)) (λ k. omega (arith, new-large v (omega arith)))

-- ---- a special code stays itself
special : (c : Coding) (v : ℕ) → v < 2
    → values_of (told_of c (new_code v)) ≡ record { gate = (v, nothing); difference = pos 0; scale = 0; hundredths = pos 0 }
special c v h = rw (new-small v h) (special-told c v (omega arith))

-- ---- a value, by the moment
module _ (w : ℕ) where
  two-less : pos (suc (suc w)) -ℤ pos 2 ≡ pos w
  two-less = diff-ge (suc (suc w)) 2 (omega arith) ∙ ap pos (omega arith)

  raised : new_code (suc (suc w)) ≡ w + 5
  raised = new-large (suc (suc w)) (omega arith) ∙ omega arith

  value : (c : Coding) (p q : ℕ) → is_measurement c.data_type ≡ true → 0 < c.scale → 0 < c.scale * q
      → (w + 5) * (c.scale * q) + p * c.scale * c.scale ≡ w * q * c.scale + c.offset * (c.scale * q)
      → Tells (told_of c (new_code (suc (suc w)))) (worth (less (over (pos (suc (suc w)) -ℤ pos 2) c.scale) (over (pos p) q)))
  value c p q is S Q e =
      let s = same w c.offset c.scale p q S Q e in
      rw (raised, two-less, value-told c (w + 5) is (omega arith)) (refl, S, Q, s)

  velocity : (b : Bool)
      → Tells (told_of (record { data_type = 3; scale = cond b 1 2; offset = 132 }) (new_code (suc (suc w))))
      (worth
      (cond b (less (over (pos (suc (suc w)) -ℤ pos 2) 1) (over (pos 127) 1))
      (less (over (pos (suc (suc w)) -ℤ pos 2) 2) (over (pos 635) 10))))
  unfolding is_measurement
  velocity true = value (record { data_type = 3; scale = 1; offset = 132 }) 127 1 refl (lit< tt) (lit< tt) (omega arith)
  velocity false = value (record { data_type = 3; scale = 2; offset = 132 }) 635 10 refl (lit< tt) (lit< tt) (omega arith)

pub kept : (q : Quantity) (r v : ℕ) → Tells (told_of (coding_of q r) (new_code v)) (meaning q r v)
unfolding meaning formula coding_of is_measurement
kept q r zero = ap (λ (t : Values). t.gate.0) (special (coding_of q r) 0 (lit< tt))
kept q r (suc zero) = ap (λ (t : Values). t.gate.0) (special (coding_of q r) 1 (lit< tt))
kept Reflectivity r (suc (suc w)) = value w (coding_of Reflectivity r) 32 1 refl (lit< tt) (lit< tt) (omega arith)
kept Velocity r (suc (suc w)) = velocity w (eqb r 4)
kept Width r (suc (suc w)) = value w (coding_of Width r) 635 10 refl (lit< tt) (lit< tt) (omega arith)

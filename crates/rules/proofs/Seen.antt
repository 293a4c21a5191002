-- A mask with a type's bit set has that bit, and each that it had. Assumes nothing.
use Prim.Native.Nat.{ℕ, zero, suc, ◌-◌, ◌/◌, ◌%◌, ◌^◌, ◌<◌}
use native.Mathlib.Nat.{one-mul}
use native.Mathlib.Omega.{arith}
use mathlib.Core.Path.{◌≡◌, refl, sym, ap, ◌∙◌}
use mathlib.Core.Bool.{Bool, true, false, cond}
use lib.Dec.{eqb}
use lib.Pow.{shl-shr}
use lib.Bits.{bit_or, or_shr, or_mod, or_comm}
use borrow.Author.Tests.{eqb-true, eq-eqb}
use Rattle.le.proofs.Tests.{both}
use Rattle.rules.specs.Masks.{bit, with_bit}
use Rattle.rules.specs.Ranges.{within}

-- a bit of two numbers' bits together
bit-or : (a b k : ℕ) → bit_or a b / 2 ^ k % 2 ≡ bit_or (a / 2 ^ k % 2) (b / 2 ^ k % 2)
bit-or a b k = ap (λ (x : ℕ). x % 2) (or_shr a b k) ∙ or_mod (a / 2 ^ k) (b / 2 ^ k) 1

one_left : (x : ℕ) → x < 2 → bit_or 1 x ≡ 1
one_left zero h = refl
one_left (suc zero) h = refl
one_left (suc (suc n)) h = absurd (omega arith)

pub set_keeps : (m t u : ℕ) → bit m u ≡ true → bit (with_bit m t) u ≡ true
unfolding bit with_bit
set_keeps m t u e = rw (had.0, keeps (within 1 64 t))
  where
    had : (within 1 64 u ≡ true) × (eqb (m / 2 ^ (u - 1) % 2) 1 ≡ true)
    had = both (within 1 64 u) (eqb (m / 2 ^ (u - 1) % 2) 1) e

    keeps : (b : Bool) → eqb (cond b (bit_or m (2 ^ (t - 1))) m / 2 ^ (u - 1) % 2) 1 ≡ true
    keeps true =
        eq-eqb (bit_or m (2 ^ (t - 1)) / 2 ^ (u - 1) % 2) 1 (bit-or m (2 ^ (t - 1)) (u - 1) ∙ ap (λ (x : ℕ). bit_or x (2 ^ (t - 1) / 2 ^ (u - 1) % 2)) (eqb-true (m / 2 ^ (u - 1) % 2) 1 had.1) ∙ one_left (2 ^ (t - 1) / 2 ^ (u - 1) % 2) (omega arith))
    keeps false = had.1

pub set-has : (m t : ℕ) → within 1 64 t ≡ true → bit (with_bit m t) t ≡ true
unfolding bit with_bit
set-has m t h =
    let k = t - 1 in
    let own : 2 ^ k / 2 ^ k ≡ 1 = ap (λ (x : ℕ). x / 2 ^ k) (sym (one-mul (2 ^ k))) ∙ shl-shr 1 k in
    let has : bit_or m (2 ^ k) / 2 ^ k % 2 ≡ 1 =
    bit-or m (2 ^ k) k ∙ ap (λ (x : ℕ). bit_or (m / 2 ^ k % 2) (x % 2)) own ∙ or_comm (m / 2 ^ k % 2) 1 ∙ one_left _ (omega arith) in
    rw h (eq-eqb _ 1 has)

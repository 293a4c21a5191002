-- The bits that two masks share, and the bits of a mask with one set. Assumes nothing.
use Prim.Native.Nat.{ℕ, ◌+◌, ◌-◌, ◌*◌, ◌/◌, ◌%◌, ◌^◌, ◌<◌, min}
use native.Mathlib.Nat.{div-le_self, mod-eq_of_lt}
use native.Mathlib.Omega.{arith}
use mathlib.Core.Path.{◌≡◌, refl, sym, ap, ap₂, ◌∙◌}
use mathlib.Core.Bool.{Bool, true, false, ◌&&◌, ◌||◌, and-false, or-false}
use lib.Arith.{bin_ind}
use lib.Bits.{bit_and, bit_or, and_step, and_mask}
use lib.Dec.{eqb}
use Rattle.le.proofs.Tests.{both}
use Rattle.rules.specs.Masks.{bit, with_bit}
use Rattle.rules.specs.Ranges.{within}
use Rattle.rules.proofs.Seen.{set-has}
use Rattle.coming.proofs.Choices.{bit-range}
use Rattle.coming.proofs.Counts.{digit, digit_and, digit_or, digit-other}

-- two masks share a bit where each has it
pub bit-and : (a b t : ℕ) → bit (bit_and a b) t ≡ (bit a t && bit b t)
unfolding bit digit
bit-and a b t = go (within 1 64 t)
  where
    go : (w : Bool) → (w && eqb (bit_and a b / 2 ^ (t - 1) % 2) 1) ≡ ((w && eqb (a / 2 ^ (t - 1) % 2) 1) && (w && eqb (b / 2 ^ (t - 1) % 2) 1))
    go true = digit_and a b (t - 1)
    go false = refl

-- the mask 0 has no bit
pub bit-none : (t : ℕ) → bit 0 t ≡ false
unfolding bit
bit-none t =
    let h = div-le_self 0 (2 ^ (t - 1)) in
    let z : 0 / 2 ^ (t - 1) ≡ 0 = omega arith in
    rw z (and-false (within 1 64 t))

-- the lowest bit of what two numbers share, and the others
low : (a b : ℕ) → bit_and a b % 2 ≡ min (a % 2) (b % 2)
low a b = let e = and_step a b in omega arith

high : (a b : ℕ) → bit_and a b / 2 ≡ bit_and (a / 2) (b / 2)
high a b = let e = and_step a b in omega arith

-- what three masks share, whichever two come first
pub and_assoc : (a b c : ℕ) → bit_and (bit_and a b) c ≡ bit_and a (bit_and b c)
and_assoc =
    bin_ind (λ (n : ℕ). (b c : ℕ) → bit_and (bit_and n b) c ≡ bit_and n (bit_and b c)) (λ b c. refl)
    (λ n ih b c.
    and_step (bit_and n b) c
    ∙ ap₂ (λ (x y : ℕ). x * 2 + y)
    (ap (λ (x : ℕ). bit_and x (c / 2)) (high n b) ∙ ih (b / 2) (c / 2) ∙ ap (λ (x : ℕ). bit_and (n / 2) x) (sym (high b c)))
    (least n b c)
    ∙ sym (and_step n (bit_and b c)))
  where
    least : (a b c : ℕ) → min (bit_and a b % 2) (c % 2) ≡ min (a % 2) (bit_and b c % 2)
    least a b c = let e = low a b in let f = low b c in omega arith

-- a mask of 64 bits shares every bit with the mask that has them all
pub and-ones : (a : ℕ) → a < 2 ^ 64 → bit_and a (2 ^ 64 - 1) ≡ a
and-ones a h = and_mask a 64 ∙ mod-eq_of_lt h

-- a mask with a type's bit set has no other bit that it did not have
pub set_other : (m t u : ℕ) → within 1 64 t ≡ true → (u ≡ t → ⊥) → bit (with_bit m t) u ≡ true → bit m u ≡ true
unfolding bit with_bit digit
set_other m t u h other e =
    let t_some = (bit-range (with_bit m t) t (set-has m t h)).0 in
    let u-some = (bit-range (with_bit m t) u e).0 in
    let has = both (within 1 64 u) (digit (with_bit m t) (u - 1)) e in
    let now : digit (bit_or m (2 ^ (t - 1))) (u - 1) ≡ true = rw h at has.1 in
    let old = sym (or-false (digit m (u - 1))) ∙ ap (λ (x : Bool). digit m (u - 1) || x) (sym (digit-other (t - 1) (u - 1) (λ z. other (omega arith)))) ∙ sym (digit_or m (2 ^ (t - 1)) (u - 1)) ∙ now in
    rw (has.0, old)

-- The hundredths of a value told by two bounds on whole numbers, with no division. Assumes nothing.
use mathlib.Core.Bool.{Bool, true, false, cond}
use mathlib.Core.Logic.{dite}
use mathlib.Core.Path.{◌≡◌, refl, sym, ap, subst, ◌∙◌}
use Prim.Native.Nat.{ℕ, zero, suc, ◌+◌, ◌-◌, ◌*◌, ◌≤◌, ◌<◌}
use native.Mathlib.Decide.{dec_lt}
use native.Mathlib.Nat.{mul-add, mul_comm, mul-suc}
use native.Mathlib.Omega.{arith}
use borrow.Author.Tests.{lt-ltb, le-ltb}
use lib.Dec.{ltb}
use lib.IntN.{ℤ, pos, negsuc, ◌+ℤ◌, pos-ne-negsuc}
use mir.Syntax.{w32}
use mir.Val.{SFits, bool_byte}
use Rattle.le.proofs.Tests.{fails}
use Rattle.gates.specs.declared.Coding.{Coding}
use Rattle.gates.specs.Gates.{difference_of, magnitude_of, hundredths_of}
use Rattle.gates.specs.Nearest.{Nearest}
use Rattle.gates.proofs.Gates.{by_zero, hundredths-ge}
use Rattle.gates.proofs.Nearest.{hundredths-near, magnitude-one, nearest-one}
use Rattle.gates.proofs.Signs.{diff-ge, diff-lt}
use Rattle.decoded.specs.Decoded.{eqℤ}
use Rattle.decoded.proofs.Signs.{raised-pos, raised-neg, eqℤ-own, eqℤ-true}

module _ (s code offset r : ℕ) where
  abbrev pub value : ℕ
  value = 200 * code + s + 2 * s * 2147483648

  abbrev pub least : ℕ → ℕ
  least below = 200 * offset + below + 2 * s * r

  pub record Bounds (below : ℕ) : Type 0 where
    pub from : least below ≤ value
    pub to : value < least below + 2 * s

  -- twice the scale, r times
  up : (n : ℕ) → r ≡ n + 2147483648 → 2 * s * r ≡ n * (2 * s) + 2 * s * 2147483648
  up n e = rw (e, mul-add (2 * s) n 2147483648, mul_comm (2 * s) n)

  down : (n : ℕ) → r + suc n ≡ 2147483648 → 2 * s * r + suc n * (2 * s) ≡ 2 * s * 2147483648
  down n e = ap (λ (x : ℕ). 2 * s * r + x) (mul_comm (suc n) (2 * s)) ∙ sym (mul-add (2 * s) r (suc n)) ∙ ap (λ (x : ℕ). 2 * s * x) e

  -- and some times is once at least
  once : (n : ℕ) → 2 * s ≤ suc n * (2 * s)
  once n = let x = mul_comm (suc n) (2 * s) in let y = mul-suc (2 * s) n in omega arith

  module _ (some : 0 < s) where
    -- ---- from the offset on

    above-near : offset ≤ code → (h : ℤ) → SFits w32 h → pos r ≡ h +ℤ pos 2147483648 → Nearest (pos (code - offset)) s h → Bounds 0
    above-near l (pos n) f e p =
        let u = up n (raised-pos n r e) in
        let a = p.at_least in
        let b = p.under in
        record { from = omega arith; to = omega arith }
    above-near l (negsuc n) f e p = absurd (pos-ne-negsuc (suc n) n (sym p.sign))

    near-above : offset ≤ code → (h : ℤ) → SFits w32 h → pos r ≡ h +ℤ pos 2147483648 → Bounds 0 → Nearest (pos (code - offset)) s h
    near-above l (pos n) f e p =
        let u = up n (raised-pos n r e) in
        let a = p.from in
        let b = p.to in
        record { sign = refl; at_least = omega arith; under = omega arith }
    near-above l (negsuc n) f e p = absurd (let u = down n (raised-neg n r f e) in let g = once n in let b = p.to in omega arith)

    -- ---- below the offset: a half goes the other way

    below-near : code < offset → (h : ℤ) → SFits w32 h → pos r ≡ h +ℤ pos 2147483648 → Nearest (negsuc (offset - suc code)) s h → Bounds 1
    below-near l (pos zero) f e p =
        let u = up 0 (raised-pos 0 r e) in
        let b = p.under in
        record { from = omega arith; to = omega arith }
    below-near l (pos (suc n)) f e p = absurd (pos-ne-negsuc (suc n) n p.sign)
    below-near l (negsuc n) f e p =
        let u = down n (raised-neg n r f e) in
        let a = p.at_least in
        let b = p.under in
        record { from = omega arith; to = omega arith }

    near-below : code < offset → (h : ℤ) → SFits w32 h → pos r ≡ h +ℤ pos 2147483648 → Bounds 1 → Nearest (negsuc (offset - suc code)) s h
    near-below l (pos zero) f e p =
        let u = up 0 (raised-pos 0 r e) in
        let a = p.from in
        record { sign = refl; at_least = omega arith; under = omega arith }
    near-below l (pos (suc n)) f e p = absurd (let u = up (suc n) (raised-pos (suc n) r e) in let g = once n in let a = p.from in omega arith)
    near-below l (negsuc n) f e p =
        let u = down n (raised-neg n r f e) in
        let a = p.from in
        let b = p.to in
        record { sign = refl; at_least = omega arith; under = omega arith }

module _ (c : Coding) (code r : ℕ) (h : ℤ) (f : SFits w32 h) (e : pos r ≡ h +ℤ pos 2147483648) (some : 0 < c.scale) where
  abbrev below : ℕ
  below = bool_byte (ltb code c.offset)

  within : hundredths_of c code ≡ h → Bounds c.scale code c.offset r below
  within x =
      let n : Nearest (difference_of c code) c.scale h = subst (Nearest (difference_of c code) c.scale) x (hundredths-near c code some) in
      dite (dec_lt code c.offset)
      (λ l. rw (lt-ltb code c.offset l) (below-near c.scale code c.offset r some l h f e (rw (diff-lt code c.offset l) at n)))
      (λ l.
      let m : c.offset ≤ code = omega arith in
      rw (le-ltb code c.offset m) (above-near c.scale code c.offset r some m h f e (rw (diff-ge code c.offset m) at n)))

  nearest : Bounds c.scale code c.offset r below → hundredths_of c code ≡ h
  nearest p =
      dite (dec_lt code c.offset)
      (λ l. nearest-one (hundredths-near c code some) (rw (diff-lt code c.offset l) (near-below c.scale code c.offset r some l h f e (rw (lt-ltb code c.offset l) at p))))
      (λ l.
      let m : c.offset ≤ code = omega arith in
      nearest-one (hundredths-near c code some) (rw (diff-ge code c.offset m) (near-above c.scale code c.offset r some m h f e (rw (le-ltb code c.offset m) at p))))

  pub too-low : value c.scale code c.offset r < least c.scale code c.offset r below → eqℤ (hundredths_of c code) h ≡ false
  too-low l = fails (eqℤ (hundredths_of c code) h) (λ x. let p = (within (eqℤ-true (hundredths_of c code) h x)).from in omega arith)

  pub told : least c.scale code c.offset r below ≤ value c.scale code c.offset r
      → ltb (value c.scale code c.offset r - least c.scale code c.offset r below) (2 * c.scale) ≡ eqℤ (hundredths_of c code) h
  told l =
      dite (dec_lt (value c.scale code c.offset r - least c.scale code c.offset r below) (2 * c.scale))
      (λ m. lt-ltb _ _ m ∙ sym (ap (λ (x : ℤ). eqℤ x h) (nearest (record { from = l; to = omega arith })) ∙ eqℤ-own h))
      (λ m.
      le-ltb (value c.scale code c.offset r - least c.scale code c.offset r below) (2 * c.scale) (omega arith)
      ∙ sym (fails (eqℤ (hundredths_of c code) h) (λ x. let p = (within (eqℤ-true (hundredths_of c code) h x)).to in omega arith)))

-- ---- the offset itself, which stands for any gate that is no value

at_offset : (c : Coding) → hundredths_of c c.offset ≡ pos 0
at_offset c =
    let o = c.offset in
    let z : o - o ≡ 0 = omega arith in
    dite (dec_lt 0 c.scale)
    (λ l. hundredths-ge c o (omega arith) ∙ ap pos (ap (λ (n : ℕ). magnitude_of n c.scale) z ∙ magnitude-one 0 c.scale 0 (omega arith) (omega arith)))
    (λ l. (by_zero c o (omega arith)).1)

pub measured-shows : (c : Coding) (code : ℕ) (b : Bool) → hundredths_of c (cond b code c.offset) ≡ cond b (hundredths_of c code) (pos 0)
measured-shows c code true = refl
measured-shows c code false = at_offset c

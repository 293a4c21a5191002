-- The test on counts, one moment at a time: taking a moment away keeps it, and where it holds there is a length to take. Assumes nothing.
use mathlib.Core.Path.{◌≡◌, refl, sym, ap, ◌∙◌}
use mathlib.Core.Bool.{Bool, true, ◌&&◌, cond}
use mathlib.Core.Logic.{dite}
use Prim.Native.Nat.{ℕ, suc, ◌+◌, ◌-◌, ◌*◌, ◌/◌, ◌%◌, ◌≤◌, ◌<◌, min}
use native.Mathlib.Decide.{dec_lt}
use native.Mathlib.Omega.{arith}
use lib.Dec.{eqb, leb}
use borrow.Author.Tests.{le-leb, lt-leb, leb-true, eqb-true, eq-eqb}
use Rattle.le.proofs.Tests.{both}
use Rattle.coming.specs.Moments.{can_fill}

-- the same in one form: with n1 = 0 the least is 2 k
pub record Fits (n1 n2 k r : ℕ) : Type 0 where
  pub few : k ≤ n1 + n2
  pub most : r ≤ 32768 * k
  pub least : 2 * k - min n1 k ≤ r
  pub even : n1 ≡ 0 → r % 2 ≡ 0

pub fits-of : (n1 n2 k r : ℕ) → can_fill n1 n2 k r ≡ true → Fits n1 n2 k r
unfolding can_fill
fits-of n1 n2 k r e =
    let a = both (leb k (n1 + n2)) _ e in
    let b = both (leb r (32768 * k)) _ a.1 in
    let few : k ≤ n1 + n2 = leb-true k (n1 + n2) a.0 in
    let most : r ≤ 32768 * k = leb-true r (32768 * k) b.0 in
    dite (dec_lt 0 n1)
    (λ h. let c : leb (2 * k - min n1 k) r ≡ true = sym (ap (λ (t : Bool). cond t (leb (2 * k - min n1 k) r) (leb (2 * k) r && eqb (r % 2) 0)) (le-leb 1 n1 h)) ∙ b.1 in
    record { few = few; most = most; least = leb-true (2 * k - min n1 k) r c; even = λ z. omega arith })
    (λ h. let c : (leb (2 * k) r && eqb (r % 2) 0) ≡ true = sym (ap (λ (t : Bool). cond t (leb (2 * k - min n1 k) r) (leb (2 * k) r && eqb (r % 2) 0)) (lt-leb 1 n1 (omega arith))) ∙ b.1 in
    let d = both (leb (2 * k) r) _ c in
    let l : 2 * k ≤ r = leb-true (2 * k) r d.0 in
    record { few = few; most = most; least = omega arith; even = λ z. eqb-true (r % 2) 0 d.1 })

pub of-fits : (n1 n2 k r : ℕ) → Fits n1 n2 k r → can_fill n1 n2 k r ≡ true
unfolding can_fill
of-fits n1 n2 k r f =
    dite (dec_lt 0 n1)
    (λ h. rw (le-leb k (n1 + n2) f.few, le-leb r (32768 * k) f.most, le-leb 1 n1 h, le-leb (2 * k - min n1 k) r f.least))
    (λ h. let z : n1 ≡ 0 = omega arith in
    let l : 2 * k ≤ r = omega arith in
    rw (le-leb k (n1 + n2) f.few, le-leb r (32768 * k) f.most, lt-leb 1 n1 (omega arith), le-leb (2 * k) r l, eq-eqb (r % 2) 0 (f.even z)))

-- ---- a moment before: of one byte a gate, of two
pub back-single : (n1 n2 k r l : ℕ) → 1 ≤ l → l ≤ 32768 → Fits n1 n2 k r → Fits (suc n1) n2 (suc k) (l + r)
back-single n1 n2 k r l a b f = record { few = omega arith; most = omega arith; least = omega arith; even = λ z. omega arith }

pub back-double : (n1 n2 k r l : ℕ) → 1 ≤ l → l ≤ 32768 → l % 2 ≡ 0 → Fits n1 n2 k r → Fits n1 (suc n2) (suc k) (l + r)
back-double n1 n2 k r l a b e f = record { few = omega arith; most = omega arith; least = omega arith; even = λ z. let d = f.even z in omega arith }

-- ---- a moment to take
pub record Length (n1 n2 k r : ℕ) : Type 0 where
  pub size : ℕ
  pub least : 1 ≤ size
  pub most : size ≤ 32768
  pub within : size ≤ r
  pub rest : Fits n1 n2 k (r - size)

-- while there are types of one byte for all, one of them: all that the others can spare
pub on-single : (n1 n2 k r : ℕ) → k ≤ n1 → Fits (suc n1) n2 (suc k) r → Length n1 n2 k r
on-single n1 n2 k r h f =
    dite (dec_lt (r - k) 32768)
    (λ s. record { size = r - k; least = omega arith; most = omega arith; within = omega arith; rest = record { few = omega arith; most = omega arith; least = omega arith; even = λ z. omega arith } })
    (λ s. record { size = 32768; least = omega arith; most = omega arith; within = omega arith; rest = record { few = omega arith; most = omega arith; least = omega arith; even = λ z. omega arith } })

-- otherwise one of two bytes, and an even part of what the others can spare
pub record Even (n1 n2 k r : ℕ) : Type 0 where
  pub length : Length n1 n2 k r
  pub even : length.size % 2 ≡ 0

module _ (n1 n2 k r w half : ℕ) (h : n1 ≤ k) (a : 1 ≤ half) (b : 2 * half + w ≤ r) (c : r ≤ 2 * half + w + 1) (e : w + n1 ≡ 2 * k)
    (few : suc k ≤ n1 + suc n2) (most : r ≤ 32768 * suc k) (even : n1 ≡ 0 → r % 2 ≡ 0) where
  -- less than the longest: what is left is the least that the others take, or one byte more
  short : half < 16384 → Fits n1 n2 k (r - 2 * half)
  short s = record {
    few = omega arith;
    most = dite (dec_lt 0 n1) (λ p. omega arith) (λ p. let z : n1 ≡ 0 = omega arith in let d = even z in omega arith);
    least = omega arith;
    even = λ z. let d = even z in omega arith;
  }

  -- the longest
  long : 16384 ≤ half → Fits n1 n2 k (r - 32768)
  long s = record { few = omega arith; most = omega arith; least = omega arith; even = λ z. let d = even z in omega arith }

  take-even : Even n1 n2 k r
  take-even =
      dite (dec_lt half 16384)
      (λ s. record { length = record { size = 2 * half; least = omega arith; most = omega arith; within = omega arith; rest = short s }; even = omega arith })
      (λ s. record { length = record { size = 32768; least = omega arith; most = omega arith; within = omega arith; rest = long (omega arith) }; even = refl })

pub on-double : (n1 n2 k r : ℕ) → n1 ≤ k → Fits n1 (suc n2) (suc k) r → Even n1 n2 k r
on-double n1 n2 k r h f =
    let w = 2 * k - n1 in
    let least : w + 2 ≤ r = omega arith in
    take-even n1 n2 k r w ((r - w) / 2) h (omega arith) (omega arith) (omega arith) (omega arith) f.few f.most f.even

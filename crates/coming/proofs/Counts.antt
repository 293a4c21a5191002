-- Counting the set digits of a word by a test on places: what a place more or less does to the count. Assumes nothing.
use mathlib.Core.Path.{◌≡◌, refl, sym, ap, ap₂, ◌∙◌, fun_ext}
use mathlib.Core.Bool.{Bool, true, false, not, ◌&&◌, ◌||◌}
use Prim.Native.Nat.{ℕ, zero, suc, ◌+◌, ◌-◌, ◌*◌, ◌/◌, ◌%◌, ◌^◌, ◌<◌, min, max}
use native.Mathlib.Nat.{div-one, div-eq_of_lt, div_self, mul-div_cancel, lt_of_le_of_lt}
use native.Mathlib.Decide.{dec_lt}
use native.Mathlib.Omega.{arith}
use mathlib.Core.Logic.{dite}
use lib.Bits.{bit_and, bit_or, bit_xor, differ, and_step, or_step, xor_step, and_le_l, and_shr, or_shr, xor_shr}
use lib.Count.{ones, ones_step, ones-le}
use lib.Dec.{eqb}
use lib.Pow.{pow_pos, pow-lt, pow-add, shr-shr}
use borrow.Author.Tests.{ne_eqb}
use Rattle.coming.specs.Moments.{lacks}

-- ---- counting the places below n that a test takes
abbrev one : Bool → ℕ
one true = 1
one false = 0

unfoldable pub count : (ℕ → Bool) → ℕ → ℕ
count f zero = 0
count f (suc n) = one (f 0) + count (λ j. f (suc j)) n

pub count_same : (f g : ℕ → Bool) (n : ℕ) → ((j : ℕ) → f j ≡ g j) → count f n ≡ count g n
count_same f g n e = ap (λ (h : ℕ → Bool). count h n) (fun_ext e)

-- a place less
pub count_less : (f g : ℕ → Bool) (n i : ℕ) → i < n → f i ≡ true → g i ≡ false → ((j : ℕ) → (j ≡ i → ⊥) → g j ≡ f j) → count f n ≡ suc (count g n)
unfolding count
count_less f g zero i h ft gf e = absurd (let z : ◌≡◌ {A = ℕ} 0 1 = omega arith in omega arith)
count_less f g (suc n) zero h ft gf e =
    rw (ft, gf, count_same (λ j. g (suc j)) (λ j. f (suc j)) n (λ j. e (suc j) (λ z. omega arith))) (omega arith)
count_less f g (suc n) (suc i) h ft gf e =
    let r = count_less (λ j. f (suc j)) (λ j. g (suc j)) n i (omega arith) ft gf (λ j k. e (suc j) (λ z. k (omega arith))) in
    rw (e 0 (λ z. omega arith), r) (omega arith)

-- where the count is not 0 there is such a place
pub count-find : (f : ℕ → Bool) (n : ℕ) → 0 < count f n → (i : ℕ) × (i < n) × (f i ≡ true)
unfolding count
count-find f zero h = absurd (omega arith)
count-find f (suc n) h = go (f 0) refl (count-find (λ j. f (suc j)) n)
  where
    go : (b : Bool) → f 0 ≡ b → (0 < count (λ j. f (suc j)) n → (i : ℕ) × (i < n) × (f (suc i) ≡ true)) → (i : ℕ) × (i < suc n) × (f i ≡ true)
    go true e r = (0, omega arith, e)
    go false e r =
        let z : one (f 0) ≡ 0 = ap one e in
        let t = r (omega arith) in (suc t.0, omega (arith, t.1), t.2)

-- ---- the digit at place j
unfoldable pub digit : ℕ → ℕ → Bool
digit x j = eqb (x / 2 ^ j % 2) 1

one-digit : (x : ℕ) → x < 2 → one (eqb x 1) ≡ x
one-digit zero h = refl
one-digit (suc zero) h = refl
one-digit (suc (suc x)) h = absurd (omega arith)

pub ones-count : (k x : ℕ) → x < 2 ^ k → ones x ≡ count (digit x) k
unfolding count digit
ones-count zero x h = let l = ones-le 0 x h in omega arith
ones-count (suc k) x h =
    ones_step x
    ∙ ap₂ (λ (a b : ℕ). a + b)
    (sym (one-digit (x % 2) (omega arith)) ∙ ap (λ (y : ℕ). one (eqb (y % 2) 1)) (sym (div-one x)))
    (ones-count k (x / 2) (omega arith) ∙ count_same (digit (x / 2)) (λ j. digit x (suc j)) k (λ j. ap (λ (y : ℕ). eqb (y % 2) 1) (shr-shr x 1 j ∙ ap (λ (y : ℕ). x / 2 ^ y) (omega arith))))

-- ---- digits of the operations
abbrev pub Two : (ℕ → ℕ → Type 0) → Type 0
Two P = (p q : ℕ) → p < 2 → q < 2 → P p q

four : (P : ℕ → ℕ → Type 0) → P 0 0 → P 0 1 → P 1 0 → P 1 1 → Two P
four P a b c d zero zero h k = a
four P a b c d zero (suc zero) h k = b
four P a b c d (suc zero) zero h k = c
four P a b c d (suc zero) (suc zero) h k = d
four P a b c d zero (suc (suc q)) h k = absurd (omega arith)
four P a b c d (suc zero) (suc (suc q)) h k = absurd (omega arith)
four P a b c d (suc (suc p)) q h k = absurd (omega arith)

bound : (x : ℕ) → x % 2 < 2
bound x = omega arith

and_low : (x y : ℕ) → bit_and x y % 2 ≡ min (x % 2) (y % 2)
and_low x y = let e = and_step x y in omega arith

or-low : (x y : ℕ) → bit_or x y % 2 ≡ max (x % 2) (y % 2)
or-low x y = let e = or_step x y in omega arith

xor_low : (x y : ℕ) → bit_xor x y % 2 ≡ differ (x % 2) (y % 2)
xor_low x y =
    ap (λ (z : ℕ). z % 2) (xor_step x y) ∙ go (bit_xor (x / 2) (y / 2)) (differ (x % 2) (y % 2)) (four (λ p q. differ p q < 2) (omega arith) (omega arith) (omega arith) (omega arith) (x % 2) (y % 2) (bound x) (bound y))
  where
    go : (u d : ℕ) → d < 2 → (u * 2 + d) % 2 ≡ d
    go u d h = omega arith

pub digit_and : (a b j : ℕ) → digit (bit_and a b) j ≡ (digit a j && digit b j)
unfolding digit
digit_and a b j =
    let x = a / 2 ^ j in let y = b / 2 ^ j in
    ap (λ (z : ℕ). eqb (z % 2) 1) (and_shr a b j) ∙ ap (λ (z : ℕ). eqb z 1) (and_low x y)
    ∙ four (λ p q. eqb (min p q) 1 ≡ (eqb p 1 && eqb q 1)) refl refl refl refl (x % 2) (y % 2) (bound x) (bound y)

pub digit_or : (a b j : ℕ) → digit (bit_or a b) j ≡ (digit a j || digit b j)
unfolding digit
digit_or a b j =
    let x = a / 2 ^ j in let y = b / 2 ^ j in
    ap (λ (z : ℕ). eqb (z % 2) 1) (or_shr a b j) ∙ ap (λ (z : ℕ). eqb z 1) (or-low x y)
    ∙ four (λ p q. eqb (max p q) 1 ≡ (eqb p 1 || eqb q 1)) refl refl refl refl (x % 2) (y % 2) (bound x) (bound y)

pub digit-lacks : (a b j : ℕ) → digit (lacks a b) j ≡ (digit a j && not (digit b j))
unfolding digit
digit-lacks a b j =
    let x = a / 2 ^ j in let y = b / 2 ^ j in
    ap (λ (z : ℕ). eqb (z % 2) 1) (and_shr a (bit_xor a b) j ∙ ap (λ (z : ℕ). bit_and x z) (xor_shr a b j))
    ∙ ap (λ (z : ℕ). eqb z 1) (and_low x (bit_xor x y) ∙ ap (λ (z : ℕ). min (x % 2) z) (xor_low x y))
    ∙ four (λ p q. eqb (min p (differ p q)) 1 ≡ (eqb p 1 && not (eqb q 1))) refl refl refl refl (x % 2) (y % 2) (bound x) (bound y)

-- of one set digit
pub digit-same : (i : ℕ) → digit (2 ^ i) i ≡ true
unfolding digit
digit-same i = rw (div_self (pow_pos i))

pub digit-other : (i j : ℕ) → (j ≡ i → ⊥) → digit (2 ^ i) j ≡ false
unfolding digit
digit-other i j h =
    dite (dec_lt i j) (λ k. rw (div-eq_of_lt (pow-lt k)))
    (λ k. let d = i - j - 1 in
    let e : 2 ^ i ≡ 2 ^ suc d * 2 ^ j = ap (λ (y : ℕ). 2 ^ y) (omega arith) ∙ pow-add 2 (suc d) j in
    ne_eqb (2 ^ i / 2 ^ j % 2) 1 (λ z. go (2 ^ i / 2 ^ j) (2 ^ d) (ap (λ (y : ℕ). y / 2 ^ j) e ∙ mul-div_cancel (2 ^ suc d) (pow_pos j) ∙ omega arith) z))
  where
    go : (u v : ℕ) → u ≡ 2 * v → u % 2 ≡ 1 → ⊥
    go u v e z = omega arith

-- ---- the digits that another number has and those that it lacks are all the digits
count-parts : (f g h : ℕ → Bool) (n : ℕ) → ((j : ℕ) → one (f j) ≡ one (g j) + one (h j)) → count f n ≡ count g n + count h n
unfolding count
count-parts f g h zero e = refl
count-parts f g h (suc n) e =
    let r = count-parts (λ j. f (suc j)) (λ j. g (suc j)) (λ j. h (suc j)) n (λ j. e (suc j)) in
    let z = e 0 in omega arith

parts : (a b : Bool) → one a ≡ one (a && not b) + one (a && b)
parts true true = refl
parts true false = refl
parts false true = refl
parts false false = refl

pub ones-parts : (x y : ℕ) → x < 2 ^ 64 → ones x ≡ ones (lacks x y) + ones (bit_and x y)
ones-parts x y h =
    ones-count 64 x h
    ∙ count-parts (digit x) (digit (lacks x y)) (digit (bit_and x y)) 64 (λ j. parts (digit x j) (digit y j) ∙ ap₂ (λ (a b : Bool). one a + one b) (sym (digit-lacks x y j)) (sym (digit_and x y j)))
    ∙ ap₂ (λ (a b : ℕ). a + b) (sym (ones-count 64 (lacks x y) (lt_of_le_of_lt (and_le_l x _) h))) (sym (ones-count 64 (bit_and x y) (lt_of_le_of_lt (and_le_l x _) h)))

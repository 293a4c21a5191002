-- A signed number in a range of numbers that are not below 0, by its bits: one law over the width. Assumes nothing.
use mathlib.Core.Path.{◌≡◌, refl, sym, ◌∙◌}
use mathlib.Core.Bool.{Bool, true, false, ◌&&◌, cond}
use mathlib.Core.Logic.{dite, ◌⊎◌, inl, inr, ⊎_elim}
use Prim.Native.Nat.{ℕ, suc, ◌+◌, ◌*◌, ◌-◌, ◌%◌, ◌^◌, ◌≤◌, ◌<◌}
use native.Mathlib.Decide.{dec_lt}
use native.Mathlib.Nat.{one-mul, mod-eq_of_lt}
use native.Mathlib.Omega.{arith}
use lib.Dec.{leb, ltb, eqb, lit<}
use lib.IntN.{pos}
use lib.Pow.{pow-lt}
use mir.Syntax.{Width, w32}
use mir.Val.{hbits, to_z}
use mir.ValLaws.{to_z_pos}
use borrow.Author.Tests.{le-leb, lt-leb, le-ltb, lt-ltb, eq-eqb, ne_eqb, leb-true, eqb-true}
use Rattle.le.specs.Le.{int, short}
use Rattle.le.proofs.Tests.{both}
use Rattle.rules.specs.Check.{breaks}
use Rattle.rules.specs.Masks.{bit, bin_length_clauses, bin_length_ok}
use Rattle.rules.specs.States.{rhi, most_cuts, cut_number_ok, cut_number_clauses, opening, closing}
use Rattle.rules.specs.Tiling.{moment_number_ok, moment_number_clauses}
use Rattle.rules.specs.Ranges.{among, is, within, not_below_zero, counts, count_clauses}

and-false : (b : Bool) → (b && false) ≡ false
and-false true = refl
and-false false = refl

and-true : (b : Bool) → b ≡ (b && true)
and-true true = refl
and-true false = refl

pub by_bits : (w : Width) (lo hi x : ℕ) → hi < 2 ^ hbits w → among (pos lo) (pos hi) (to_z w x) ≡ within lo hi x
unfolding among within
by_bits w lo hi x h =
    dite (dec_lt x (2 ^ hbits w)) (λ k. rw (to_z_pos w x k))
    (λ k. rw (le-ltb x (2 ^ hbits w) (omega arith), lt-leb x hi (omega arith)) (sym (and-false (leb lo x))))

pub zero-by-bits : (w : Width) (x : ℕ) → not_below_zero (to_z w x) ≡ ltb x (2 ^ hbits w)
unfolding not_below_zero
zero-by-bits w x =
    dite (dec_lt x (2 ^ hbits w)) (λ k. rw (to_z_pos w x k, lt-ltb x (2 ^ hbits w) k, le-leb 0 x (omega arith)))
    (λ k. rw (le-ltb x (2 ^ hbits w) (omega arith)))

-- what the tests of a range show
pub inside : (w : Width) (lo hi x : ℕ) → hi < 2 ^ hbits w → lo ≤ x → x < suc hi → true ≡ among (pos lo) (pos hi) (to_z w x)
unfolding within
inside w lo hi x h a b = rw (by_bits w lo hi x h, le-leb lo x a, le-leb x hi (omega arith))

pub below : (w : Width) (lo hi x : ℕ) → hi < 2 ^ hbits w → x < lo → false ≡ among (pos lo) (pos hi) (to_z w x)
unfolding within
below w lo hi x h a = rw (by_bits w lo hi x h, lt-leb lo x a)

pub above : (w : Width) (lo hi x : ℕ) → hi < 2 ^ hbits w → suc hi ≤ x → false ≡ among (pos lo) (pos hi) (to_z w x)
unfolding within
above w lo hi x h a = rw (by_bits w lo hi x h, lt-leb x hi (omega arith)) (sym (and-false (leb lo x)))

-- exactly n: the bits are n's, and the sign bit is clear
pub exactly-clear : (w : Width) (n x : ℕ) → x < 2 ^ hbits w → among (pos n) (pos n) (to_z w x) ≡ eqb x n
unfolding among
exactly-clear w n x h =
    rw (to_z_pos w x h)
    (dite (dec_lt x n) (λ a. rw (lt-leb n x a, ne_eqb x n (λ e. omega arith)))
    (λ a. dite (dec_lt n x) (λ b. rw (le-leb n x (omega arith), lt-leb x n b, ne_eqb x n (λ e. omega arith)))
    (λ b. rw (le-leb n x (omega arith), le-leb x n (omega arith), eq-eqb x n (omega arith)))))

pub exactly-set : (w : Width) (n x : ℕ) → 2 ^ hbits w ≤ x → among (pos n) (pos n) (to_z w x) ≡ false
unfolding among
exactly-set w n x h = rw (le-ltb x (2 ^ hbits w) h)

pub exactly : (w : Width) (n x : ℕ) → n < 2 ^ hbits w → among (pos n) (pos n) (to_z w x) ≡ eqb x n
exactly w n x h =
    dite (dec_lt x (2 ^ hbits w)) (λ a. exactly-clear w n x a)
    (λ a. exactly-set w n x (omega arith) ∙ sym (ne_eqb x n (λ e. omega arith)))

-- the same range of a number that has no sign
pub in-range : (lo hi x : ℕ) → lo ≤ x → x < suc hi → within lo hi x ≡ true
unfolding within
in-range lo hi x a b = rw (le-leb lo x a, le-leb x hi (omega arith))

pub under : (lo hi x : ℕ) → x < lo → within lo hi x ≡ false
unfolding within
under lo hi x a = rw (lt-leb lo x a)

pub over : (lo hi x : ℕ) → suc hi ≤ x → within lo hi x ≡ false
unfolding within
over lo hi x a = rw (lt-leb x hi (omega arith)) (and-false (leb lo x))

-- one more than what was counted before it, and not past the most: which of the two clauses is broken first, as the tests decide
pub right-count : (most before x : ℕ) → x < 2147483648 → 1 ≤ x → x ≤ most → x - 1 ≡ before → breaks (count_clauses most before x) ≡ 0
unfolding count_clauses
right-count most before x small a b e = rw (exactly-clear w32 (before + 1) x small, eq-eqb x (before + 1) (omega arith), le-leb (before + 1) most (omega arith))

pub far-count : (most before x : ℕ) → x < 2147483648 → most < x → x - 1 ≡ before → breaks (count_clauses most before x) ≡ 2
unfolding count_clauses
far-count most before x small a e = rw (exactly-clear w32 (before + 1) x small, eq-eqb x (before + 1) (omega arith), lt-leb (before + 1) most (omega arith))

pub wrong-count : (most before x : ℕ) → (x < 2147483648 → 1 ≤ x → x - 1 ≡ before → ⊥) → breaks (count_clauses most before x) ≡ 1
unfolding count_clauses
wrong-count most before x o =
    dite (dec_lt x 2147483648)
    (λ h. rw (exactly-clear w32 (before + 1) x h, ne_eqb x (before + 1) (λ e. o h (omega arith) (omega arith))))
    (λ h. rw (exactly-set w32 (before + 1) x (omega arith)))

-- one bit of a 64-bit word, as the shift makes it
pub one_bit : (k : ℕ) → k < 64 → (1 * 2 ^ k) % 18446744073709551616 ≡ 2 ^ k
one_bit k h = rw one-mul (mod-eq_of_lt (pow-lt h))

-- scan types 2 and 5, as a match on them tells
pub turned : (scan : ℕ) → (scan ≡ 2) ⊎ (scan ≡ 5) → rhi scan ≡ true
unfolding rhi
turned scan h = rw (exactly w32 2 scan (lit< tt), exactly w32 5 scan (lit< tt)) (⊎_elim (λ e. rw e) (λ e. rw e) h)

pub not-turned : (scan : ℕ) → ((scan ≡ 2) ⊎ (scan ≡ 5) → ⊥) → rhi scan ≡ false
unfolding rhi
not-turned scan h =
    rw (exactly w32 2 scan (lit< tt), exactly w32 5 scan (lit< tt), ne_eqb scan 2 (λ e. h (inl e)), ne_eqb scan 5 (λ e. h (inr e)))

-- how many cuts a task may have, as a match on its scan type tells
pub one-cut : (scan : ℕ) → scan ≡ 2 → most_cuts scan ≡ 1
unfolding most_cuts
one-cut scan e = rw (exactly w32 2 scan (lit< tt), eq-eqb scan 2 e)

pub many-cuts : (scan : ℕ) → (scan ≡ 2 → ⊥) → most_cuts scan ≡ 256
unfolding most_cuts
many-cuts scan h = rw (exactly w32 2 scan (lit< tt), ne_eqb scan 2 h)

-- the two clauses of number 23 as one test: at the type's own size
pub bin-by-size : (sizes t bin : ℕ) → bin_length_ok sizes t bin ≡ cond (bit sizes t) (is 2 (short bin)) (is 1 (short bin))
unfolding bin_length_clauses
bin-by-size sizes t bin = go (bit sizes t)
  where
    go : (b : Bool) → (cond b true (is 1 (short bin)) && cond b (is 2 (short bin)) true) ≡ cond b (is 2 (short bin)) (is 1 (short bin))
    go true = refl
    go false = sym (and-true (is 1 (short bin)))

-- numbers of the state rules, none of which reaches the sign bit
small-if : (b : Bool) (x y n : ℕ) → x < n → y < n → cond b x y < n
small-if true x y n h k = h
small-if false x y n h k = k

pub most_cuts-most : (scan : ℕ) → most_cuts scan < 257
unfolding most_cuts
most_cuts-most scan = small-if (is 2 (int scan)) 1 256 257 (lit< tt) (lit< tt)

pub most_cuts-some : (scan : ℕ) → 1 ≤ most_cuts scan
unfolding most_cuts
most_cuts-some scan = go (is 2 (int scan))
  where
    go : (b : Bool) → 1 ≤ cond b 1 256
    go true = lit< tt
    go false = lit< tt

pub most_cuts-small : (scan : ℕ) → most_cuts scan < 2147483648
most_cuts-small scan = let h = most_cuts-most scan in omega arith

pub opening-small : (scan cut : ℕ) → opening scan cut < 2147483648
unfolding opening
opening-small scan cut = small-if (rhi scan) 5 (cond (leb cut 1) 3 0) 2147483648 (lit< tt) (small-if (leb cut 1) 3 0 2147483648 (lit< tt) (lit< tt))

pub closing-small : (scan cuts cut : ℕ) → closing scan cuts cut < 2147483648
unfolding closing
closing-small scan cuts cut = small-if (rhi scan) 6 (cond (ltb cut cuts) 2 4) 2147483648 (lit< tt) (small-if (ltb cut cuts) 2 4 2147483648 (lit< tt) (lit< tt))

-- a first radial closes no cut
pub opens-only : (scan cuts cut : ℕ) → opening scan cut ≡ closing scan cuts cut → ⊥
unfolding opening closing
opens-only scan cuts cut = go (rhi scan) (leb cut 1) (ltb cut cuts)
  where
    go : (r a d : Bool) → ◌≡◌ {A = ℕ} (cond r 5 (cond a 3 0)) (cond r 6 (cond d 2 4)) → ⊥
    go true a d e = omega arith
    go false true true e = omega arith
    go false true false e = omega arith
    go false false true e = omega arith
    go false false false e = omega arith

-- what a range, an exact number and a right count say of the number
pub least : (w : Width) (lo hi x : ℕ) → hi < 2 ^ hbits w → among (pos lo) (pos hi) (to_z w x) ≡ true → lo ≤ x
unfolding within
least w lo hi x h e = leb-true lo x (both _ _ (sym (by_bits w lo hi x h) ∙ e)).0

pub most : (w : Width) (lo hi x : ℕ) → hi < 2 ^ hbits w → among (pos lo) (pos hi) (to_z w x) ≡ true → x ≤ hi
unfolding within
most w lo hi x h e = leb-true x hi (both (leb lo x) (leb x hi) (sym (by_bits w lo hi x h) ∙ e)).1

-- the two clauses of number 8 as one range
pub cut-by-scan : (scan n : ℕ) → cut_number_ok scan n ≡ among (pos 1) (pos (most_cuts scan)) (int n)
unfolding cut_number_clauses
cut-by-scan scan n = go (among (pos 1) (pos (most_cuts scan)) (int n)) refl
  where
    go : (b : Bool) → among (pos 1) (pos (most_cuts scan)) (int n) ≡ b → (among (pos 1) (pos 256) (int n) && b) ≡ b
    go true e =
        let small = most_cuts-small scan in
        let any = most_cuts-most scan in
        let h = most w32 1 (most_cuts scan) n small e in
        rw (← inside w32 1 256 n (lit< tt) (least w32 1 (most_cuts scan) n small e) (omega arith))
    go false e = and-false (among (pos 1) (pos 256) (int n))

pub exact-if : (n x : ℕ) → n < 2147483648 → x ≡ n → is n (int x) ≡ true
exact-if n x h e = exactly w32 n x h ∙ eq-eqb x n e

pub exact : (n x : ℕ) → is n (int x) ≡ true → x ≡ n
exact n x e =
    dite (dec_lt x 2147483648)
    (λ h. eqb-true x n (sym (exactly-clear w32 n x h) ∙ e))
    (λ h. let k = exactly-set w32 n x (omega arith) in absurd (let z : ◌≡◌ {A = ℕ} 0 1 = cc in omega arith))

pub counts-is : (most before n : ℕ) → counts most before n ≡ true → n ≡ before + 1
unfolding count_clauses
counts-is most before n e = exact (before + 1) n (both _ _ e).0

-- where the count is not past the most, only the number decides
pub counts-within : (most before n : ℕ) → before + 1 ≤ most → counts most before n ≡ is (before + 1) (int n)
unfolding count_clauses
counts-within most before n h = rw (le-leb (before + 1) most h) (sym (and-true (is (before + 1) (int n))))

pub counts-most : (most before n : ℕ) → counts most before n ≡ true → before + 1 ≤ most
unfolding count_clauses
counts-most most before n e = leb-true (before + 1) most (both (is (before + 1) (int n)) _ e).1

-- an accepted task has a cut (number 8), an accepted radial header announces a moment (number 19)
pub some-cut : (scan n : ℕ) → cut_number_ok scan n ≡ true → 1 ≤ n
some-cut scan n e = least w32 1 (most_cuts scan) n (most_cuts-small scan) (sym (cut-by-scan scan n) ∙ e)

pub some-moment : (left k : ℕ) → moment_number_ok left k ≡ true → 1 ≤ k
unfolding moment_number_clauses
some-moment left k e = least w32 1 64 k (lit< tt) (both _ _ e).0

-- The steps in the table's own words: number 20 (`type_ok`), 23 (`bin_length_ok`) and 24 (`length_ok`), over what a radial's data has left. Assumes nothing.
use mathlib.Core.Path.{◌≡◌, refl, sym, ap, ◌∙◌, subst}
use mathlib.Core.Bool.{Bool, true, false, not, ◌&&◌, cond}
use mathlib.Core.List.{[], ◌∷◌}
use mathlib.Core.Logic.{dite}
use Prim.Native.Nat.{ℕ, zero, suc, ◌+◌, ◌-◌, ◌*◌, ◌/◌, ◌%◌, ◌^◌, ◌≤◌, ◌<◌}
use native.Mathlib.Decide.{dec_lt}
use native.Mathlib.Nat.{div-eq_of_lt}
use native.Mathlib.Omega.{arith}
use lib.Arith.{bin_ind}
use lib.Count.{ones, ones_step, ones-le}
use lib.Dec.{eqb, leb, lit<}
use lib.IntN.{pos}
use lib.Pow.{pow_pos}
use mir.Syntax.{w16, w32}
use borrow.Author.Tests.{le-leb, lt-leb, leb-true, eqb-true, eq-eqb, not-true}
use Rattle.le.specs.Le.{int, short}
use Rattle.le.proofs.Tests.{both, fails}
use Rattle.rules.specs.Ranges.{among, within}
use Rattle.rules.specs.Masks.{bit, with_bit, type_ok, type_clauses, bin_length_ok}
use Rattle.rules.specs.Tiling.{tiles, length_ok, length_clauses}
use Rattle.rules.proofs.Numbers.{by_bits, in-range, exactly, bin-by-size}
use Rattle.coming.specs.Moments.{Comes, fills, moments_can, singles, doubles}
use Rattle.coming.proofs.Counts.{count-find, digit, ones-count}
use Rattle.coming.proofs.Filling.{fits-of}
use Rattle.coming.proofs.Choices.{fills-is, can-back, can-on, bit-range, at_place}

-- ---- a range that has no sign
range-of : (lo hi x : ℕ) → within lo hi x ≡ true → (lo ≤ x) × (x ≤ hi)
unfolding within
range-of lo hi x e = let b = both (leb lo x) _ e in (leb-true lo x b.0, leb-true x hi b.1)

-- the bytes a gate of the type takes
abbrev pub bin_of : ℕ → ℕ → ℕ
bin_of sizes t = cond (bit sizes t) 2 1

-- ---- a moment header that the table takes is a moment that may come
module _ (mask sizes seen t bin todo left n : ℕ)
    (ty : type_ok mask seen t ≡ true) (bl : bin_length_ok sizes t bin ≡ true) (ln : length_ok todo left bin n ≡ true) where
  size-range : (1 ≤ n) × (n ≤ 32768)
  unfolding length_clauses
  size-range =
      let a = both (among (pos 1) (pos 32768) (int n) && eqb (n % bin) 0) _ ln in
      let b = both (among (pos 1) (pos 32768) (int n)) _ a.0 in
      range-of 1 32768 n (sym (by_bits w32 1 32768 n (lit< tt)) ∙ b.0)

  tiling : tiles todo left n ≡ true
  unfolding length_clauses
  tiling = (both (among (pos 1) (pos 32768) (int n) && eqb (n % bin) 0) _ ln).1

  multiple : n % bin ≡ 0
  unfolding length_clauses
  multiple =
      let a = both (among (pos 1) (pos 32768) (int n) && eqb (n % bin) 0) _ ln in
      eqb-true (n % bin) 0 (both (among (pos 1) (pos 32768) (int n)) _ a.0).1

  bin-two : bit sizes t ≡ true → bin ≡ 2
  bin-two e =
      eqb-true bin 2 (sym (exactly w16 2 bin (lit< tt)) ∙ sym (ap (λ (b : Bool). cond b (among (pos 2) (pos 2) (short bin)) (among (pos 1) (pos 1) (short bin))) e) ∙ sym (bin-by-size sizes t bin) ∙ bl)

  pub comes : Comes mask sizes seen (record { kind = t; size = n })
  unfolding type_clauses
  comes =
      let a = both (among (pos 1) (pos 64) (int t) && not (bit seen t)) _ ty in
      let b = both (among (pos 1) (pos 64) (int t)) _ a.0 in
      record {
        has = a.1;
        new = not-true (bit seen t) b.1;
        least = size-range.0;
        most = size-range.1;
        even = λ e. let two = bin-two e in subst (λ (x : ℕ). n % x ≡ 0) two multiple;
      }

-- ---- the tiling rule, as numbers
tiles-last : (left n : ℕ) → tiles 1 left n ≡ true → 32 + n ≡ left
unfolding tiles
tiles-last left n e = eqb-true (32 + n) left e

tiles_more : (todo left n : ℕ) → tiles (suc (suc todo)) left n ≡ true → 32 + n + 33 * suc todo ≤ left
unfolding tiles
tiles_more todo left n e =
    let m : suc (suc todo) - 1 ≡ suc todo = omega arith in
    leb-true (32 + n + 33 * suc todo) left
    (subst (λ (x : ℕ). leb (32 + n + 33 * x) left ≡ true) m
    (sym (ap (λ (b : Bool). cond b (eqb (32 + n) left) (leb (32 + n + 33 * (suc (suc todo) - 1)) left)) (lt-leb (suc (suc todo)) 1 (omega arith))) ∙ e))

room : (todo left n : ℕ) → tiles (suc todo) left n ≡ true → 32 + n ≤ left
room zero left n e = let k = tiles-last left n e in omega arith
room (suc todo) left n e = let k = tiles_more todo left n e in omega arith

tiled : (todo left n : ℕ) → (todo ≡ 0 → 32 + n ≡ left) → 32 + n + 33 * todo ≤ left → tiles (suc todo) left n ≡ true
unfolding tiles
tiled zero left n a b = eq-eqb (32 + n) left (a refl)
tiled (suc todo) left n a b =
    let m : suc (suc todo) - 1 ≡ suc todo = omega arith in
    rw (lt-leb (suc (suc todo)) 1 (omega arith), m) (le-leb (32 + n + 33 * suc todo) left b)

-- ---- backwards along a moment header: its header and data come off what is left, and what can come behind it can come with it
pub step_back : (mask sizes seen t bin todo left n : ℕ) → mask < 2 ^ 64
    → type_ok mask seen t ≡ true → bin_length_ok sizes t bin ≡ true → length_ok (suc todo) left bin n ≡ true
    → moments_can mask sizes (with_bit seen t) todo (left - (32 + n)) ≡ true → moments_can mask sizes seen (suc todo) left ≡ true
step_back mask sizes seen t bin todo left n small ty bl ln h =
    let c = comes mask sizes seen t bin (suc todo) left n ty bl ln in
    let w = room todo left n (tiling mask sizes seen t bin (suc todo) left n ty bl ln) in
    let e : 32 + n + (left - (32 + n)) ≡ left = omega arith in
    subst (λ (l : ℕ). moments_can mask sizes seen (suc todo) l ≡ true) e (can-back mask sizes seen small todo (left - (32 + n)) (record { kind = t; size = n }) c h)

-- ---- onwards: where the moments can come and one is due, there is a type and a length that its rules take and behind which the others can
pub record Taken (mask sizes seen todo left : ℕ) : Type 0 where
  pub kind : ℕ
  pub size : ℕ
  pub kind-most : kind ≤ 64
  pub size-most : size ≤ 32768
  pub is-type : type_ok mask seen kind ≡ true
  pub is-bin : bin_length_ok sizes kind (bin_of sizes kind) ≡ true
  pub is-length : length_ok (suc todo) left (bin_of sizes kind) size ≡ true
  pub still : moments_can mask sizes (with_bit seen kind) todo (left - (32 + size)) ≡ true

bin-ok : (sizes t : ℕ) → bin_length_ok sizes t (bin_of sizes t) ≡ true
bin-ok sizes t = bin-by-size sizes t (bin_of sizes t) ∙ go (bit sizes t)
  where
    go : (b : Bool) → cond b (among (pos 2) (pos 2) (short (cond b 2 1))) (among (pos 1) (pos 1) (short (cond b 2 1))) ≡ true
    go true = exactly w16 2 2 (lit< tt)
    go false = exactly w16 1 1 (lit< tt)

bin-divides : (sizes t n : ℕ) → (bit sizes t ≡ true → n % 2 ≡ 0) → n % bin_of sizes t ≡ 0
bin-divides sizes t n = go (bit sizes t)
  where
    go : (b : Bool) → (b ≡ true → n % 2 ≡ 0) → n % cond b 2 1 ≡ 0
    go true e = e refl
    go false e = omega arith

least-left : (mask sizes seen todo left : ℕ) → moments_can mask sizes seen todo left ≡ true → (todo ≡ 0 → left ≡ 0) × (33 * todo ≤ left)
unfolding moments_can fills
least-left mask sizes seen todo left e =
    let a = both (leb (32 * todo) left) _ e in
    let l = leb-true (32 * todo) left a.0 in
    let f = fits-of (singles mask sizes seen) (doubles mask sizes seen) todo (left - 32 * todo) a.1 in
    (λ z. let m = f.most in omega arith, let m = f.least in omega arith)

pub step-on : (mask sizes seen todo left : ℕ) → mask < 2 ^ 64 → moments_can mask sizes seen (suc todo) left ≡ true → Taken mask sizes seen todo left
unfolding type_clauses length_clauses
step-on mask sizes seen todo left small h =
    let o = can-on mask sizes seen small todo left h in
    let p = o.piece in
    let c = o.comes in
    let g = bit-range mask p.kind c.has in
    let w = o.within in
    let l = least-left mask sizes (with_bit seen p.kind) todo (left - (32 + p.size)) o.still in
    record {
      kind = p.kind;
      size = p.size;
      kind-most = g.1;
      size-most = c.most;
      is-type = rw (by_bits w32 1 64 p.kind (lit< tt), in-range 1 64 p.kind g.0 (omega (arith, g.1)), c.new, c.has);
      is-bin = bin-ok sizes p.kind;
      is-length =
          rw (
            by_bits w32 1 32768 p.size (lit< tt),
            in-range 1 32768 p.size c.least (omega (arith, c.most)),
            eq-eqb (p.size % bin_of sizes p.kind) 0 (bin-divides sizes p.kind p.size c.even),
            tiled todo left p.size (λ z. let k = l.0 z in omega arith) (let k = l.1 in omega arith),
          );
      still = o.still;
    }

-- ---- a cut's mask: with no bit no moment can come, with one a radial of one moment of two bytes
pub no-bit : (sizes seen todo left : ℕ) → moments_can 0 sizes seen (suc todo) left ≡ false
unfolding moments_can fills singles doubles
no-bit sizes seen todo left =
    fails (leb (32 * suc todo) left && fills 0 sizes seen (suc todo) (left - 32 * suc todo))
    (λ e. let f = fits-of (ones 0) (ones 0) (suc todo) (left - 32 * suc todo) (both (leb (32 * suc todo) left) _ e).1 in
    let z = ones-le 0 0 (lit< tt) in omega (arith, f.few))

ones_pos : (n : ℕ) → 0 < n → 0 < ones n
ones_pos =
    bin_ind (λ (n : ℕ). 0 < n → 0 < ones n) (λ h. absurd (omega arith))
    (λ n ih h. let e = ones_step n in dite (dec_lt 0 (n / 2)) (λ k. let l = ih k in omega arith) (λ k. omega arith))

no_digit : (i : ℕ) → digit 0 i ≡ false
unfolding digit
no_digit i = rw (div-eq_of_lt (pow_pos i))

pub some-bit : (mask sizes : ℕ) → 0 < mask → mask < 2 ^ 64 → moments_can mask sizes 0 1 34 ≡ true
unfolding moments_can
some-bit mask sizes p small =
    let w = count-find (digit mask) 64 (rw (ones-count 64 mask small) at (ones_pos mask p)) in
    let i = w.0 in
    (fills-is mask sizes small 0 1 2).1
    (record {
      moments = record { kind = suc i; size = 2 } ∷ [];
      count = refl;
      each = (record { has = at_place mask i w.1 ∙ w.2; new = at_place 0 i w.1 ∙ no_digit i; least = omega arith; most = omega arith; even = λ z. refl }, tt);
      distinct = (tt, tt);
      fills = refl;
    })

-- the last moment's length leaves nothing
pub last-length : (left bin n : ℕ) → length_ok 1 left bin n ≡ true → left - (32 + n) ≡ 0
unfolding length_clauses
last-length left bin n e =
    let k = tiles-last left n (both (among (pos 1) (pos 32768) (int n) && eqb (n % bin) 0) _ e).1 in
    omega arith

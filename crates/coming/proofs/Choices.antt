-- The test answers yes exactly where a choice exists, and the two steps that a walk needs. Assumes nothing.
use mathlib.Core.Path.{◌≡◌, refl, sym, ap, ◌∙◌, subst}
use mathlib.Core.Bool.{Bool, true, false, not, ◌&&◌, ◌||◌, and-false, or-false, or-true}
use mathlib.Core.List.{List, [], ◌∷◌}
use mathlib.Core.Logic.{dite, ◌↔◌}
use Prim.Native.Nat.{ℕ, zero, suc, ◌+◌, ◌-◌, ◌*◌, ◌^◌, ◌≤◌, ◌<◌}
use native.Mathlib.Decide.{dec_lt, ℕ_discrete}
use native.Mathlib.Nat.{le_trans, lt_of_le_of_lt}
use native.Mathlib.Omega.{arith}
use lib.Bits.{bit_and, and_le_l}
use lib.Dec.{leb}
use lib.ListN.{length}
use borrow.Author.Tests.{le-leb, leb-true, not-true}
use Rattle.le.proofs.Tests.{both}
use Rattle.rules.specs.Ranges.{within}
use Rattle.rules.specs.Masks.{bit, with_bit}
use Rattle.coming.specs.Moments.{Piece, Comes, Each, Without, Distinct, total, Choice, lacks, singles, doubles, fills, moments_can}
use Rattle.coming.proofs.Counts.{count, count_same, count_less, count-find, digit, ones-count, digit_and, digit_or, digit-lacks, digit-same, digit-other}
use Rattle.coming.proofs.Filling.{Fits, fits-of, of-fits, back-single, back-double, on-single, on-double}

-- ---- a type is a place
range : (t : ℕ) → 1 ≤ t → t ≤ 64 → within 1 64 t ≡ true
unfolding within
range t a b = rw (le-leb 1 t a, le-leb t 64 b)

bit_is : (x t : ℕ) → 1 ≤ t → t ≤ 64 → bit x t ≡ digit x (t - 1)
unfolding bit digit
bit_is x t a b = rw (range t a b)

pub bit-range : (x t : ℕ) → bit x t ≡ true → (1 ≤ t) × (t ≤ 64)
unfolding bit within
bit-range x t e =
    let a = both (within 1 64 t) _ e in
    let b = both (leb 1 t) _ a.0 in
    (leb-true 1 t b.0, leb-true t 64 b.1)

-- a mask with a type's bit set
module _ (t : ℕ) (a : 1 ≤ t) (b : t ≤ 64) where
  digit-with : (seen j : ℕ) → digit (with_bit seen t) j ≡ (digit seen j || digit (2 ^ (t - 1)) j)
  unfolding with_bit
  digit-with seen j = rw (range t a b) (digit_or seen (2 ^ (t - 1)) j)

  with-same : (seen : ℕ) → digit (with_bit seen t) (t - 1) ≡ true
  with-same seen = digit-with seen (t - 1) ∙ rw (digit-same (t - 1)) (or-true (digit seen (t - 1)))

  with-other : (seen j : ℕ) → (j ≡ t - 1 → ⊥) → digit (with_bit seen t) j ≡ digit seen j
  with-other seen j h = digit-with seen j ∙ rw (digit-other (t - 1) j h) (or-false (digit seen j))

  bit-with-same : (seen : ℕ) → bit (with_bit seen t) t ≡ true
  bit-with-same seen = bit_is (with_bit seen t) t a b ∙ with-same seen

  bit-with-other : (seen u : ℕ) → (u ≡ t → ⊥) → bit (with_bit seen t) u ≡ bit seen u
  unfolding bit digit within
  bit-with-other seen u h =
      dite (dec_lt 0 u)
      (λ p. ap (λ (x : Bool). (leb 1 u && leb u 64) && x) (with-other seen (u - 1) (λ e. h (omega arith))))
      (λ p. let z : u ≡ 0 = omega arith in rw z)

-- ---- the counts, by places
free : ℕ → ℕ → ℕ → Bool
free mask seen j = digit mask j && not (digit seen j)

module _ (mask sizes seen : ℕ) (small : mask < 2 ^ 64) where
  singles-count : singles mask sizes seen ≡ count (λ j. free mask seen j && not (digit sizes j)) 64
  unfolding singles free
  singles-count =
      ones-count 64 (lacks (lacks mask seen) sizes) (lt_of_le_of_lt (le_trans (and_le_l (lacks mask seen) _) (and_le_l mask _)) small)
      ∙ count_same _ _ 64 (λ j. digit-lacks (lacks mask seen) sizes j ∙ ap (λ (x : Bool). x && not (digit sizes j)) (digit-lacks mask seen j))

  doubles-count : doubles mask sizes seen ≡ count (λ j. free mask seen j && digit sizes j) 64
  unfolding doubles free
  doubles-count =
      ones-count 64 (bit_and (lacks mask seen) sizes) (lt_of_le_of_lt (le_trans (and_le_l (lacks mask seen) _) (and_le_l mask _)) small)
      ∙ count_same _ _ 64 (λ j. digit_and (lacks mask seen) sizes j ∙ ap (λ (x : Bool). x && digit sizes j) (digit-lacks mask seen j))

-- ---- one type more is seen
module _ (mask seen t : ℕ) (m : bit mask t ≡ true) (s : bit seen t ≡ false) where
  lo : 1 ≤ t
  lo = (bit-range mask t m).0

  hi : t ≤ 64
  hi = (bit-range mask t m).1

  free-here : free mask seen (t - 1) ≡ true
  unfolding free
  free-here = rw (sym (bit_is mask t lo hi) ∙ m, sym (bit_is seen t lo hi) ∙ s)

  gone-here : free mask (with_bit seen t) (t - 1) ≡ false
  unfolding free
  gone-here = rw (with-same t lo hi seen) (and-false (digit mask (t - 1)))

  same-there : (j : ℕ) → (j ≡ t - 1 → ⊥) → free mask (with_bit seen t) j ≡ free mask seen j
  unfolding free
  same-there j h = rw (with-other t lo hi seen j h)

  -- counted with a further test h of the place
  spent : (h : ℕ → Bool) → h (t - 1) ≡ true → count (λ j. free mask seen j && h j) 64 ≡ suc (count (λ j. free mask (with_bit seen t) j && h j) 64)
  spent h y =
      count_less (λ j. free mask seen j && h j) (λ j. free mask (with_bit seen t) j && h j) 64 (t - 1) (let a = lo in let b = hi in omega arith)
      (rw (free-here, y)) (rw (gone-here)) (λ j k. ap (λ (x : Bool). x && h j) (same-there j k))

  kept : (h : ℕ → Bool) → h (t - 1) ≡ false → count (λ j. free mask seen j && h j) 64 ≡ count (λ j. free mask (with_bit seen t) j && h j) 64
  kept h n =
      count_same _ _ 64 (λ j. dite (ℕ_discrete j (t - 1))
      (λ e. subst (λ (i : ℕ). (free mask seen i && h i) ≡ (free mask (with_bit seen t) i && h i)) (sym e) (rw n (and-false (free mask seen (t - 1)) ∙ sym (and-false (free mask (with_bit seen t) (t - 1))))))
      (λ k. ap (λ (x : Bool). x && h j) (sym (same-there j k))))

-- ---- the counts before and after a type is spent
module _ (mask sizes seen t : ℕ) (small : mask < 2 ^ 64) (m : bit mask t ≡ true) (s : bit seen t ≡ false) where
  size-here : (b : Bool) → bit sizes t ≡ b → digit sizes (t - 1) ≡ b
  size-here b e = sym (bit_is sizes t (lo mask seen t m s) (hi mask seen t m s)) ∙ e

  single-spent : bit sizes t ≡ false → singles mask sizes seen ≡ suc (singles mask sizes (with_bit seen t))
  single-spent e =
      singles-count mask sizes seen small ∙ spent mask seen t m s (λ j. not (digit sizes j)) (ap not (size-here false e))
      ∙ ap suc (sym (singles-count mask sizes (with_bit seen t) small))

  single-kept : bit sizes t ≡ true → singles mask sizes seen ≡ singles mask sizes (with_bit seen t)
  single-kept e =
      singles-count mask sizes seen small ∙ kept mask seen t m s (λ j. not (digit sizes j)) (ap not (size-here true e))
      ∙ sym (singles-count mask sizes (with_bit seen t) small)

  double-spent : bit sizes t ≡ true → doubles mask sizes seen ≡ suc (doubles mask sizes (with_bit seen t))
  double-spent e =
      doubles-count mask sizes seen small ∙ spent mask seen t m s (λ j. digit sizes j) (size-here true e)
      ∙ ap suc (sym (doubles-count mask sizes (with_bit seen t) small))

  double-kept : bit sizes t ≡ false → doubles mask sizes seen ≡ doubles mask sizes (with_bit seen t)
  double-kept e =
      doubles-count mask sizes seen small ∙ kept mask seen t m s (λ j. digit sizes j) (size-here false e)
      ∙ sym (doubles-count mask sizes (with_bit seen t) small)

-- ---- a type to take, where there is one
abbrev Free : ℕ → ℕ → ℕ → Bool → Type 0
Free mask sizes seen b = (t : ℕ) × (bit mask t ≡ true) × (bit seen t ≡ false) × (bit sizes t ≡ b)

pub at_place : (x i : ℕ) → i < 64 → bit x (suc i) ≡ digit x i
at_place x i h = bit_is x (suc i) (omega arith) (omega arith) ∙ ap (digit x) (omega arith)

module _ (mask sizes seen : ℕ) (small : mask < 2 ^ 64) where
  found : (b : Bool) (h : ℕ → Bool) → ((i : ℕ) → h i ≡ true → digit sizes i ≡ b) → 0 < count (λ j. free mask seen j && h j) 64 → Free mask sizes seen b
  unfolding free
  found b h f p =
      let w = count-find (λ j. free mask seen j && h j) 64 p in
      let i = w.0 in
      let x = both (free mask seen i) (h i) w.2 in
      let y = both (digit mask i) (not (digit seen i)) x.0 in
      (suc i, at_place mask i w.1 ∙ y.0, at_place seen i w.1 ∙ not-true (digit seen i) y.1, at_place sizes i w.1 ∙ f i x.1)

  find-single : 0 < singles mask sizes seen → Free mask sizes seen false
  find-single p = found false (λ j. not (digit sizes j)) (λ i e. not-true (digit sizes i) e) (rw (singles-count mask sizes seen small) at p)

  find-double : 0 < doubles mask sizes seen → Free mask sizes seen true
  find-double p = found true (λ j. digit sizes j) (λ i e. e) (rw (doubles-count mask sizes seen small) at p)

-- ---- the two steps
-- backwards: whatever moment comes, what can be filled behind it can be filled with it
pub back : (mask sizes seen k r : ℕ) (p : Piece) → mask < 2 ^ 64 → Comes mask sizes seen p
    → Fits (singles mask sizes (with_bit seen p.kind)) (doubles mask sizes (with_bit seen p.kind)) k r
    → Fits (singles mask sizes seen) (doubles mask sizes seen) (suc k) (p.size + r)
back mask sizes seen k r p small c f = go (bit sizes p.kind) refl
  where
    go : (b : Bool) → bit sizes p.kind ≡ b → Fits (singles mask sizes seen) (doubles mask sizes seen) (suc k) (p.size + r)
    go true e =
        rw (single-kept mask sizes seen p.kind small c.has c.new e, double-spent mask sizes seen p.kind small c.has c.new e)
        (back-double _ _ k r p.size c.least c.most (c.even e) f)
    go false e =
        rw (single-spent mask sizes seen p.kind small c.has c.new e, double-kept mask sizes seen p.kind small c.has c.new e)
        (back-single _ _ k r p.size c.least c.most f)

-- onwards: where the rest can be filled and a moment is due, there is one behind which it still can
pub record Next (mask sizes seen k r : ℕ) : Type 0 where
  pub piece : Piece
  pub comes : Comes mask sizes seen piece
  pub within : piece.size ≤ r
  pub rest : Fits (singles mask sizes (with_bit seen piece.kind)) (doubles mask sizes (with_bit seen piece.kind)) k (r - piece.size)

pub onward : (mask sizes seen k r : ℕ) → mask < 2 ^ 64 → Fits (singles mask sizes seen) (doubles mask sizes seen) (suc k) r → Next mask sizes seen k r
onward mask sizes seen k r small f =
    dite (dec_lt k (singles mask sizes seen))
    (λ h. single (find-single mask sizes seen small (omega arith)) h)
    (λ h. double (find-double mask sizes seen small (omega (arith, f.few))) (omega arith))
  where
    single : Free mask sizes seen false → k < singles mask sizes seen → Next mask sizes seen k r
    single w h =
        let t = w.0 in
        let e = single-spent mask sizes seen t small w.1 w.2 w.3 in
        let d = double-kept mask sizes seen t small w.1 w.2 w.3 in
        let l = on-single (singles mask sizes (with_bit seen t)) (doubles mask sizes (with_bit seen t)) k r (omega arith) (rw (e, d) at f) in
        record {
          piece = record { kind = t; size = l.size };
          comes = record { has = w.1; new = w.2; least = l.least; most = l.most; even = λ z. let x : true ≡ false = sym z ∙ w.3 in absurd (let y : ◌≡◌ {A = ℕ} 0 1 = cc in omega arith) };
          within = l.within;
          rest = l.rest;
        }

    double : Free mask sizes seen true → singles mask sizes seen ≤ k → Next mask sizes seen k r
    double w h =
        let t = w.0 in
        let e = single-kept mask sizes seen t small w.1 w.2 w.3 in
        let d = double-spent mask sizes seen t small w.1 w.2 w.3 in
        let l = on-double (singles mask sizes (with_bit seen t)) (doubles mask sizes (with_bit seen t)) k r (omega arith) (rw (e, d) at f) in
        record {
          piece = record { kind = t; size = l.length.size };
          comes = record { has = w.1; new = w.2; least = l.length.least; most = l.length.most; even = λ z. l.even };
          within = l.length.within;
          rest = l.length.rest;
        }

-- ---- from steps to lists
module _ (mask sizes seen t : ℕ) (a : 1 ≤ t) (b : t ≤ 64) where
  each_on : (l : List Piece) → Each (Comes mask sizes seen) l → Without t l → Each (Comes mask sizes (with_bit seen t)) l
  each_on [] e w = tt
  each_on (p ∷ l) e w = (
    record { has = e.0.has; new = bit-with-other t a b seen p.kind w.0 ∙ e.0.new; least = e.0.least; most = e.0.most; even = e.0.even },
    each_on l e.1 w.1,
  )

  not-it : (u : ℕ) → bit (with_bit seen t) u ≡ false → u ≡ t → ⊥
  not-it u e z =
      let x : true ≡ false = sym (bit-with-same t a b seen) ∙ ap (bit (with_bit seen t)) (sym z) ∙ e in
      let y : ◌≡◌ {A = ℕ} 0 1 = cc in omega arith

  each-off : (l : List Piece) → Each (Comes mask sizes (with_bit seen t)) l → Each (Comes mask sizes seen) l
  each-off [] e = tt
  each-off (p ∷ l) e = (
    record { has = e.0.has; new = sym (bit-with-other t a b seen p.kind (not-it p.kind e.0.new)) ∙ e.0.new; least = e.0.least; most = e.0.most; even = e.0.even },
    each-off l e.1,
  )

  without : (l : List Piece) → Each (Comes mask sizes (with_bit seen t)) l → Without t l
  without [] e = tt
  without (p ∷ l) e = (not-it p.kind e.0.new, without l e.1)

module _ (mask sizes : ℕ) (small : mask < 2 ^ 64) where
  sound : (l : List Piece) (seen : ℕ) → Each (Comes mask sizes seen) l → Distinct l → Fits (singles mask sizes seen) (doubles mask sizes seen) (length l) (total l)
  sound [] seen e d = record { few = omega arith; most = omega arith; least = omega arith; even = λ z. refl }
  sound (p ∷ l) seen e d =
      let g = bit-range mask p.kind e.0.has in
      back mask sizes seen (length l) (total l) p small e.0
      (sound l (with_bit seen p.kind) (each_on mask sizes seen p.kind g.0 g.1 l e.1 d.0) d.1)

  complete : (k seen r : ℕ) → Fits (singles mask sizes seen) (doubles mask sizes seen) k r → Choice mask sizes seen k r
  complete zero seen r f = record { moments = []; count = refl; each = tt; distinct = tt; fills = omega (arith, f.most) }
  complete (suc k) seen r f =
      let n = onward mask sizes seen k r small f in
      let t = n.piece.kind in
      let g = bit-range mask t n.comes.has in
      let c = complete k (with_bit seen t) (r - n.piece.size) n.rest in
      record {
        moments = n.piece ∷ c.moments;
        count = ap suc c.count;
        each = (n.comes, each-off mask sizes seen t g.0 g.1 c.moments c.each);
        distinct = (without mask sizes seen t g.0 g.1 c.moments c.each, c.distinct);
        fills = omega (arith, c.fills, n.within);
      }

  -- the theorem: the test answers yes exactly where a choice exists
  pub fills-is : (seen todo rest : ℕ) → (fills mask sizes seen todo rest ≡ true) ↔ Choice mask sizes seen todo rest
  unfolding fills
  fills-is seen todo rest = (
    λ e. complete todo seen rest (fits-of (singles mask sizes seen) (doubles mask sizes seen) todo rest e),
    λ c. of-fits (singles mask sizes seen) (doubles mask sizes seen) todo rest
        (subst (λ (n : ℕ). Fits (singles mask sizes seen) (doubles mask sizes seen) n rest) c.count
        (subst (λ (n : ℕ). Fits (singles mask sizes seen) (doubles mask sizes seen) (length c.moments) n) c.fills (sound c.moments seen c.each c.distinct))),
  )

-- ---- the two steps of a walk, on the test itself and over what is left of a radial's data
module _ (mask sizes seen : ℕ) (small : mask < 2 ^ 64) where
  -- backwards
  pub fills-back : (todo rest : ℕ) (p : Piece) → Comes mask sizes seen p → fills mask sizes (with_bit seen p.kind) todo rest ≡ true
      → fills mask sizes seen (suc todo) (p.size + rest) ≡ true
  unfolding fills
  fills-back todo rest p c e = of-fits _ _ _ _ (back mask sizes seen todo rest p small c (fits-of _ _ _ _ e))

  pub can-back : (todo left : ℕ) (p : Piece) → Comes mask sizes seen p → moments_can mask sizes (with_bit seen p.kind) todo left ≡ true
      → moments_can mask sizes seen (suc todo) (32 + p.size + left) ≡ true
  unfolding moments_can
  can-back todo left p c e =
      let a = both (leb (32 * todo) left) _ e in
      let l = leb-true (32 * todo) left a.0 in
      let n : 32 + p.size + left - 32 * suc todo ≡ p.size + (left - 32 * todo) = omega arith in
      rw (le-leb (32 * suc todo) (32 + p.size + left) (omega arith), n) (fills-back todo (left - 32 * todo) p c a.1)

  -- onwards
  pub record Onward (todo rest : ℕ) : Type 0 where
    pub piece : Piece
    pub comes : Comes mask sizes seen piece
    pub within : piece.size ≤ rest
    pub still : fills mask sizes (with_bit seen piece.kind) todo (rest - piece.size) ≡ true

  pub fills-on : (todo rest : ℕ) → fills mask sizes seen (suc todo) rest ≡ true → Onward todo rest
  unfolding fills
  fills-on todo rest e =
      let n = onward mask sizes seen todo rest small (fits-of _ _ _ _ e) in
      record { piece = n.piece; comes = n.comes; within = n.within; still = of-fits _ _ _ _ n.rest }

  pub record OnwardLeft (todo left : ℕ) : Type 0 where
    pub piece : Piece
    pub comes : Comes mask sizes seen piece
    pub within : 32 + piece.size ≤ left
    pub still : moments_can mask sizes (with_bit seen piece.kind) todo (left - (32 + piece.size)) ≡ true

  pub can-on : (todo left : ℕ) → moments_can mask sizes seen (suc todo) left ≡ true → OnwardLeft todo left
  unfolding moments_can
  can-on todo left e =
      let a = both (leb (32 * suc todo) left) _ e in
      let l = leb-true (32 * suc todo) left a.0 in
      let n = fills-on todo (left - 32 * suc todo) a.1 in
      let w = n.within in
      let m : left - (32 + n.piece.size) - 32 * todo ≡ left - 32 * suc todo - n.piece.size = omega arith in
      record {
        piece = n.piece;
        comes = n.comes;
        within = omega arith;
        still = rw (le-leb (32 * todo) (left - (32 + n.piece.size)) (omega arith), m) n.still;
      }

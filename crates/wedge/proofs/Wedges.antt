-- A wedge by the whole hundredths of a value; and that an azimuth lies in every full circle, and in one of a wedge and the wedge
-- back. Assumes nothing.
use mathlib.Core.Path.{◌≡◌, refl, sym, ◌∙◌}
use mathlib.Core.Bool.{Bool, true, false, not, ◌&&◌, ◌||◌}
use mathlib.Core.Logic.{dite}
use Prim.Native.Nat.{ℕ, ◌*◌, ◌^◌, ◌≤◌, ◌<◌}
use native.Mathlib.Decide.{dec_lt}
use native.Mathlib.Omega.{arith}
use lib.Dec.{leb, ltb}
use lib.IntN.{pos}
use lib.Ieee.{Float, fin, binary32, of_bits, of_int, le, lt, eq}
use lib.Ieee.Exact.{HasValue}
use borrow.Author.Tests.{lt-ltb, le-ltb, le-leb, lt-leb}
use Rattle.rules.specs.Ranges as ranges
use Rattle.rules.specs.Ranges.{angle, is_azimuth}
use Rattle.rules.proofs.Four.{azimuth}
use Rattle.wedge.specs.declared.Wedge.{Wedge}
use Rattle.wedge.specs.Wedge.{reaches, Whole, turned, between, in_wedge}
use Rattle.wedge.proofs.Exact.{by_fraction}

not-leb : (a b : ℕ) → not (leb a b) ≡ ltb b a
not-leb a b = dite (dec_lt b a) (λ h. rw (lt-leb a b h, lt-ltb b a h)) (λ h. rw (le-leb a b (omega arith), le-ltb b a (omega arith)))

-- by the whole part
pub upwards : (start end h : ℕ) (x : Float) → Whole x h → start < end → between start end x ≡ (leb start h && ltb h end)
unfolding between
upwards start end h x w l = rw (lt-ltb start end l, w start, w end, not-leb end h)

pub through : (start end h : ℕ) (x : Float) → Whole x h → end ≤ start → between start end x ≡ (leb start h || ltb h end)
unfolding between
through start end h x w l = rw (le-ltb start end l, w start, w end, not-leb end h)

-- equal ends are the full circle
pub all-round : (w : Wedge) (bits : ℕ) → w.start ≡ w.end → is_azimuth bits ≡ true → in_wedge w bits ≡ true
unfolding in_wedge between
all-round w bits e is = rw (is, le-ltb w.start w.end (omega arith), e) (go (reaches w.end (turned (of_bits binary32 bits))))
  where
    go : (p : Bool) → (p || not p) ≡ true
    go true = refl
    go false = refl

-- of two different angles, an azimuth lies in exactly one of the two wedges
pub one_of : (a b bits : ℕ) → (a ≡ b → ⊥) → is_azimuth bits ≡ true
    → in_wedge (record { start = a; end = b }) bits ≡ not (in_wedge (record { start = b; end = a }) bits)
unfolding in_wedge between
one_of a b bits d is =
    let p = reaches a (turned (of_bits binary32 bits)) in
    let q = reaches b (turned (of_bits binary32 bits)) in
    dite (dec_lt a b)
    (λ h. rw (is, lt-ltb a b h, le-ltb b a (omega arith)) (there p q))
    (λ h. let l : b < a = omega arith in rw (is, le-ltb a b (omega arith), lt-ltb b a l) (back p q))
  where
    there : (p q : Bool) → (p && not q) ≡ not (q || not p)
    there true true = refl
    there true false = refl
    there false true = refl
    there false false = refl

    back : (p q : Bool) → (p || not q) ≡ not (q && not p)
    back true true = refl
    back true false = refl
    back false true = refl
    back false false = refl

-- ---- an azimuth by any fraction a / c that is its value

at_zero : (w : Wedge) → in_wedge w 0 ≡ between w.start w.end (fin false 0 (pos 0))
unfolding in_wedge turned reaches angle ranges.between le lt eq of_bits of_int
at_zero w = refl

module _ (w : Wedge) (bits a c : ℕ) (s : Bool) (fits : bits < 2 ^ 32) (is : is_azimuth bits ≡ true) (C : 0 < c) (v : HasValue (of_bits binary32 bits) s a c) where
  reached : (n : ℕ) → reaches n (of_bits binary32 bits) ≡ leb (n * c) (100 * a)
  reached = by_fraction bits a c s (sym (azimuth bits fits) ∙ is) C v

  not-turned : a < 360 * c → turned (of_bits binary32 bits) ≡ of_bits binary32 bits
  unfolding turned
  not-turned h = rw (reached 36000, lt-leb (36000 * c) (100 * a) (omega arith))

  pub lies-upwards : w.start < w.end → a < 360 * c → in_wedge w bits ≡ (leb (w.start * c) (100 * a) && ltb (100 * a) (w.end * c))
  unfolding in_wedge between
  lies-upwards l h = rw (is, not-turned h, lt-ltb w.start w.end l, reached w.start, reached w.end, not-leb (w.end * c) (100 * a))

  pub lies-through : w.end ≤ w.start → a < 360 * c → in_wedge w bits ≡ (leb (w.start * c) (100 * a) || ltb (100 * a) (w.end * c))
  unfolding in_wedge between
  lies-through l h = rw (is, not-turned h, le-ltb w.start w.end l, reached w.start, reached w.end, not-leb (w.end * c) (100 * a))

  -- 360 is turned, and 0 is what it was
  pub lies-full : 360 * c ≤ a → in_wedge w bits ≡ in_wedge w 0
  unfolding in_wedge turned
  lies-full h = rw (is, reached 36000, le-leb (36000 * c) (100 * a) (omega arith), at_zero w)

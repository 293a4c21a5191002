-- Every moment that a question finds is one that the walk accepted. Assumes nothing.
use Prim.Native.Nat.{ℕ, zero, suc, ◌+◌, ◌-◌, ◌<◌, ◌≤◌}
use native.Mathlib.Nat.{mod-eq_of_lt}
use native.Mathlib.Omega.{arith}
use mathlib.Core.Bool.{Bool, true, false, cond}
use mathlib.Core.List.{List}
use mathlib.Core.Logic.{◌⊎◌, inl, inr}
use mathlib.Core.Path.{◌≡◌, refl, sym, ap, subst, ◌∙◌}
use borrow.Author.Tests.{leb-true, le-leb, eqb-true}
use lib.Dec.{leb, eqb, lit<}
use lib.IntN.{pos}
use lib.ListN.{length, drop, length-take, length-drop}
use mir.Syntax.{w16, w32}
use Rattle.le.specs.Le.{part, int}
use Rattle.le.proofs.Laws.{part-take, part-drop}
use Rattle.le.proofs.Tests.{both}
use Rattle.rules.specs.Masks.{bit}
use Rattle.rules.specs.Ranges.{among, within}
use Rattle.rules.proofs.Numbers.{by_bits, exactly, bin-by-size}
use Rattle.std.specs.Prelude.{Ok, Option, Some, None}
use Rattle.moment.specs.declared.Moment.{Moment}
use Rattle.moment.specs.declared.MomentDue.{MomentDue}
use Rattle.radial.specs.declared.Radial.{Radial}
use Rattle.moment.specs.Moment.{moment_of, moment_at, moment_check, moment_rules}
use Rattle.radial.specs.Radial.{radial_of, radial_at}
use Rattle.rules.proofs.Judged.{all_hold}
use Rattle.gates.specs.Codes.{gates_in}
use Rattle.gates.proofs.Codes.{codes-gates}
use Rattle.gates.proofs.Exact.{lossless}
use Rattle.moments.specs.Moments.{after, moments_from, moments_of, find_in, data_at}
use Rattle.reading.specs.declared.Stretch.{Stretch}
use Rattle.reading.specs.Reading.{stretches, nth, bytes_of}
use Rattle.reading.specs.Tiling.{due_with, Tiled, none, more, WholeRadial, AllWhole}
use Rattle.reading.proofs.Radials.{all_whole}
use Rattle.ask.specs.declared.places.Where.TheVariants.{At}
use Rattle.ask.specs.Answers.{coding_of}
use Rattle.ask.specs.Places.{in_stretch, moment_in, in_found, where_is}
use Rattle.ask.specs.Sound.{Sound}
use Rattle.ask.proofs.Growing.{Placed, nth_of, nth-placed}

-- ---- what an accepted header holds

bounds : (lo hi x : ℕ) → hi < 2147483648 → among (pos lo) (pos hi) (int x) ≡ true → (lo ≤ x) × (x ≤ hi)
unfolding within
bounds lo hi x h e =
    let a = both (leb lo x) (leb x hi) (sym (by_bits w32 lo hi x h) ∙ e) in
    (leb-true lo x a.0, leb-true x hi a.1)

bin-is : (b : Bool) (x : ℕ) → cond b (eqb x 2) (eqb x 1) ≡ true → (x ≡ 1) ⊎ (x ≡ 2)
bin-is true x e = inr (eqb-true x 2 e)
bin-is false x e = inl (eqb-true x 1 e)

header-sound : (b : List ℕ) (p : ℕ) (d : MomentDue) → moment_check (moment_at b p) d ≡ (Ok tt) → p + 32 + (moment_at b p).length ≤ length b → Sound b p
unfolding moment_check data_at
header-sound b p d e r =
    let h = moment_at b p in
    let a = all_hold (moment_rules h d) e in
    let s = bounds 1 32768 h.scale (lit< tt) a.1.0 in
    let o = bounds 0 32768 h.offset (lit< tt) a.1.1.0 in
    let ss = s.1 in
    let oo = o.1 in
    let ls : h.scale < 65536 = omega arith in
    let lo : h.offset < 65536 = omega arith in
    let bin = bin-is (bit d.sizes h.data_type) h.bin_length (rw (exactly w16 2 h.bin_length (lit< tt), exactly w16 1 h.bin_length (lit< tt)) at (sym (bin-by-size d.sizes h.data_type h.bin_length) ∙ a.1.1.1.0)) in
    let bytes : length (data_at b p) ≡ h.length = simp (length-take, length-drop) (omega arith) in
    record {
      scale = s;
      offset = o.1;
      bin = bin;
      coding = λ i. record { data_type = h.data_type; scale = mod-eq_of_lt ls i; offset = mod-eq_of_lt lo i };
      bytes = bytes;
      gates = codes-gates h.bin_length (data_at b p) bin ∙ ap (λ (n : ℕ). gates_in n h.bin_length) bytes;
      float = λ code l. lossless (coding_of h) code l (omega arith) (omega arith) (omega arith);
    }

-- ---- a radial's own stretch and the file

module _ (f : List ℕ) (s : Stretch) (h : Placed f s) where
  pub own-long : length (bytes_of f s) ≡ s.end - s.start
  own-long = let a = h.header in let b = h.within in simp (length-take, length-drop) (omega arith)

  pub own-part : (n at : ℕ) → at + n ≤ s.end - s.start → part n (bytes_of f s) at ≡ part n f (s.start + at)
  own-part n at k =
      part-take n (drop s.start f) at (s.end - s.start) k ∙ part-drop n s.start f at

  pub own-moment : (at : ℕ) → at + 32 ≤ s.end - s.start → moment_at (bytes_of f s) at ≡ moment_at f (s.start + at)
  unfolding moment_at
  own-moment at k = ap moment_of (own-part 32 at k)

  pub own-radial : radial_at (bytes_of f s) 0 ≡ radial_at f s.start
  unfolding radial_at
  own-radial =
      let a = h.header in
      let e : s.start + 0 ≡ s.start = omega arith in
      ap radial_of (own-part 64 0 (omega arith) ∙ ap (part 64 f) e)

-- moments that tile lead on, never back
tile-le : {f : List ℕ} {mask sizes seen left k at end : ℕ} → Tiled f mask sizes seen left k at end → at ≤ end
tile-le none = omega arith
tile-le (more c r) = let l = tile-le r in omega arith

module _ (f : List ℕ) (s : Stretch) (h : Placed f s) (t mask sizes : ℕ) where
  found-sound : (k at p a seen left : ℕ) → a ≡ s.start + at → Tiled f mask sizes seen left k a s.end
      → find_in (bytes_of f s) t (moments_from k (bytes_of f s) at) ≡ Some p → Sound (bytes_of f s) p
  unfolding find_in moments_from
  found-sound zero at p a seen left e none q = absurd (let z : ◌≡◌ {A = ℕ} 0 1 = cc in omega arith)
  found-sound (suc k) at p a seen left e (more c r) q =
      let b = bytes_of f s in
      let l = tile-le r in
      let n = own-long f s h in
      let same : moment_at b at ≡ moment_at f a = own-moment f s h at (omega arith) ∙ ap (moment_at f) (sym e) in
      let len : (moment_at b at).length ≡ (moment_at f a).length = ap (λ (x : Moment). x.length) same in
      let inside : leb (at + 32) (length b) ≡ true = le-leb (at + 32) (length b) (omega arith) in
      let next : a + 32 + (moment_at f a).length ≡ s.start + after b at = omega arith in
      go (eqb (moment_at b at).data_type t) (rw inside at q)
      (header-sound b at (due_with mask sizes seen left (suc k)) (ap (λ (x : Moment). moment_check x (due_with mask sizes seen left (suc k))) same ∙ c) (omega arith))
      (λ z. found-sound k (after b at) p (a + 32 + (moment_at f a).length) _ _ next r z)
    where
      go : (z : Bool) → cond z (Some at) (find_in (bytes_of f s) t (moments_from k (bytes_of f s) (after (bytes_of f s) at))) ≡ Some p
          → Sound (bytes_of f s) at
          → (find_in (bytes_of f s) t (moments_from k (bytes_of f s) (after (bytes_of f s) at)) ≡ Some p → Sound (bytes_of f s) p)
          → Sound (bytes_of f s) p
      go true q first rest = let z : at ≡ p = cc in subst (Sound (bytes_of f s)) z first
      go false q first rest = rest q

-- ---- what a question finds

in-stretch : (x s : Stretch) (v : Option ℕ) (p : ℕ) → in_stretch x v ≡ At s p → (x ≡ s) × (v ≡ Some p)
unfolding in_stretch
in-stretch x s (Some q) p e = (cc, cc)
in-stretch x s None p e = absurd (let z : ◌≡◌ {A = ℕ} 0 1 = cc in omega arith)

-- the radial is whole, and the moment is found in its stretch
pub record Stands (f : List ℕ) (n t : ℕ) (s : Stretch) (p : ℕ) : Type 0 where
  pub radial : nth (stretches f) n ≡ Some s
  pub moment : find_in (bytes_of f s) t (moments_of (bytes_of f s)) ≡ Some p

pub stands : (f : List ℕ) (n t : ℕ) (s : Stretch) (p : ℕ) → where_is f n t ≡ At s p → Stands f n t s p
unfolding in_found
stands f n t s p e = go (nth (stretches f) n) refl
  where
    go : (v : Option Stretch) → nth (stretches f) n ≡ v → Stands f n t s p
    go None q = absurd (let y : in_found f None t ≡ At s p = rw q at e in let z : ◌≡◌ {A = ℕ} 0 1 = cc in omega arith)
    go (Some x) q =
        let y : moment_in f t x ≡ At s p = rw q at e in
        let i = in-stretch x s _ p y in
        record { radial = q ∙ ap Some i.0; moment = rw i.0 at i.1 }

pub whole-sound : (f : List ℕ) (t : ℕ) (s : Stretch) (p : ℕ) → WholeRadial f s → Placed f s → find_in (bytes_of f s) t (moments_of (bytes_of f s)) ≡ Some p
    → Sound (bytes_of f s) p
whole-sound f t s p w h m =
    found-sound f s h t w.mask w.sizes _ 64 p (s.start + 64) 0 _ refl w.moments
    (ap (λ (x : Radial). find_in (bytes_of f s) t (moments_from x.moment_number (bytes_of f s) 64)) (sym (own-radial f s h)) ∙ m)

pub sound : (f : List ℕ) (n t : ℕ) (s : Stretch) (p : ℕ) → where_is f n t ≡ At s p → Sound (bytes_of f s) p
sound f n t s p e =
    let a = stands f n t s p e in
    let w = nth_of (AllWhole f) (WholeRadial f) (λ x l h. h) (stretches f) n s (all_whole f) a.radial in
    whole-sound f t s p w (nth-placed f n s a.radial) a.moment

-- Two files whose radials are some radials and what a pick makes of them: every answer on a wanted type is the same, on another there is none,
-- and tallies go with them. Assumes nothing.
use Prim.Native.Nat.{ℕ, zero, suc}
use native.Mathlib.Omega.{arith}
use mathlib.Core.Bool.{Bool, true, false, cond, ◌&&◌}
use mathlib.Core.List.{List, [], ◌∷◌, map}
use mathlib.Core.Path.{◌≡◌, refl, sym, ap, ap₂, transport, ◌∙◌}
use lib.Dec.{eqb}
use lib.IntN.{ℤ}
use lib.ListN.{length}
use Rattle.std.specs.Prelude.{Option, Some, None, Result}
use Rattle.refusal.specs.declared.Refusal.{Refusal}
use Rattle.rules.specs.Masks.{bit}
use Rattle.wedge.specs.declared.Wedge.{Wedge}
use Rattle.wedge.specs.Wedge.{in_wedge}
use Rattle.moment.specs.Moment.{moment_at}
use Rattle.radial.specs.declared.Radial.{Radial}
use Rattle.radial.specs.Radial.{radial_at}
use Rattle.gates.specs.Codes.{codes_of}
use Rattle.gates.specs.Counting.{counts_of}
use Rattle.gates.specs.Gates.{kind_of}
use Rattle.gates.specs.Rows.{Rowed}
use Rattle.moments.specs.Moments.{data_at}
use Rattle.reading.specs.declared.Stretch.{Stretch}
use Rattle.reading.specs.Reading.{bytes_of, nth, stretches}
use Rattle.volume.specs.Volume.{VolumeRadial}
use Rattle.ask.specs.declared.places.Where.{Where}
use Rattle.ask.specs.declared.places.Where.TheVariants.{At, NoRadial, NoMoment}
use Rattle.ask.specs.declared.tallies.Sums.{Sums}
use Rattle.ask.specs.Answers.{radial_told, moment_told, data_told, coding_of, gate_in, gate_told, RowTold}
use Rattle.ask.specs.Places.{in_found, in_stretch, moment_in}
use Rattle.ask.specs.Tallies.{added, carried, is_asked, no_sums, sums_over, tally_of, tally_one}
use Rattle.ask.proofs.Growing.{nth-placed}
use Rattle.ask.proofs.Sounding.{own-radial}
use Rattle.ask.proofs.Tallying.{none-added}
use Rattle.pick.specs.Only.{only_radial, with_moments}
use Rattle.pick.specs.Picked.{Kept}
use Rattle.pick.proofs.Found.{told-alike, found_nothing, own-header, seen-kept, seen_none}
use Rattle.pick.proofs.Owned.{Owns, Owned, none, more}

module _ (f g : List ℕ) (wanted : ℕ) where
  -- ---- two radials, or none

  -- in neither file, or b in f and what a pick makes of it in g
  data Both : Option Stretch → Option Stretch → Type 0 where
    neither : Both None None
    both : {s u : Stretch} (b : VolumeRadial) → Owns f s b → Owns g u (only_radial wanted b) → Both (Some s) (Some u)

  -- so it is of the n-th, for any n
  nth-both : {ss us : List Stretch} (bs : List VolumeRadial) → Owned f ss bs → Owned g us (map (only_radial wanted) bs) → (n : ℕ) → Both (nth ss n) (nth us n)
  unfolding nth
  nth-both [] none none n = neither
  nth-both (b ∷ bs) (more m x) (more k y) zero = neither
  nth-both (b ∷ bs) (more m x) (more k y) (suc zero) = both b m k
  nth-both (b ∷ bs) (more m x) (more k y) (suc (suc n)) = nth-both bs x y (suc n)

  -- an answer that looks at a moment's header and data alone is the same for a wanted type
  answer {ℓ} : {X : Type ℓ} (a : List ℕ → Where → X) → a g NoRadial ≡ a f NoRadial → a g NoMoment ≡ a f NoMoment
      → ((s u : Stretch) (p q : ℕ) → moment_at (bytes_of g u) p ≡ moment_at (bytes_of f s) q → data_at (bytes_of g u) p ≡ data_at (bytes_of f s) q → a g (At u p) ≡ a f (At s q))
      → {x y : Option Stretch} → Both x y → (t : ℕ) → bit wanted t ≡ true → a g (in_found g y t) ≡ a f (in_found f x t)
  unfolding in_found in_stretch
  answer a no-radial no-moment one neither t e = no-radial
  answer a no-radial no-moment one (both {s} {u} b m k) t e =
      told-alike (bytes_of f s) (bytes_of g u) (λ x. a g (in_stretch u x)) (λ x. a f (in_stretch s x)) no-moment (one s u) _ _
      (seen-kept wanted b k.is (bytes_of g u) k.own t m.is (bytes_of f s) m.own e)

  -- and so is what a row promises
  row_same : {x y : Option Stretch} → Both x y → (t : ℕ) → bit wanted t ≡ true → (k k' : List ℕ) (h h' : List ℤ) (r : Result ℕ Refusal)
      → RowTold g (in_found g y t) k h r k' h' ≡ RowTold f (in_found f x t) k h r k' h'
  unfolding RowTold
  row_same p t e k k' h h' r =
      answer (λ l w. RowTold l w k h r k' h') refl refl (λ s u i j m d. ap₂ (λ x l. Rowed (coding_of x) (codes_of x.bin_length l) k h r k' h') m d) p t e

  -- g has a radial where f has one
  number_same : {x y : Option Stretch} → Both x y → (radial_told g y).number ≡ (radial_told f x).number
  unfolding radial_told
  number_same neither = refl
  number_same (both b m k) = refl

  -- its header is that of f but for two fields
  header-kept : (n : ℕ) {x y : Option Stretch} → Both x y → nth (stretches f) n ≡ x → nth (stretches g) n ≡ y
      → (radial_told g y).header ≡ with_moments (radial_told f x).header (radial_told g y).header.length_of_data (radial_told g y).header.moment_number
  unfolding radial_told
  header-kept n neither here there = refl
  header-kept n (both {s} {u} b m k) here there =
      let old = sym (own-radial f s (nth-placed f n s here)) ∙ own-header b m.is (bytes_of f s) m.own in
      let new = sym (own-radial g u (nth-placed g n u there)) ∙ own-header (only_radial wanted b) k.is (bytes_of g u) k.own in
      transport (sym (ap₂ (λ (x y : Radial). x ≡ with_moments y x.length_of_data x.moment_number) new old)) refl

  -- a type that is not wanted is nowhere in a radial of g
  none_in : (u : Stretch) (b : VolumeRadial) → Owns g u (only_radial wanted b) → (t : ℕ) → bit wanted t ≡ false → moment_in g t u ≡ NoMoment
  unfolding in_stretch
  none_in u b k t e = ap (in_stretch u) (found_nothing (bytes_of g u) _ (seen_none wanted b k.is (bytes_of g u) k.own t e))

  -- so where f has the radial, it is refused by 31
  nowhere : {x y : Option Stretch} → Both x y → (t : ℕ) → bit wanted t ≡ false → (radial_told f x).number ≡ 0 → in_found g y t ≡ NoMoment
  unfolding in_found radial_told
  nowhere neither t e there = absurd (omega arith)
  nowhere (both {u = u} b m k) t e there = none_in u b k t e

  -- ---- tallies

  module _ (cut t : ℕ) (w : Wedge) where
    -- of a wanted type a radial adds what it added
    adds : (s u : Stretch) (b : VolumeRadial) → Owns f s b → Owns g u (only_radial wanted b) → bit wanted t ≡ true → tally_one g cut t w u ≡ tally_one f cut t w s
    unfolding carried in_stretch
    adds s u b m k e =
        let old = own-header b m.is (bytes_of f s) m.own in
        let new = own-header (only_radial wanted b) k.is (bytes_of g u) k.own in
        let blank : (radial_at (bytes_of g u) 0).spot_blank ≡ (radial_at (bytes_of f s) 0).spot_blank = ap (λ (r : Radial). r.spot_blank) new ∙ sym (ap (λ (r : Radial). r.spot_blank) old) in
        let azimuth : (radial_at (bytes_of g u) 0).azimuth ≡ (radial_at (bytes_of f s) 0).azimuth = ap (λ (r : Radial). r.azimuth) new ∙ sym (ap (λ (r : Radial). r.azimuth) old) in
        let asked : is_asked g cut w u ≡ is_asked f cut w s = ap₂ (λ (i a : ℕ). eqb i cut && in_wedge w a) (k.cut ∙ sym m.cut) azimuth in
        let carries =
        told-alike (bytes_of f s) (bytes_of g u) (λ x. carried (bytes_of g u) (in_stretch u x)) (λ x. carried (bytes_of f s) (in_stretch s x)) refl
        (λ p q h d i. record { radials = 1; blanks = cond (eqb (blank i) 1) 1 0; counts = counts_of (map (kind_of (coding_of (h i))) (codes_of (h i).bin_length (d i))) })
        _ _ (seen-kept wanted b k.is (bytes_of g u) k.own t m.is (bytes_of f s) m.own e) in
        ap₂ (λ (x : Bool) (y : Sums). cond x y no_sums) asked carries

    -- so the sums are the same
    add-up : {ss us : List Stretch} (bs : List VolumeRadial) → Owned f ss bs → Owned g us (map (only_radial wanted) bs) → bit wanted t ≡ true
        → sums_over (tally_one g cut t w) us ≡ sums_over (tally_one f cut t w) ss
    unfolding sums_over
    add-up [] none none e = refl
    add-up (b ∷ bs) (more m x) (more k y) e = ap₂ added (adds _ _ b m k e) (add-up bs x y e)

    -- of another type it adds nothing
    adds_none : (u : Stretch) (b : VolumeRadial) → Owns g u (only_radial wanted b) → bit wanted t ≡ false → tally_one g cut t w u ≡ no_sums
    unfolding carried
    adds_none u b k e = ap (λ (x : Where). cond (is_asked g cut w u) (carried (bytes_of g u) x) no_sums) (none_in u b k t e) ∙ either (is_asked g cut w u)
      where
        either : (x : Bool) → cond x no_sums no_sums ≡ no_sums
        either true = refl
        either false = refl

    -- so nothing is counted
    none-up : {us : List Stretch} (bs : List VolumeRadial) → Owned g us (map (only_radial wanted) bs) → bit wanted t ≡ false → sums_over (tally_one g cut t w) us ≡ no_sums
    unfolding sums_over
    none-up [] none e = refl
    none-up (b ∷ bs) (more k y) e = ap₂ added (adds_none _ b k e) (none-up bs y e) ∙ none-added no_sums

  -- ---- the radials of both files

  -- as many in g as in f
  long-both : {ss us : List Stretch} (bs : List VolumeRadial) → Owned f ss bs → Owned g us (map (only_radial wanted) bs) → length us ≡ length ss
  long-both [] none none = refl
  long-both (b ∷ bs) (more m x) (more k y) = ap suc (long-both bs x y)

  module _ (bs : List VolumeRadial) (mine : Owned f (stretches f) bs) (new : Owned g (stretches g) (map (only_radial wanted) bs)) where
    pub same-many : length (stretches g) ≡ length (stretches f)
    same-many = long-both bs mine new

    -- each is answered as a pick promises
    pub kept : (n : ℕ) → Kept f g wanted n
    unfolding moment_told data_told gate_told RowTold
    kept n =
        let p = nth-both bs mine new n in
        let gone = nowhere p in
        record {
          there = number_same p;
          header = header-kept n p refl refl;
          moment = answer moment_told refl refl (λ s u i j m d z. record { number = 0; header = m z }) p;
          bytes = answer data_told refl refl (λ s u i j m d. d) p;
          gate = λ t i e. answer (λ l w. gate_told l w i) refl refl (λ s u j k m d. ap₂ (λ x l. gate_in x l i) m d) p t e;
          row = λ t e k k' h h' r. (transport (row_same p t e k k' h h' r), transport (sym (row_same p t e k k' h h' r)));
          no-moment = gone;
          moment-31 = λ t e there. ap (λ (x : Where). (moment_told g x).number) (gone t e there);
          gate-31 = λ t i e there. ap (λ (x : Where). gate_told g x i) (gone t e there);
          row-31 = λ t e there k k' h h' r.
              let as-31 = ap (λ x. RowTold g x k h r k' h') (gone t e there) in
              (transport as-31, transport (sym as-31));
        }

    -- a tally of a wanted type is the same
    pub tally-same : (cut t : ℕ) (w : Wedge) → bit wanted t ≡ true → tally_of g cut t w ≡ tally_of f cut t w
    tally-same cut t w e = ap (λ (x : Sums). record { wedge = w; sums = x }) (add-up cut t w bs mine new e)

    -- and one of another counts nothing
    pub tally-none : (cut t : ℕ) (w : Wedge) → bit wanted t ≡ false → (tally_of g cut t w).sums ≡ no_sums
    tally-none cut t w e = none-up cut t w bs new e

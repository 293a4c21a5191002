-- Where a right index leads: the radial that stands there is the one the plain walk finds, since its header says its end and its cut.
-- Assumes nothing.
use Prim.Native.Nat.{ℕ, ◌+◌, ◌-◌, ◌≤◌}
use native.Mathlib.Omega.{arith}
use mathlib.Core.Bool.{true}
use mathlib.Core.List.{List}
use mathlib.Core.Path.{◌≡◌, refl, sym, ap, ap₂, ◌∙◌}
use lib.ListN.{length, take, drop}
use Rattle.std.specs.Prelude.{Option, Some, None}
use Rattle.le.specs.Le.{Bytes}
use Rattle.radial.specs.Radial.{radial_at}
use Rattle.reading.specs.declared.Stretch.{Stretch}
use Rattle.reading.specs.Reading.{stretches, nth}
use Rattle.reading.specs.Tiling.{WholeRadial, AllWhole}
use Rattle.reading.proofs.Radials.{said, all_whole}
use Rattle.ask.proofs.Growing.{nth_of, nth-placed}
use Rattle.ask.proofs.Sounding.{own-radial}
use Rattle.index.specs.Answer.{right_for}
use Rattle.index.specs.Forms.{place_said, start_of_found}
use Rattle.index.proofs.Says.{leads}

-- the stretch of the radial at a place, by its header
abbrev pub stretch_at : List ℕ → ℕ → Stretch
stretch_at f at = record { start = at; end = at + 64 + (radial_at f at).length_of_data; cut = (radial_at f at).elevation_number }

pub its-stretch : (f : List ℕ) (n : ℕ) (s : Stretch) → nth (stretches f) n ≡ Some s → s ≡ stretch_at f s.start
its-stretch f n s e =
    let k = said f s (nth_of (AllWhole f) (WholeRadial f) (λ s l h. h) (stretches f) n s (all_whole f) e) in
    ap₂ (λ (end cut : ℕ). record { start = s.start; end = end; cut = cut }) k.end k.cut

module _ (f x : List ℕ) (bs : Bytes f) (right : right_for f x ≡ true) (n : ℕ) where
  pub record LedTo (at : ℕ) : Type 0 where
    pub is : nth (stretches f) n ≡ Some (stretch_at f at)
    pub within : at + 64 + (radial_at f at).length_of_data ≤ length f
    -- its header, read from its own bytes
    pub header : radial_at (take (at + 64 - at) (drop at f)) 0 ≡ radial_at f at

  pub led : (at : ℕ) → place_said x n ≡ Some at → LedTo at
  led at e = go (nth (stretches f) n) refl (sym (leads f x bs right n) ∙ e)
    where
      go : (w : Option Stretch) → nth (stretches f) n ≡ w → start_of_found w ≡ Some at → LedTo at
      go None q d = absurd (let z : ◌≡◌ {A = ℕ} 0 1 = cc in omega arith)
      go (Some s) q d =
          let start : s.start ≡ at = cc in
          let own : s ≡ stretch_at f at = its-stretch f n s q ∙ ap (stretch_at f) start in
          let end = ap (λ (s : Stretch). s.end) own in
          let p = (nth-placed f n s q).within in
          record {
            is = q ∙ ap Some own;
            within = omega arith;
            header = own-radial f (record { start = at; end = at + 64; cut = 0 }) (record { header = omega arith; within = omega arith });
          }

  pub led-nowhere : place_said x n ≡ None → nth (stretches f) n ≡ None
  led-nowhere e = go (nth (stretches f) n) refl (sym (leads f x bs right n) ∙ e)
    where
      go : (w : Option Stretch) → nth (stretches f) n ≡ w → start_of_found w ≡ None → nth (stretches f) n ≡ None
      go None q d = q
      go (Some s) q d = absurd (let z : ◌≡◌ {A = ℕ} 0 1 = cc in omega arith)

-- A tally of a cut of which a radial is kept: kept radials add what they added, and a dropped one is of no such cut. Assumes nothing.
use Prim.Native.Nat.{ℕ, ◌≤◌}
use native.Mathlib.Omega.{arith}
use borrow.Author.Tests.{ne_eqb}
use mathlib.Core.Bool.{Bool, cond, ◌&&◌}
use mathlib.Core.List.{List, [], ◌∷◌, map}
use mathlib.Core.Path.{◌≡◌, refl, sym, ap, ap₂, subst, ◌∙◌}
use lib.Dec.{eqb}
use Rattle.wedge.specs.declared.Wedge.{Wedge}
use Rattle.wedge.specs.Wedge.{in_wedge}
use Rattle.gates.specs.Codes.{codes_of}
use Rattle.gates.specs.Counting.{counts_of}
use Rattle.gates.specs.Gates.{kind_of}
use Rattle.radial.specs.declared.Radial.{Radial}
use Rattle.reading.specs.declared.Stretch.{Stretch}
use Rattle.reading.specs.Reading.{bytes_of, stretches}
use Rattle.volume.specs.InPlace.{of_cut}
use Rattle.ask.specs.declared.tallies.Sums.{Sums}
use Rattle.ask.specs.Answers.{coding_of}
use Rattle.ask.specs.Places.{in_stretch, moment_in}
use Rattle.ask.specs.Tallies.{added, carried, is_asked, no_sums, sums_over, tally_of, tally_one}
use Rattle.ask.proofs.Tallying.{added_none, none-added, sums-append}
use Rattle.mend.specs.Kept.{kept}
use Rattle.mend.proofs.Nth.{Pairs, none, more}
use Rattle.mend.proofs.Own.{header, told}
use Rattle.mend.proofs.Paired.{Moved}
use Rattle.mend.proofs.Seen.{Tail, all, one}

module _ (f g : List ℕ) (gap cut t : ℕ) (w : Wedge) where
  -- a kept radial adds what it added
  carries : (s u : Stretch) → Moved f g gap s u → carried (bytes_of g u) (moment_in g t u) ≡ carried (bytes_of f s) (moment_in f t s)
  unfolding carried in_stretch
  carries s u m =
      let b = bytes_of f s in
      let c = bytes_of g u in
      let blank = ap {B = ℕ} (λ (r : Radial). cond (eqb r.spot_blank 1) 1 0) (header b c m.long m.behind) in
      told b c m.long m.behind (λ x. carried c (in_stretch u x)) (λ x. carried b (in_stretch s x)) refl
      (λ p h d i. record { radials = 1; blanks = blank i; counts = counts_of (map (kind_of (coding_of (h i))) (codes_of (h i).bin_length (d i))) })
      t

  adds : (s u : Stretch) → Moved f g gap s u → tally_one g cut t w u ≡ tally_one f cut t w s
  adds s u m =
      let asked : is_asked g cut w u ≡ is_asked f cut w s =
      ap₂ (λ (k : ℕ) (r : Radial). eqb k cut && in_wedge w r.azimuth) m.cut (header (bytes_of f s) (bytes_of g u) m.long m.behind) in
      ap₂ (λ (b : Bool) (x : Sums). cond b x no_sums) asked (carries s u m)

  add-up : {ss us : List Stretch} → Pairs (Moved f g gap) ss us → sums_over (tally_one g cut t w) us ≡ sums_over (tally_one f cut t w) ss
  unfolding sums_over
  add-up none = refl
  add-up (more m p) = ap₂ added (adds _ _ m) (add-up p)

  -- a radial of another cut adds nothing
  another : (s : Stretch) → (s.cut ≡ cut → ⊥) → tally_one f cut t w s ≡ no_sums
  another s n = rw (ne_eqb s.cut cut n)

  pub tally-same : Tail f → Pairs (Moved f g gap) (kept f) (stretches g) → 1 ≤ of_cut cut (kept f) → tally_of g cut t w ≡ tally_of f cut t w
  unfolding sums_over
  tally-same tail p some = ap (λ (x : Sums). record { wedge = w; sums = x }) (add-up p ∙ sym (by tail))
    where
      by : Tail f → sums_over (tally_one f cut t w) (stretches f) ≡ sums_over (tally_one f cut t w) (kept f)
      by (all e) = ap (sums_over (tally_one f cut t w)) e
      by (one s e z) =
          let other = another s (λ c. let h = subst (λ (k : ℕ). of_cut k (kept f) ≡ 0) c z in omega arith) in
          ap (sums_over (tally_one f cut t w)) e
          ∙ sums-append (tally_one f cut t w) (kept f) (s ∷ [])
          ∙ ap (added (sums_over (tally_one f cut t w) (kept f))) (ap (λ (x : Sums). added x no_sums) other ∙ none-added no_sums)
          ∙ added_none (sums_over (tally_one f cut t w) (kept f))

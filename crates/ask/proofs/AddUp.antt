-- A wedge and the wedge back add up to the whole cut, and where no radial is counted nothing is. Assumes nothing.
use Prim.Native.Nat.{ℕ}
use native.Mathlib.Omega.{arith}
use mathlib.Core.Bool.{Bool, true, false, not, cond, ◌&&◌}
use mathlib.Core.List.{List, [], ◌∷◌}
use mathlib.Core.Path.{◌≡◌, refl, sym, ap, ap₂, ◌∙◌}
use lib.Dec.{eqb}
use Rattle.rules.specs.Ranges.{is_azimuth}
use Rattle.rules.proofs.Judged.{all_hold}
use Rattle.radial.specs.declared.Radial.{Radial}
use Rattle.radial.specs.Radial.{radial_at, radial_rules, radial_check}
use Rattle.radial.proofs.Header.{header}
use Rattle.wedge.specs.declared.Wedge.{Wedge}
use Rattle.wedge.proofs.Wedges.{all-round, one_of}
use Rattle.reading.specs.declared.Stretch.{Stretch}
use Rattle.reading.specs.Reading.{stretches, bytes_of}
use Rattle.reading.specs.Tiling.{WholeRadial, AllWhole}
use Rattle.reading.proofs.Radials.{all_whole}
use Rattle.ask.specs.declared.places.Where.{Where}
use Rattle.ask.specs.declared.places.Where.TheVariants.{At, NoRadial, NoMoment}
use Rattle.ask.specs.declared.tallies.Sums.{Sums}
use Rattle.ask.specs.Counted.{with_no_wedge}
use Rattle.ask.specs.Places.{moment_in}
use Rattle.ask.specs.Tallies.{no_sums, added, carried, is_asked, tally_one, sums_over, tally_of}
use Rattle.ask.proofs.Growing.{Placed, AllPlaced, all_placed}
use Rattle.ask.proofs.Sounding.{own-radial}
use Rattle.ask.proofs.Tallying.{added-assoc, added-comm, none-added}

-- ---- two sums over a list are a third, where that is so of each element

swap : (a b c d : Sums) → added (added a b) (added c d) ≡ added (added a c) (added b d)
swap a b c d =
    added-assoc a b (added c d)
    ∙ ap (added a) (sym (added-assoc b c d) ∙ ap (λ (x : Sums). added x d) (added-comm b c) ∙ added-assoc c b d)
    ∙ sym (added-assoc a c (added b d))

sums-of-two : (f : List ℕ) (g h k : Stretch → Sums) → ((s : Stretch) → WholeRadial f s → Placed f s → added (g s) (h s) ≡ k s)
    → (ss : List Stretch) → AllWhole f ss → AllPlaced f ss → added (sums_over g ss) (sums_over h ss) ≡ sums_over k ss
unfolding sums_over
sums-of-two f g h k each [] w p = none-added no_sums
sums-of-two f g h k each (s ∷ ss) w p =
    swap (g s) (sums_over g ss) (h s) (sums_over h ss) ∙ ap₂ added (each s w.0 p.0) (sums-of-two f g h k each ss w.1 p.1)

sums-alike : (f : List ℕ) (g k : Stretch → Sums) → ((s : Stretch) → WholeRadial f s → Placed f s → g s ≡ k s)
    → (ss : List Stretch) → AllWhole f ss → AllPlaced f ss → sums_over g ss ≡ sums_over k ss
unfolding sums_over
sums-alike f g k each [] w p = refl
sums-alike f g k each (s ∷ ss) w p = ap₂ added (each s w.0 p.0) (sums-alike f g k each ss w.1 p.1)

-- ---- a whole radial lies in one of the two wedges, and in every full circle

azimuth-of : (f : List ℕ) (s : Stretch) → WholeRadial f s → Placed f s → is_azimuth (radial_at (bytes_of f s) 0).azimuth ≡ true
unfolding radial_check
azimuth-of f s w p =
    ap (λ (r : Radial). is_azimuth r.azimuth) (own-radial f s p)
    ∙ (header (radial_at f s.start) w.against (all_hold (radial_rules (radial_at f s.start) w.against) w.header)).azimuth

pick : (x : Sums) (c p q : Bool) → p ≡ not q → added (cond (c && p) x no_sums) (cond (c && q) x no_sums) ≡ cond c x no_sums
pick x false p q e = none-added no_sums
pick x true p q e = ap (λ (b : Bool). added (cond b x no_sums) (cond q x no_sums)) e ∙ go q
  where
    go : (q : Bool) → added (cond (not q) x no_sums) (cond q x no_sums) ≡ x
    go true = none-added x
    go false = added-comm x no_sums ∙ none-added x

module _ (f : List ℕ) (cut t : ℕ) where
  pub two-wedges : (a b : ℕ) → (a ≡ b → ⊥)
      → added (tally_of f cut t (record { start = a; end = b })).sums (tally_of f cut t (record { start = b; end = a })).sums ≡ sums_over (with_no_wedge f cut t) (stretches f)
  two-wedges a b d =
      sums-of-two f _ _ (with_no_wedge f cut t)
      (λ s w p. pick (carried (bytes_of f s) (moment_in f t s)) (eqb s.cut cut) _ _ (one_of a b (radial_at (bytes_of f s) 0).azimuth d (azimuth-of f s w p)))
      (stretches f) (all_whole f) (all_placed f)

  pub full-circle : (w : Wedge) → w.start ≡ w.end → (tally_of f cut t w).sums ≡ sums_over (with_no_wedge f cut t) (stretches f)
  full-circle w e =
      sums-alike f _ (with_no_wedge f cut t) (λ s h p. rw (all-round w (radial_at (bytes_of f s) 0).azimuth e (azimuth-of f s h p)) (go s (eqb s.cut cut)))
      (stretches f) (all_whole f) (all_placed f)
    where
      go : (s : Stretch) (c : Bool) → cond (c && true) (carried (bytes_of f s) (moment_in f t s)) no_sums ≡ cond c (carried (bytes_of f s) (moment_in f t s)) no_sums
      go s true = refl
      go s false = refl

  -- ---- where no radial is counted nothing is

  none-one : (w : Wedge) (s : Stretch) → (tally_one f cut t w s).radials ≡ 0 → tally_one f cut t w s ≡ no_sums
  unfolding carried
  none-one w s = go (is_asked f cut w s) (moment_in f t s)
    where
      go : (here : Bool) (v : Where) → (cond here (carried (bytes_of f s) v) no_sums).radials ≡ 0 → cond here (carried (bytes_of f s) v) no_sums ≡ no_sums
      go false v e = refl
      go true NoRadial e = refl
      go true NoMoment e = refl
      go true (At u p) e = absurd (omega arith)

  none_over : (w : Wedge) (ss : List Stretch) → (sums_over (tally_one f cut t w) ss).radials ≡ 0 → sums_over (tally_one f cut t w) ss ≡ no_sums
  unfolding sums_over
  none_over w [] e = refl
  none_over w (s ∷ ss) e = ap₂ added (none-one w s (omega arith)) (none_over w ss (omega arith)) ∙ none-added no_sums

  pub none-counted : (w : Wedge) → (tally_of f cut t w).sums.radials ≡ 0 → (tally_of f cut t w).sums ≡ no_sums
  none-counted w = none_over w (stretches f)

-- Tallies by wedge: what the exact value decides, and that a wedge and the wedge back add up, by citing. Assumes nothing.
use Prim.Native.Nat.{ℕ, ◌*◌, ◌^◌, ◌≤◌, ◌<◌}
use native.Mathlib.Omega.{arith}
use mathlib.Core.Bool.{Bool, true, false, cond, ◌||◌, or-true}
use mathlib.Core.List.{List, map}
use mathlib.Core.Logic.{◌↔◌, ◌⊎◌, inl, inr}
use mathlib.Core.Path.{◌≡◌, refl, sym, ap, subst, ◌∙◌}
use borrow.Author.Tests.{lt-ltb, le-leb, leb-true, ltb-true, eqb-true}
use lib.Dec.{leb, ltb, eqb}
use lib.Ieee.{binary32, of_bits, of_int, le, lt, eq}
use lib.Ieee.Exact.{HasValue}
use Rattle.le.proofs.Tests.{both}
use Rattle.std.specs.Prelude.{Ok}
use Rattle.rules.specs.Ranges.{angle, between, is_azimuth}
use Rattle.rules.proofs.Judged.{all_hold}
use Rattle.radial.specs.declared.Radial.{Radial}
use Rattle.radial.specs.declared.RadialDue.{RadialDue}
use Rattle.radial.specs.Radial.{radial_rules, radial_check}
use Rattle.radial.proofs.Header.{header}
use Rattle.wedge.specs.declared.Wedge.{Wedge}
use Rattle.wedge.specs.Wedge as wedges
use Rattle.wedge.specs.Wedge.{reaches, turned, in_wedge, wedge_ok}
use Rattle.wedge.proofs.Wedges.{one_of, all-round, lies-upwards, lies-through, lies-full}
use Rattle.gates.specs.Telling.{refused, answered}
use Rattle.reading.specs.Reading.{stop}
use Rattle.ask.specs.declared.tallies.Sums.{Sums}
use Rattle.ask.specs.declared.tallies.Tally.{Tally}
use Rattle.ask.specs.Tallies.{added, tally_of, cut_accepted, tally_told, tally_answer}
use Rattle.ask.proofs.AddUp.{two-wedges, full-circle, none-counted}
use Rattle.ask.proofs.Tallying.{told-counted}
use Rattle.demands.proofs.One.{wedge-range, tallies}
use Rattle.demands.specs.Wedges.{wedge, Lies, Parted, computed, table, CountsAs, counted, none, AddUp, Nothing, Apart, Wedges}

-- ---- azimuths

parted : (r : Radial) (d : RadialDue) → radial_check r d ≡ (Ok tt) → Parted r
unfolding radial_check
parted r d e =
    let is = (header r d (all_hold (radial_rules r d) e)).azimuth in
    record { one_of = λ a b n. one_of a b r.azimuth n is; all-round = λ a. all-round (wedge a a) r.azimuth refl is }

numbers : map computed table ≡ table
unfolding table in_wedge wedges.between turned reaches angle between le lt eq of_bits of_int
numbers = refl

no-azimuth : (w : Wedge) (bits : ℕ) → is_azimuth bits ≡ false → in_wedge w bits ≡ false
unfolding in_wedge
no-azimuth w bits e = rw e

module _ (w : Wedge) (bits a c : ℕ) (s : Bool) (fits : bits < 2 ^ 32) (is : is_azimuth bits ≡ true) (C : 0 < c) (v : HasValue (of_bits binary32 bits) s a c) where
  upwards : w.start < w.end → a < 360 * c → (in_wedge w bits ≡ true) ↔ ((w.start * c ≤ 100 * a) × (100 * a < w.end * c))
  upwards l h =
      let e = lies-upwards w bits a c s fits is C v l h in (
        λ t. let x = both (leb (w.start * c) (100 * a)) (ltb (100 * a) (w.end * c)) (sym e ∙ t) in (leb-true _ _ x.0, ltb-true _ _ x.1),
        λ p. e ∙ rw (le-leb _ _ p.0, lt-ltb _ _ p.1),
      )

  through : w.end ≤ w.start → a < 360 * c → (in_wedge w bits ≡ true) ↔ ((w.start * c ≤ 100 * a) ⊎ (100 * a < w.end * c))
  through l h =
      let e = lies-through w bits a c s fits is C v l h in (
        λ t. there (leb (w.start * c) (100 * a)) refl (sym e ∙ t),
        λ p. e ∙ back p,
      )
    where
      there : (x : Bool) → leb (w.start * c) (100 * a) ≡ x → (x || ltb (100 * a) (w.end * c)) ≡ true → (w.start * c ≤ 100 * a) ⊎ (100 * a < w.end * c)
      there true k t = inl (leb-true _ _ k)
      there false k t = inr (ltb-true _ _ t)

      back : (w.start * c ≤ 100 * a) ⊎ (100 * a < w.end * c) → (leb (w.start * c) (100 * a) || ltb (100 * a) (w.end * c)) ≡ true
      back (inl p) = rw (le-leb _ _ p)
      back (inr p) = rw (lt-ltb _ _ p) (or-true (leb (w.start * c) (100 * a)))

  lies : Lies w bits a c
  lies = record { upwards = upwards; through = through; full = lies-full w bits a c s fits is C v }

-- ---- answers

counts-as : (f : List ℕ) (cut t : ℕ) (w : Wedge) → wedge_ok w ≡ true → cut_accepted (stop f) cut ≡ true → CountsAs (tally_answer f cut t w) (tally_of f cut t w).sums
unfolding tally_answer tally_told
counts-as f cut t w o a = rw (o, a) (go (eqb (tally_of f cut t w).sums.radials 0) refl)
  where
    go : (z : Bool) → eqb (tally_of f cut t w).sums.radials 0 ≡ z → CountsAs (cond z (refused 31 0) (answered (tally_of f cut t w))) (tally_of f cut t w).sums
    go true e = subst (CountsAs (refused 31 0)) (sym (none-counted f cut t w (eqb-true _ 0 e))) none
    go false e = counted (tally_of f cut t w)

in-range : (a b : ℕ) → a ≤ 35999 → b ≤ 35999 → wedge_ok (wedge a b) ≡ true
in-range a b l m = (wedge-range (wedge a b)).1 (l, m)

add-up : (f : List ℕ) (cut t a b : ℕ) → Apart a b → cut_accepted (stop f) cut ≡ true → AddUp f cut t a b
add-up f cut t a b p e =
    let x = (tally_of f cut t (wedge a b)).sums in
    let y = (tally_of f cut t (wedge b a)).sums in
    let z = (tally_of f cut t (wedge 0 0)).sums in
    let same : added x y ≡ z = two-wedges f cut t a b p.differ ∙ sym (full-circle f cut t (wedge 0 0) refl) in
    record {
      there = x;
      back = y;
      full = z;
      there-counts = counts-as f cut t (wedge a b) (in-range a b p.first p.second) e;
      back-counts = counts-as f cut t (wedge b a) (in-range b a p.second p.first) e;
      full-counts = counts-as f cut t (wedge 0 0) (in-range 0 0 (omega arith) (omega arith)) e;
      radials = ap (λ (s : Sums). s.radials) same;
      blanks = ap (λ (s : Sums). s.blanks) same;
      below = ap (λ (s : Sums). s.counts.below) same;
      folded = ap (λ (s : Sums). s.counts.folded) same;
      not_scanned = ap (λ (s : Sums). s.counts.not_scanned) same;
      unknown = ap (λ (s : Sums). s.counts.unknown) same;
      reserved = ap (λ (s : Sums). s.counts.reserved) same;
      value = ap (λ (s : Sums). s.counts.value) same;
      class = ap (λ (s : Sums). s.counts.class) same;
    }

nothing : (f : List ℕ) (cut t a b : ℕ) → Apart a b → cut_accepted (stop f) cut ≡ false → Nothing f cut t a b
nothing f cut t a b p e =
    record {
      there = (tallies f cut t (wedge a b)).tally-30 (in-range a b p.first p.second) e;
      back = (tallies f cut t (wedge b a)).tally-30 (in-range b a p.second p.first) e;
      full = (tallies f cut t (wedge 0 0)).tally-30 (in-range 0 0 (omega arith) (omega arith)) e;
    }

asked : (f : List ℕ) (cut t : ℕ) (w : Wedge) (x : Tally) → tally_answer f cut t w ≡ answered x → x.wedge ≡ w
unfolding tally_answer
asked f cut t w x e = ap (λ (y : Tally). y.wedge) (sym (told-counted (wedge_ok w) (cut_accepted (stop f) cut) (tally_of f cut t w) x e).1.1.0)

pub wedges-hold : Wedges
wedges-hold =
    record {
      lies = lies;
      no-azimuth = no-azimuth;
      parted = parted;
      numbers = numbers;
      add-up = add-up;
      nothing = nothing;
      asked = asked;
    }

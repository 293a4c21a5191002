-- What an old radial without a refusal of its own has, and what our rules can still refuse of the header that it gives: state
-- (10), the counts (12, 13), elevation number (14), and an elevation above 90 degrees (16). Assumes nothing.
use mathlib.Core.Path.{◌≡◌, refl, sym, ap, ◌∙◌}
use mathlib.Core.Bool.{Bool, true, false, ◌||◌}
use mathlib.Core.Logic.{◌⊎◌, inl, inr}
use mathlib.Core.List.{List, [], ◌∷◌}
use Prim.Native.Nat.{ℕ, ◌%◌, ◌^◌, ◌<◌}
use native.Mathlib.Omega.{arith}
use lib.Dec.{eqb, leb, lit<}
use lib.IntN.{pos}
use mir.Syntax.{w32}
use borrow.Author.Tests.{eqb-true, lt-ltb}
use Rattle.le.specs.Le.{int}
use Rattle.rules.specs.Ranges.{among, count_clauses, is, most_radials, most_sequence, not_below_zero}
use Rattle.rules.specs.States.{state_ok}
use Rattle.rules.specs.Check.{Rule, rule, verdict, Hold}
use Rattle.std.specs.Prelude.{Ok}
use Rattle.rules.proofs.Judged.{all_hold}
use Rattle.rules.proofs.Numbers.{inside, zero-by-bits}
use Rattle.radial.specs.declared.RadialDue.{RadialDue}
use Rattle.radial.specs.Radial.{radial_rules, radial_check}
use Rattle.old.specs.declared.record.OldRadial.{OldRadial}
use Rattle.old.specs.Clock.{seconds_of, micros_of, time_ok}
use Rattle.old.specs.Old.{counts_ok, resolution_ok, old_rules, old_check}
use Rattle.old.specs.Headers.{radial_from}
use Rattle.old.proofs.Fewer.{Fewer, done, stays, goes, fewer}
use Rattle.old.proofs.Times as times
use Rattle.old.proofs.Lengths.{length-fine, number-fine}
use Rattle.old.proofs.Fine.{azimuth-fine, elevation-is}

-- each of its four rules holds
pub rules-hold : (o : OldRadial) → old_check o ≡ (Ok tt) → Hold (old_rules o)
unfolding old_check
rules-hold o e = all_hold (old_rules o) e

-- what number 53 lets through
pub two-or-four : (x : ℕ) → resolution_ok x ≡ true → (x ≡ 2) ⊎ (x ≡ 4)
unfolding resolution_ok
two-or-four x = go (eqb x 2) (eqb x 4) (eqb-true x 2) (eqb-true x 4)
  where
    go : (a b : Bool) → (a ≡ true → x ≡ 2) → (b ≡ true → x ≡ 4) → (a || b) ≡ true → (x ≡ 2) ⊎ (x ≡ 4)
    go true b two four ok = inl (two refl)
    go false b two four ok = inr (four ok)

-- the rules that are left for our reading to decide
abbrev pub radial_left : OldRadial → ℕ → ℕ → RadialDue → List Rule
radial_left o sequence number d =
    rule 0 4 10 (state_ok d.scan_type d.cuts d.cut d.in_cut o.state ∷ [])
    ∷ rule 8 4 12 (count_clauses most_sequence d.before sequence)
    ∷ rule 12 4 13 (count_clauses most_radials d.in_cut number)
    ∷ rule 16 4 14 (is d.cut (int o.elevation_number) ∷ [])
    ∷ rule 24 4 16 (leb o.elevation 16384 ∷ [])
    ∷ []

module _ (o : OldRadial) (ok : old_check o ≡ (Ok tt)) (az : o.azimuth < 65536) (el : o.elevation < 65536)
    (sequence number : ℕ) (d : RadialDue) where
  time : time_ok o.day o.milliseconds ≡ true
  time = (rules-hold o ok).1.0

  counted : counts_ok o.reflectivity o.doppler ≡ true
  counted = (rules-hold o ok).1.1.0

  spot : among (pos 0) (pos 1) (int 0) ≡ true
  spot = sym (inside w32 0 1 0 (lit< tt) (omega arith) (omega arith))

  seconds : not_below_zero (int (seconds_of o.day o.milliseconds % 2 ^ 32)) ≡ true
  seconds =
      let s = seconds_of o.day o.milliseconds in
      let h = (times.accepted o.day o.milliseconds time).2 in
      rw (times.seconds-whole o.day o.milliseconds time) (zero-by-bits w32 s ∙ lt-ltb s 2147483648 (omega arith))

  micros : among (pos 0) (pos 999999) (int (micros_of o.milliseconds)) ≡ true
  micros = sym (inside w32 0 999999 (micros_of o.milliseconds) (lit< tt) (omega arith) (times.micros-small o.milliseconds))

  pub header-check : radial_check (radial_from o sequence number) d ≡ verdict (radial_left o sequence number d)
  unfolding radial_check radial_from
  header-check =
      let f : Fewer (radial_rules (radial_from o sequence number) d) (radial_left o sequence number d) =
      stays refl (goes spot (stays refl (stays refl (stays refl (goes (azimuth-fine o.azimuth az)
      (stays (ap (λ (b : Bool). rule 24 4 16 (b ∷ [])) (elevation-is o.elevation el)) (goes seconds (goes micros
      (goes (length-fine o.reflectivity o.doppler counted)
      (goes (number-fine o.reflectivity o.doppler counted) done)))))))))) in
      fewer f (Ok tt)

-- The import of an old shelf, by citing the crates `old` and `shelf`, and the tables by computing. Assumes nothing.
use Prim.Native.Nat.{ℕ, ◌+◌, ◌≤◌}
use native.Mathlib.Nat.{add_assoc}
use native.Mathlib.Omega.{arith}
use borrow.Author.Tests.{eq-eqb, ne_eqb}
use mathlib.Core.List.{List, map}
use mathlib.Core.Path.{◌≡◌, refl, ap, ◌∙◌}
use lib.Ieee.{to_bits, round, units, odd, size}
use lib.ListN.{get_or}
use Rattle.le.specs.Le.{le, part}
use Rattle.le.proofs.Laws.{le-part}
use Rattle.gates.specs.Gates.{is_measurement, other_of, gate_of, magnitude_of, rounded_of, told_of}
use Rattle.old.specs.declared.record.OldRadial.{OldRadial}
use Rattle.old.specs.Angle.{angle_bits}
use Rattle.old.specs.Clock.{time_clauses}
use Rattle.old.specs.Codes.{formula, new_code, coding_of}
use Rattle.old.specs.Headers.{gates_of, place_of, moment_from}
use Rattle.old.specs.Old.{old_of, old_at}
use Rattle.shelf.specs.Import.{moment_of}
use Rattle.shelf.proofs.Bringing.{taken-all}
use Rattle.shelf.proofs.Growing.{grows}
use Rattle.shelf.proofs.Ordering.{ordered}
use Rattle.demands.specs.Imports.{two, four, Fields, InOrder, Worth, computed, table, Angles, Times, Imports}

-- ---- the fields

module _ (f : List ℕ) (at : ℕ) where
  two_at : (k : ℕ) → k + 2 ≤ 128 → le 2 (part 128 f at) k ≡ two f (at + k)
  unfolding le
  two_at k h = le-part 2 128 f at k h ∙ omega arith

  four-at : (k : ℕ) → k + 4 ≤ 128 → le 4 (part 128 f at) k ≡ four f (at + k)
  unfolding le
  four-at k h =
      let third = ap (λ (i : ℕ). get_or f i 0) (add_assoc (at + k) 1 1) in
      let fourth = ap (λ (i : ℕ). get_or f (i + 1) 0) (add_assoc (at + k) 1 1) in
      le-part 4 128 f at k h ∙ omega arith

  fields : Fields f at
  unfolding old_at old_of place_of
  fields =
      let r = two_at 54 (omega arith) in
      let d = two_at 56 (omega arith) in
      record {
        mark = two_at 14 (omega arith);
        milliseconds = four-at 28 (omega arith);
        day = two_at 32 (omega arith);
        azimuth = two_at 36 (omega arith);
        state = two_at 40 (omega arith);
        elevation = two_at 42 (omega arith);
        elevation-number = two_at 44 (omega arith);
        reflectivity = r;
        doppler = d;
        resolution = two_at 70 (omega arith);
        first-codes = λ i. refl;
        second-codes = λ i. ap (λ (n : ℕ). get_or f n 0) (omega arith);
        third-codes = λ i. ap (λ (n : ℕ). get_or f n 0) (omega arith);
      }

-- ---- the order of the moments

in_order : (o : OldRadial) (f : List ℕ) (at : ℕ) → InOrder o f at
unfolding moment_of gates_of moment_from coding_of
in_order o f at =
    record {
      all = λ r d. rw (ne_eqb o.reflectivity 0 (λ z. omega arith), ne_eqb o.doppler 0 (λ z. omega arith));
      reflectivity-alone = λ r d. rw (ne_eqb o.reflectivity 0 (λ z. omega arith), eq-eqb o.doppler 0 d);
      doppler-alone = λ r d. rw (eq-eqb o.reflectivity 0 r, ne_eqb o.doppler 0 (λ z. omega arith));
    }

-- ---- the tables

worth : Worth
unfolding formula
worth =
    record {
      least-reflectivity = refl;
      no-reflectivity = refl;
      most-reflectivity = refl;
      least-halves = refl;
      no-halves = refl;
      most-halves = refl;
      least-wholes = refl;
      no-wholes = refl;
      most-wholes = refl;
      least-width = refl;
      no-width = refl;
      most-width = refl;
    }

worked : map computed table ≡ table
unfolding table new_code coding_of told_of gate_of other_of is_measurement rounded_of magnitude_of
worked = refl

angles : Angles
unfolding angle_bits to_bits round units odd size
angles = refl

times : Times
unfolding time_clauses
times = refl

pub imports : Imports
imports =
    record {
      fields = fields;
      in_order = in_order;
      worth = worth;
      worked = worked;
      angles = angles;
      times = times;
      ordered = ordered;
      brought = taken-all;
      grows = λ g s t c A C room m n short more gf sf tf cb fb. grows g s t c A C room m n short more gf sf tf cb fb;
    }

-- What the counts of an accepted old radial settle: its moments lie within its 2432 bytes, and its length of data and moment
-- number meet our rules 18 and 19. Assumes nothing.
use mathlib.Core.Path.{◌≡◌, sym}
use mathlib.Core.Bool.{true, false, not, ◌&&◌, cond}
use mathlib.Core.Logic.{dite}
use Prim.Native.Nat.{ℕ, ◌+◌, ◌*◌, ◌≤◌, ◌<◌}
use native.Mathlib.Decide.{dec_lt}
use native.Mathlib.Omega.{arith}
use lib.Dec.{eqb, leb, lit<}
use lib.IntN.{pos}
use mir.Syntax.{w32}
use borrow.Author.Tests.{leb-true, le-leb, eq-eqb, ne_eqb}
use Rattle.le.specs.Le.{int}
use Rattle.le.proofs.Tests.{both}
use Rattle.rules.specs.Ranges.{among}
use Rattle.rules.specs.Tiling.{least_moment, moment_number_clauses, moment_number_ok}
use Rattle.rules.proofs.Numbers.{inside}
use Rattle.moment.specs.Moment.{moment_size}
use Rattle.old.specs.declared.record.OldRadial.{OldRadial}
use Rattle.old.specs.declared.codes.Quantity.{Quantity}
use Rattle.old.specs.declared.codes.Quantity.TheVariants.{Reflectivity, Velocity, Width}
use Rattle.old.specs.Old.{old_size, most_reflectivity, most_doppler, counts_clauses, counts_ok}
use Rattle.old.specs.Headers.{gates_of, place_of, moment_length, moment_count}

-- ---- moments of g gates: left out, or there

-- of no gates there are no bytes and none of k moments; else the bytes of one, and all k
data Each (g k : ℕ) : Type 0 where
  none : g ≡ 0 → moment_length g ≡ 0 → cond (eqb g 0) 0 k ≡ 0 → Each g k
  some : 0 < g → moment_length g ≡ moment_size + 2 * g → cond (eqb g 0) 0 k ≡ k → Each g k

each : (g k : ℕ) → Each g k
unfolding moment_length
each g k =
    dite (dec_lt 0 g)
    (λ h. let e = ne_eqb g 0 (λ z. omega arith) in some h (rw e) (rw e))
    (λ h. let e = eq-eqb g 0 (omega arith) in none (omega arith) (rw e) (rw e))

pub length-small : (g : ℕ) → g < 65536 → moment_length g ≤ 131102
length-small g h = go (each g 0)
  where
    go : Each g 0 → moment_length g ≤ 131102
    go (none z l k) = omega arith
    go (some z l k) = omega arith

-- ---- what number 52 lets through

not-both : (r d : ℕ) → not (eqb r 0 && eqb d 0) ≡ true → 0 < r + d
not-both r d e =
    dite (dec_lt 0 (r + d)) (λ h. h)
    (λ h. let a = eq-eqb r 0 (omega arith) in let b = eq-eqb d 0 (omega arith) in
    let f : not (eqb r 0 && eqb d 0) ≡ false = rw (a, b) in
    absurd (let z : ◌≡◌ {A = ℕ} 0 1 = cc in omega arith))

pub accepted : (r d : ℕ) → counts_ok r d ≡ true → (r ≤ most_reflectivity) × (d ≤ most_doppler) × (0 < r + d)
unfolding counts_clauses
accepted r d ok =
    let a = both (leb r most_reflectivity && leb d most_doppler) (not (eqb r 0 && eqb d 0)) ok in
    let b = both (leb r most_reflectivity) (leb d most_doppler) a.0 in
    (leb-true r most_reflectivity b.0, leb-true d most_doppler b.1, not-both r d a.1)

-- every code of a moment lies within its radial, and no moment has more gates than velocity may have
module _ (o : OldRadial) (ok : counts_ok o.reflectivity o.doppler ≡ true) where
  counts : (o.reflectivity ≤ most_reflectivity) × (o.doppler ≤ most_doppler) × (0 < o.reflectivity + o.doppler)
  counts = accepted o.reflectivity o.doppler ok

  pub within : (q : Quantity) → (place_of q o + gates_of q o ≤ old_size) × (gates_of q o ≤ most_doppler)
  unfolding place_of gates_of
  within Reflectivity = (omega (arith, counts), omega (arith, counts))
  within Velocity = (omega (arith, counts), omega (arith, counts))
  within Width = (omega (arith, counts), omega (arith, counts))

-- ---- its length of data and moment number

-- between 1 and 3 moments of 33 bytes or more, 4,696 bytes at the most
record Shape (l k : ℕ) : Type 0 where
  some : 1 ≤ k
  few : k ≤ 3
  least : least_moment * k ≤ l
  most : l ≤ 4696

module _ (r d : ℕ) (ok : counts_ok r d ≡ true) where
  shape : Shape (moment_length r + 2 * moment_length d) (moment_count r d)
  unfolding moment_count
  shape = go (accepted r d ok) (each r 1) (each d 2)
    where
      go : (r ≤ most_reflectivity) × (d ≤ most_doppler) × (0 < r + d) → Each r 1 → Each d 2
          → Shape (moment_length r + 2 * moment_length d) (cond (eqb r 0) 0 1 + cond (eqb d 0) 0 2)
      go a (none z l k) (none y m j) = absurd (omega arith)
      go a (none z l k) (some y m j) = record { some = omega arith; few = omega arith; least = omega arith; most = omega arith }
      go a (some z l k) (none y m j) = record { some = omega arith; few = omega arith; least = omega arith; most = omega arith }
      go a (some z l k) (some y m j) = record { some = omega arith; few = omega arith; least = omega arith; most = omega arith }

  pub length-fine : among (pos 1) (pos 100000) (int (moment_length r + 2 * moment_length d)) ≡ true
  length-fine =
      let s = shape in
      sym (inside w32 1 100000 (moment_length r + 2 * moment_length d) (lit< tt) (omega arith) (omega arith))

  pub number-fine : moment_number_ok (moment_length r + 2 * moment_length d) (moment_count r d) ≡ true
  unfolding moment_number_clauses
  number-fine =
      let s = shape in
      let e = sym (inside w32 1 64 (moment_count r d) (lit< tt) (omega arith) (omega arith)) in
      rw (e, le-leb (least_moment * moment_count r d) (moment_length r + 2 * moment_length d) (omega arith))

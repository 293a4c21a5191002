-- A moment header, and a radial header, that can be put where hope is left, and behind which it is left. Assumes nothing.
use Prim.Native.Nat.{ℕ, zero, suc, ◌+◌, ◌-◌, ◌^◌, ◌≤◌, ◌<◌}
use native.Mathlib.Omega.{arith}
use mathlib.Core.Path.{◌≡◌, refl, sym, ap, subst}
use mathlib.Core.Bool.{Bool, true, false, cond, ◌||◌, or-true}
use lib.Dec.{eqb, lit<}
use borrow.Author.Tests.{eq-eqb, ne_eqb}
use Rattle.le.specs.Le.{Bytes, int}
use Rattle.rules.specs.Check.{Check}
use Rattle.rules.specs.Ranges.{among, is, most_radials, most_sequence, not_below_zero, on_bits}
use Rattle.rules.specs.Masks.{bit}
use Rattle.rules.specs.States.{opening, closing, state_ok}
use Rattle.rules.specs.Tiling.{length_ok, moment_number_clauses}
use Rattle.rules.proofs.Allowed.{count-allowed}
use Rattle.rules.proofs.Four.{azimuth, elevation}
use Rattle.rules.proofs.Judged.{fine-if}
use Rattle.rules.proofs.Numbers.{exact-if, opening-small, closing-small, opens-only}
use Rattle.coming.specs.Moments.{moments_can}
use Rattle.coming.specs.Radials.{radials_can, radials_can_after}
use Rattle.coming.proofs.Steps.{step-on, bin_of, some-bit}
use Rattle.coming.proofs.Radials.{radials-are, first_on, close-on}
use Rattle.cut.specs.declared.Cut.{Cut}
use Rattle.moment.specs.declared.Moment.{Moment}
use Rattle.moment.specs.Moment.{moment_check, moment_rules, moment_bytes, moment_size, MomentFits}
use Rattle.radial.specs.declared.Radial.{Radial}
use Rattle.radial.specs.Radial.{radial_check, radial_rules, radial_bytes, radial_size, RadialFits}
use Rattle.walk.specs.declared.due.Walk.{Walk}
use Rattle.walk.specs.Due.{moment_due, radial_due}
use Rattle.walk.specs.After.{after_moment, after_radial, closes_cut}
use Rattle.walk.specs.Hope.{moments_hope, radials_hope, radial_hope}
use Rattle.reading.specs.declared.step.Step.TheVariants.{Took}
use Rattle.reading.specs.Step.{settle, take_moment, take_radial, hope_after_moment, hope_after_radial, hoping, say_moment, say_radial}
use Rattle.hope.proofs.Hoped.{due_hope}
use Rattle.hope.proofs.Made.{append-bytes, number-bytes, run-bytes, zeros, zeros-length, zeros-bytes}

-- ---- a moment header, of a type and a length that leave the others what they take

pub record MomentOn (w : Walk) : Type 0 where
  pub header : Moment
  pub fits : MomentFits header
  pub bytes : Bytes (moment_bytes header)
  pub says : say_moment header w ≡ Took (after_moment header w (w.at + moment_size))

abbrev some_moment : ℕ → ℕ → ℕ → Moment
some_moment t bin n = record { data_type = t; scale = 1; offset = 0; bin_length = bin; flags = 0; length = n; reserved = zeros 12 }

bin_small : (sizes t : ℕ) → bin_of sizes t < 256 ^ 2
bin_small sizes t = go (bit sizes t)
  where
    go : (b : Bool) → cond b 2 1 < 256 ^ 2
    go true = lit< tt
    go false = lit< tt

pub moment-on : (w : Walk) → w.present.mask < 2 ^ 64 → 1 ≤ w.rest.todo → moments_hope w ≡ true → MomentOn w
unfolding take_moment moment_check moments_hope hope_after_moment hoping settle among moment_bytes
moment-on w small due h =
    let m = w.rest.todo - 1 in
    let l = w.rest.left in
    let n : suc m ≡ w.rest.todo = omega arith in
    let mask = w.present.mask in
    let sizes = w.present.sizes in
    let s = step-on mask sizes w.rest.seen m l small (subst (λ (x : ℕ). moments_can mask sizes w.rest.seen x l ≡ true) (sym n) h) in
    let t = s.kind in
    let r = some_moment t (bin_of sizes t) s.size in
    let a = s.kind-most in
    let b = s.size-most in
    record {
      header = r;
      fits = record { reserved = zeros-length 12; data_type = omega arith; scale = lit< tt; offset = lit< tt; bin_length = bin_small sizes t; flags = lit< tt; length = omega arith };
      bytes = search (append-bytes, number-bytes, run-bytes, zeros-bytes);
      says =
          rw s.still
          (ap (λ (c : Check). settle c w.at (after_moment r w (w.at + moment_size)))
          (fine-if (moment_rules r (moment_due w))
          (s.is-type, (refl, (refl, (s.is-bin, (subst (λ (x : ℕ). length_ok x l (bin_of sizes t) s.size ≡ true) n s.is-length, tt)))))));
    }

-- ---- a radial header: it opens its cut, or closes it, and has one moment of two bytes

-- the state: the cut's opening one, and afterwards its closing one
abbrev state_for : ℕ → ℕ → ℕ → ℕ → ℕ
state_for scan cuts cut in_cut = cond (eqb in_cut 0) (opening scan cut) (closing scan cuts cut)

pub record RadialOn (c : Cut) (w : Walk) : Type 0 where
  pub header : Radial
  pub fits : RadialFits header
  pub bytes : Bytes (radial_bytes header)
  pub says : say_radial header c w ≡ Took (after_radial header c.moments_mask c.size_mask w (w.at + radial_size))
  pub one : header.moment_number ≡ 1
  -- it is one of those that had to come
  pub nearer : cond (eqb header.state (closing w.plan.scan_type w.plan.cuts w.count.cut)) 0 1 + 1 ≡ cond (eqb w.count.in_cut 0) 2 1

abbrev some_radial : ℕ → ℕ → ℕ → ℕ → Radial
some_radial state sequence number cut =
    record {
      state = state;
      spot_blank = 0;
      sequence = sequence;
      radial_number = number;
      elevation_number = cut;
      azimuth = 0;
      elevation = 0;
      seconds = 0;
      microseconds = 0;
      length_of_data = 34;
      moment_number = 1;
      reserved = zeros 20;
    }

module _ (scan cuts cut : ℕ) where
  opens_not : eqb (opening scan cut) (closing scan cuts cut) ≡ false
  opens_not = ne_eqb (opening scan cut) (closing scan cuts cut) (opens-only scan cuts cut)

  closes : eqb (closing scan cuts cut) (closing scan cuts cut) ≡ true
  closes = eq-eqb (closing scan cuts cut) (closing scan cuts cut) refl

  state-ok : (in_cut : ℕ) → state_ok scan cuts cut in_cut (state_for scan cuts cut in_cut) ≡ true
  unfolding state_ok
  state-ok in_cut = go (eqb in_cut 0)
    where
      go : (b : Bool) → cond b (is (opening scan cut) (int (cond b (opening scan cut) (closing scan cuts cut))))
          (is 1 (int (cond b (opening scan cut) (closing scan cuts cut))) || is (closing scan cuts cut) (int (cond b (opening scan cut) (closing scan cuts cut)))) ≡ true
      go true = exact-if (opening scan cut) (opening scan cut) (opening-small scan cut) refl
      go false = rw (exact-if (closing scan cuts cut) (closing scan cuts cut) (closing-small scan cuts cut) refl) (or-true (is 1 (int (closing scan cuts cut))))

  state-small : (in_cut : ℕ) → state_for scan cuts cut in_cut < 2147483648
  state-small in_cut = go (eqb in_cut 0)
    where
      go : (b : Bool) → cond b (opening scan cut) (closing scan cuts cut) < 2147483648
      go true = opening-small scan cut
      go false = closing-small scan cuts cut

  -- room for the radials is room after it
  room-on : (in_cut whole : ℕ) → radials_can cuts cut in_cut whole ≡ true → radials_can_after cuts cut (eqb (state_for scan cuts cut in_cut) (closing scan cuts cut)) (suc in_cut) (suc whole) ≡ true
  room-on zero whole h = rw opens_not (first_on cuts cut whole h)
  room-on (suc n) whole h = rw (ne_eqb (suc n) 0 (λ e. omega arith), closes) (close-on cuts cut (suc n) whole (omega arith) h)

  fewer : (in_cut : ℕ) → cond (eqb (state_for scan cuts cut in_cut) (closing scan cuts cut)) 0 1 + 1 ≡ cond (eqb in_cut 0) 2 1
  fewer zero = rw opens_not
  fewer (suc n) = rw (ne_eqb (suc n) 0 (λ e. omega arith), closes)

pub radial-on : (c : Cut) (w : Walk) → 0 < c.moments_mask → c.moments_mask < 2 ^ 64 → w.count.cut ≤ 256 → due_hope w ≡ true → RadialOn c w
unfolding take_radial radial_check hope_after_radial radial_hope moments_hope radials_hope hoping due_hope closes_cut settle among not_below_zero moment_number_clauses on_bits radial_bytes
radial-on c w some small few h =
    let scan = w.plan.scan_type in
    let cuts = w.plan.cuts in
    let cut = w.count.cut in
    let in_cut = w.count.in_cut in
    let whole = w.count.whole in
    let s = (radials-are cuts cut in_cut whole).0 h in
    let layer : in_cut + 1 ≤ 1000 = omega (arith, s.most, s.due) in
    let volume : whole + 1 ≤ 65536 = omega (arith, s.room, s.due) in
    let r = some_radial (state_for scan cuts cut in_cut) (suc whole) (suc in_cut) cut in
    let st = state-small scan cuts cut in_cut in
    record {
      header = r;
      fits =
          record {
            reserved = zeros-length 20;
            state = omega arith;
            spot_blank = lit< tt;
            sequence = omega arith;
            radial_number = omega arith;
            elevation_number = omega arith;
            azimuth = lit< tt;
            elevation = lit< tt;
            seconds = lit< tt;
            microseconds = lit< tt;
            length_of_data = lit< tt;
            moment_number = lit< tt;
          };
      bytes = search (append-bytes, run-bytes, zeros-bytes);
      says =
          rw (some-bit c.moments_mask c.size_mask some small, room-on scan cuts cut in_cut whole h)
          (ap (λ (x : Check). settle x w.at (after_radial r c.moments_mask c.size_mask w (w.at + radial_size)))
          (fine-if (radial_rules r (radial_due w)) (
            state-ok scan cuts cut in_cut,
            (
              refl,
              (
                (count-allowed most_sequence whole (suc whole) (lit< tt)).1 (omega arith, omega arith),
                (
                  (count-allowed most_radials in_cut (suc in_cut) (lit< tt)).1 (omega arith, omega arith),
                  (exact-if cut cut (omega arith) refl, (azimuth 0 (lit< tt), (elevation 0 (lit< tt), (refl, (refl, (refl, (refl, tt))))))),
                ),
              ),
            ),
          )));
      one = refl;
      nearer = fewer scan cuts cut in_cut;
    }

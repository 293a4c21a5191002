-- The record of an old radial holds what its fields' bytes can hold, and the headers that it gives are such as their types hold.
-- Assumes nothing.
use mathlib.Core.Path.{refl}
use mathlib.Core.Bool.{Bool, true, false, cond}
use mathlib.Core.List.{List}
use Prim.Native.Nat.{ℕ, ◌+◌, ◌*◌, ◌≤◌, ◌<◌, ◌^◌}
use native.Mathlib.Omega.{arith}
use lib.Dec.{eqb, lit<}
use lib.Ieee.{binary32, round}
use lib.Ieee.Bits.{to_bits-lt}
use lib.Ieee.Fits.{round-fits}
use Rattle.le.specs.Le.{Bytes}
use Rattle.le.proofs.Laws.{le-lt, part_bytes}
use Rattle.radial.specs.Radial.{RadialFits}
use Rattle.moment.specs.Moment.{MomentFits}
use Rattle.old.specs.declared.record.OldRadial.{OldRadial}
use Rattle.old.specs.declared.codes.Quantity.{Quantity}
use Rattle.old.specs.declared.codes.Quantity.TheVariants.{Reflectivity, Velocity, Width}
use Rattle.old.specs.Angle.{angle_bits}
use Rattle.old.specs.Codes.{coding_of}
use Rattle.old.specs.Old.{old_header, old_of, old_at, OldFits}
use Rattle.old.specs.Headers.{moment_count, radial_from, moment_from}
use Rattle.old.proofs.Lengths.{length-small}
use Rattle.old.proofs.Times.{micros-small}

-- what bytes hold fits the record
pub old-fits : (f : List ℕ) (at : ℕ) → Bytes f → OldFits (old_at f at)
unfolding old_at old_of
old-fits f at bs = let b = part_bytes old_header f at bs in search le-lt

angle-fits : (n : ℕ) → angle_bits n < 256 ^ 4
unfolding angle_bits
angle-fits n = to_bits-lt binary32 (round binary32 false (n * 180) 32768) (round-fits binary32 false (n * 180) 32768)

count_fits : (r d : ℕ) → moment_count r d < 256 ^ 4
unfolding moment_count
count_fits r d = go (eqb r 0) (eqb d 0)
  where
    go : (a b : Bool) → cond a 0 1 + cond b 0 2 < 256 ^ 4
    go true true = omega arith
    go true false = omega arith
    go false true = omega arith
    go false false = omega arith

pub radial-fits : (o : OldRadial) (sequence number : ℕ) → OldFits o → sequence < 256 ^ 4 → number < 256 ^ 4
    → RadialFits (radial_from o sequence number)
unfolding radial_from
radial-fits o sequence number h s n =
    let st = h.state in
    let e = h.elevation_number in
    let r = length-small o.reflectivity h.reflectivity in
    let d = length-small o.doppler h.doppler in
    let m = micros-small o.milliseconds in
    record {
      reserved = refl;
      state = omega arith;
      spot_blank = lit< tt;
      sequence = s;
      radial_number = n;
      elevation_number = omega arith;
      azimuth = angle-fits o.azimuth;
      elevation = angle-fits o.elevation;
      seconds = omega arith;
      microseconds = omega arith;
      length_of_data = omega arith;
      moment_number = count_fits o.reflectivity o.doppler;
    }

-- how large the numbers of a moment's coding are
pub coding-small : (q : Quantity) (r : ℕ)
    → ((coding_of q r).data_type ≤ 4) × (1 ≤ (coding_of q r).scale) × ((coding_of q r).scale ≤ 2) × ((coding_of q r).offset ≤ 132)
unfolding coding_of
coding-small Reflectivity r = (omega arith, omega arith, omega arith, omega arith)
coding-small Velocity r = go (eqb r 4)
  where
    go : (b : Bool) → (3 ≤ 4) × (1 ≤ cond b 1 2) × (cond b 1 2 ≤ 2) × (132 ≤ 132)
    go true = (omega arith, omega arith, omega arith, omega arith)
    go false = (omega arith, omega arith, omega arith, omega arith)
coding-small Width r = (omega arith, omega arith, omega arith, omega arith)

pub moment-fits : (q : Quantity) (r n : ℕ) → n < 65536 → MomentFits (moment_from q r n)
unfolding moment_from
moment-fits q r n h =
    let c = coding-small q r in
    record {
      reserved = refl;
      data_type = omega arith;
      scale = omega arith;
      offset = omega arith;
      bin_length = lit< tt;
      flags = lit< tt;
      length = omega arith;
    }

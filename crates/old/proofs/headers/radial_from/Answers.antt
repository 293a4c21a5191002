-- Each field is what its call ensures. Assumes nothing.
use mathlib.Core.List.{[], ◌∷◌}
use Prim.Native.Nat.{◌+◌, ◌*◌}
use native.Mathlib.Omega.{arith}
use Rattle.old.specs.Headers.{radial_from}
use Rattle.old.proofs.Lengths.{length-small}
use Rattle.old.proofs.headers.radial_from.Goals as goal

pub overflow_mul-result : goal.overflow_mul-result
overflow_mul-result c =
    let o = c.args.o in
    let d = length-small o.doppler (omega arith) in
    omega (arith, c.moment_length-2.ensures)

pub overflow_add-result : goal.overflow_add-result
overflow_add-result c =
    let o = c.args.o in
    let d = length-small o.doppler (omega arith) in
    let r = length-small o.reflectivity (omega arith) in
    omega (arith, c.moment_length-2.ensures, c.moment_length.ensures)

pub returns : goal.returns
unfolding radial_from
returns c =
    let o = c.args in
    λ i. record {
      state = o.o.state;
      spot_blank = 0;
      sequence = o.sequence;
      radial_number = o.number;
      elevation_number = o.o.elevation_number;
      azimuth = c.angle.ensures i;
      elevation = c.angle-2.ensures i;
      seconds = c.seconds_low.ensures i;
      microseconds = c.micros.ensures i;
      length_of_data = c.moment_length.ensures i + 2 * c.moment_length-2.ensures i;
      moment_number = c.moment_count.ensures i;
      reserved = 0 ∷ 0 ∷ 0 ∷ 0 ∷ 0 ∷ 0 ∷ 0 ∷ 0 ∷ 0 ∷ 0 ∷ 0 ∷ 0 ∷ 0 ∷ 0 ∷ 0 ∷ 0 ∷ 0 ∷ 0 ∷ 0 ∷ 0 ∷ [];
    }

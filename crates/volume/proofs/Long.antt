-- How long a radial is: its header and the length of data, which its own rule bounds. Assumes nothing.
use Prim.Native.Nat.{ℕ, suc, ◌+◌, ◌*◌, ◌≤◌}
use native.Mathlib.Omega.{arith}
use mathlib.Core.Path.{◌≡◌, refl}
use mathlib.Core.List.{List, [], ◌∷◌}
use lib.ListN.{length, length-append}
use Rattle.le.specs.Le.{run}
use Rattle.cut.specs.declared.Cut.{Cut}
use Rattle.moment.proofs.Trips as moment-trip
use Rattle.radial.specs.declared.Radial.{Radial}
use Rattle.radial.proofs.Header.{header}
use Rattle.radial.proofs.Trips as radial-trip
use Rattle.task.specs.declared.Task.{Task}
use Rattle.volume.specs.Volume.{VolumeMoment, VolumeRadial, bytes_of_moment, bytes_of_radial, tiled, MomentsOk, RadialOk}
use Rattle.volume.specs.Meaning.{end_of}
use Rattle.volume.proofs.Each.{Each}
use Rattle.volume.proofs.Sense.{sense}

moments-long : (c : Cut) (r : Radial) (before ps : List VolumeMoment) → MomentsOk c r before ps → length (run bytes_of_moment ps) ≡ tiled ps
unfolding run
moments-long c r before [] ok = refl
moments-long c r before (p ∷ ps) ok =
    let header = moment-trip.length-is p.header ok.0 in
    let behind = ok.2 in
    let rest = moments-long c r (p ∷ before) ps ok.3 in
    simp length-append (omega arith)

module _ (t : Task) (c : Cut) (k : ℕ) where
  pub radial-long : (before in_cut : ℕ) (b : VolumeRadial) → RadialOk t c k before in_cut b → length (bytes_of_radial b) ≤ 100064
  radial-long before in_cut b ok =
      let head = radial-trip.length-is b.header ok.fits in
      let most = (header b.header _ ok.rules).long in
      let filled = sense.filled t c k before in_cut b ok in
      let moments = moments-long c b.header [] b.moments ok.moments in
      simp length-append (omega arith)

  pub layer-long : (before in_cut at : ℕ) (l : List VolumeRadial) → Each t c k before in_cut l → end_of at l ≤ at + 100064 * length l
  layer-long before in_cut at [] ok = omega arith
  layer-long before in_cut at (b ∷ bs) ok =
      let one = radial-long before in_cut b ok.0 in
      let rest = layer-long (suc before) (suc in_cut) (at + length (bytes_of_radial b)) bs ok.1 in
      omega arith

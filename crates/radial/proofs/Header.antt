-- What an accepted radial header says of its place in the volume and how far that may be, its azimuth, how long its data may be,
-- and that it announces a moment. Assumes nothing.
use Prim.Native.Nat.{◌+◌, ◌≤◌}
use mathlib.Core.Bool.{true}
use mathlib.Core.Path.{◌≡◌}
use lib.Dec.{lit<}
use mir.Syntax.{w32}
use Rattle.rules.specs.Check.{Hold}
use Rattle.rules.specs.Ranges.{is_azimuth, most_radials, most_sequence}
use Rattle.rules.proofs.Numbers.{exact, most, counts-is, counts-most, some-moment}
use Rattle.radial.specs.declared.Radial.{Radial}
use Rattle.radial.specs.declared.RadialDue.{RadialDue}
use Rattle.radial.specs.Radial.{radial_rules}

pub record Header (r : Radial) (d : RadialDue) : Type 0 where
  pub sequence : r.sequence ≡ d.before + 1
  pub number : r.radial_number ≡ d.in_cut + 1
  pub elevation : r.elevation_number ≡ d.cut
  pub azimuth : is_azimuth r.azimuth ≡ true
  pub in-volume : d.before + 1 ≤ most_sequence
  pub in-layer : d.in_cut + 1 ≤ most_radials
  pub long : r.length_of_data ≤ 100000
  pub some : 1 ≤ r.moment_number

pub header : (r : Radial) (d : RadialDue) → Hold (radial_rules r d) → Header r d
header r d h =
    record {
      sequence = counts-is most_sequence d.before r.sequence h.1.1.0;
      number = counts-is most_radials d.in_cut r.radial_number h.1.1.1.0;
      elevation = exact d.cut r.elevation_number h.1.1.1.1.0;
      azimuth = h.1.1.1.1.1.0;
      in-volume = counts-most most_sequence d.before r.sequence h.1.1.0;
      in-layer = counts-most most_radials d.in_cut r.radial_number h.1.1.1.0;
      long = most w32 1 100000 r.length_of_data (lit< tt) h.1.1.1.1.1.1.1.1.1.0;
      some = some-moment r.length_of_data r.moment_number h.1.1.1.1.1.1.1.1.1.1.0;
    }

-- The radial header block (table 3-1): its 64 bytes as a record, and back, and the rules that it must meet.
use Rattle.std.specs.Prelude.{ℕ, ◌<◌, ◌^◌, ◌≡◌, List, [], ◌∷◌, ◌++◌, length, pos, negsuc}
use Rattle.le.specs.Le.{le, bytes, part, run, int}
use Rattle.rules.specs.Ranges.{among, angle, count_clauses, is, is_azimuth, most_radials, most_sequence, not_below_zero}
use Rattle.rules.specs.States.{state_ok}
use Rattle.rules.specs.Tiling.{moment_number_clauses}
use Rattle.radial.specs.declared.Radial.{Radial}
use Rattle.radial.specs.declared.RadialDue.{RadialDue}
use Rattle.rules.specs.Check.{Check}
use Rattle.rules.specs.Check.{Rule, rule, verdict}

-- how many bytes the block has (table 3-1)
abbrev pub radial_size : ℕ
radial_size = 64

-- the record that 64 bytes hold, each field at its place
unfoldable pub radial_of : List ℕ → Radial
radial_of b =
    record {
      state = le 4 b 0;
      spot_blank = le 4 b 4;
      sequence = le 4 b 8;
      radial_number = le 4 b 12;
      elevation_number = le 4 b 16;
      azimuth = le 4 b 20;
      elevation = le 4 b 24;
      seconds = le 4 b 28;
      microseconds = le 4 b 32;
      length_of_data = le 4 b 36;
      moment_number = le 4 b 40;
      reserved = part 20 b 44;
    }

-- the record at place `at` of a file
unfoldable pub radial_at : List ℕ → ℕ → Radial
radial_at f at = radial_of (part radial_size f at)

-- the record's 64 bytes
unfoldable pub radial_bytes : Radial → List ℕ
radial_bytes r =
    run (bytes 4) (r.state ∷ r.spot_blank ∷ r.sequence ∷ r.radial_number ∷ r.elevation_number ∷ r.azimuth ∷ r.elevation ∷ r.seconds ∷ r.microseconds ∷ r.length_of_data ∷ r.moment_number ∷ [])
    ++ r.reserved

-- the record is one that its type holds
pub record RadialFits (r : Radial) : Type 0 where
  pub reserved : length r.reserved ≡ 20
  pub state : r.state < 256 ^ 4
  pub spot_blank : r.spot_blank < 256 ^ 4
  pub sequence : r.sequence < 256 ^ 4
  pub radial_number : r.radial_number < 256 ^ 4
  pub elevation_number : r.elevation_number < 256 ^ 4
  pub azimuth : r.azimuth < 256 ^ 4
  pub elevation : r.elevation < 256 ^ 4
  pub seconds : r.seconds < 256 ^ 4
  pub microseconds : r.microseconds < 256 ^ 4
  pub length_of_data : r.length_of_data < 256 ^ 4
  pub moment_number : r.moment_number < 256 ^ 4

-- its rules in byte order (table 3-1): place, size, number, clauses
abbrev pub radial_rules : Radial → RadialDue → List Rule
radial_rules r d =
    -- state (table 3-1): allowed here, by "States"
    rule 0 4 10 (state_ok d.scan_type d.cuts d.cut d.in_cut r.state ∷ [])
    -- spot blank (table 3-1): 0..1
    ∷ rule 4 4 11 (among (pos 0) (pos 1) (int r.spot_blank) ∷ [])
    -- sequence (table 3-1): 1 more than the radials before it, at most 65,536
    ∷ rule 8 4 12 (count_clauses most_sequence d.before r.sequence)
    -- radial number (table 3-1): its count in the cut, at most 1000
    ∷ rule 12 4 13 (count_clauses most_radials d.in_cut r.radial_number)
    -- elevation number (table 3-1): the cut's number
    ∷ rule 16 4 14 (is d.cut (int r.elevation_number) ∷ [])
    -- azimuth (table 3-1): 0..360
    ∷ rule 20 4 15 (is_azimuth r.azimuth ∷ [])
    -- elevation (table 3-1): -2..90
    ∷ rule 24 4 16 (angle (negsuc 1) (pos 90) r.elevation ∷ [])
    -- seconds (table 3-1): not below 0
    ∷ rule 28 4 17 (not_below_zero (int r.seconds) ∷ [])
    -- microseconds (table 3-1): 0..999,999
    ∷ rule 32 4 17 (among (pos 0) (pos 999999) (int r.microseconds) ∷ [])
    -- length of data (table 3-1): 1..100,000
    ∷ rule 36 4 18 (among (pos 1) (pos 100000) (int r.length_of_data) ∷ [])
    -- moment number (table 3-1): 1..64, and 33 times it is not over the length of data
    ∷ rule 40 4 19 (moment_number_clauses r.length_of_data r.moment_number)
    ∷ []

unfoldable pub radial_check : Radial → RadialDue → Check
radial_check r d = verdict (radial_rules r d)

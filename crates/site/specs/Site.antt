-- The site block (table 2-3): its 128 bytes as a record, and back, and the rules that it must meet.
use Rattle.std.specs.Prelude.{ℕ, ◌<◌, ◌^◌, ◌≡◌, List, [], ◌∷◌, ◌++◌, length, pos, negsuc}
use Rattle.le.specs.Le.{le, bytes, part, run}
use Rattle.rules.specs.Ranges.{angle}
use Rattle.site.specs.declared.Site.{Site}
use Rattle.rules.specs.Check.{Check}
use Rattle.rules.specs.Check.{Rule, rule, verdict}

-- how many bytes the block has (table 2-3)
abbrev pub site_size : ℕ
site_size = 128

-- the record that 128 bytes hold, each field at its place
unfoldable pub site_of : List ℕ → Site
site_of b =
    record {
      code = part 8 b 0;
      name = part 32 b 8;
      latitude = le 4 b 40;
      longitude = le 4 b 44;
      antenna_height = le 4 b 48;
      ground_height = le 4 b 52;
      frequency = le 4 b 56;
      beam_width_h = le 4 b 60;
      beam_width_v = le 4 b 64;
      rda_version = le 4 b 68;
      radar_type = le 2 b 72;
      reserved = part 54 b 74;
    }

-- the record at place `at` of a file
unfoldable pub site_at : List ℕ → ℕ → Site
site_at f at = site_of (part site_size f at)

-- the record's 128 bytes
unfoldable pub site_bytes : Site → List ℕ
site_bytes r =
    r.code
    ++ r.name
    ++ run (bytes 4) (r.latitude ∷ r.longitude ∷ r.antenna_height ∷ r.ground_height ∷ r.frequency ∷ r.beam_width_h ∷ r.beam_width_v ∷ r.rda_version ∷ [])
    ++ bytes 2 r.radar_type
    ++ r.reserved

-- the record is one that its type holds
pub record SiteFits (r : Site) : Type 0 where
  pub code : length r.code ≡ 8
  pub name : length r.name ≡ 32
  pub reserved : length r.reserved ≡ 54
  pub latitude : r.latitude < 256 ^ 4
  pub longitude : r.longitude < 256 ^ 4
  pub antenna_height : r.antenna_height < 256 ^ 4
  pub ground_height : r.ground_height < 256 ^ 4
  pub frequency : r.frequency < 256 ^ 4
  pub beam_width_h : r.beam_width_h < 256 ^ 4
  pub beam_width_v : r.beam_width_v < 256 ^ 4
  pub rda_version : r.rda_version < 256 ^ 4
  pub radar_type : r.radar_type < 256 ^ 2

-- its rules in byte order (table 2-3): place, size, number, clauses
abbrev pub site_rules : Site → List Rule
site_rules r =
    -- latitude (table 2-3): -90..90
    rule 40 4 3 (angle (negsuc 89) (pos 90) r.latitude ∷ [])
    -- longitude (table 2-3): -180..180
    ∷ rule 44 4 4 (angle (negsuc 179) (pos 180) r.longitude ∷ [])
    ∷ []

unfoldable pub site_check : Site → Check
site_check r = verdict (site_rules r)

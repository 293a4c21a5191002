-- The radial of the old shelf (document 003, SA/SB, its bytes counted from 0): its header as a record, and the rules that it must
-- meet before our writer is asked (document 02, #102).
use Rattle.std.specs.Prelude.{ℕ, ◌<◌, ◌^◌, Bool, not, ◌&&◌, ◌||◌, List, [], ◌∷◌, eqb, leb}
use Rattle.le.specs.Le.{le, part}
use Rattle.old.specs.Clock.{time_clauses}
use Rattle.old.specs.declared.record.OldRadial.{OldRadial}
use Rattle.rules.specs.Check.{Check}
use Rattle.rules.specs.Check.{Rule, rule, every, verdict}

-- how many bytes a radial has, and how many of them stand before its data (document 003)
abbrev pub old_size : ℕ
old_size = 2432

abbrev pub old_header : ℕ
old_header = 128

-- the record that a header's bytes hold, each field at its place (document 003)
unfoldable pub old_of : List ℕ → OldRadial
old_of b =
    record {
      mark = le 2 b 14;
      milliseconds = le 4 b 28;
      day = le 2 b 32;
      azimuth = le 2 b 36;
      state = le 2 b 40;
      elevation = le 2 b 42;
      elevation_number = le 2 b 44;
      reflectivity = le 2 b 54;
      doppler = le 2 b 56;
      resolution = le 2 b 70;
    }

-- the record at place `at` of the old file (document 003)
unfoldable pub old_at : List ℕ → ℕ → OldRadial
old_at f at = old_of (part old_header f at)

-- the record is one that its type holds: two bytes a field, four for the milliseconds (document 003)
pub record OldFits (o : OldRadial) : Type 0 where
  pub mark : o.mark < 256 ^ 2
  pub milliseconds : o.milliseconds < 256 ^ 4
  pub day : o.day < 256 ^ 2
  pub azimuth : o.azimuth < 256 ^ 2
  pub state : o.state < 256 ^ 2
  pub elevation : o.elevation < 256 ^ 2
  pub elevation_number : o.elevation_number < 256 ^ 2
  pub reflectivity : o.reflectivity < 256 ^ 2
  pub doppler : o.doppler < 256 ^ 2
  pub resolution : o.resolution < 256 ^ 2

-- the most gates of reflectivity, and of velocity and of width, which share one count (document 003 and document 02, #102)
abbrev pub most_reflectivity : ℕ
most_reflectivity = 460

abbrev pub most_doppler : ℕ
most_doppler = 920

-- number 52 (document 02, #102): neither count too large, and not all counts 0
unfoldable pub counts_clauses : ℕ → ℕ → List Bool
counts_clauses r d = leb r most_reflectivity ∷ leb d most_doppler ∷ not (eqb r 0 && eqb d 0) ∷ []

abbrev pub counts_ok : ℕ → ℕ → Bool
counts_ok r d = every (counts_clauses r d)

-- number 53 (document 02, #102): resolution 2 or 4
unfoldable pub resolution_ok : ℕ → Bool
resolution_ok x = eqb x 2 || eqb x 4

-- its rules in the order of document 02, #102: place, size, number, clauses. A refusal is told at the radial's own first byte, so
-- each rule has the whole header for its field.
abbrev pub old_rules : OldRadial → List Rule
old_rules o =
    -- radar mark (document 003): 1
    rule 0 old_header 51 (eqb o.mark 1 ∷ [])
    -- day and milliseconds (document 003): a time that our header can hold
    ∷ rule 0 old_header 62 (time_clauses o.day o.milliseconds)
    -- gate counts (document 003): at most 460 and 920, not all 0
    ∷ rule 0 old_header 52 (counts_clauses o.reflectivity o.doppler)
    -- resolution of velocity (document 003): 2 or 4, whatever the counts
    ∷ rule 0 old_header 53 (resolution_ok o.resolution ∷ [])
    ∷ []

unfoldable pub old_check : OldRadial → Check
old_check o = verdict (old_rules o)

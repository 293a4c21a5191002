-- The moment header block (table 3-2): its 32 bytes as a record, and back, and the rules that it must meet.
use Rattle.std.specs.Prelude.{ℕ, ◌<◌, ◌^◌, ◌≡◌, List, [], ◌∷◌, ◌++◌, length, pos}
use Rattle.le.specs.Le.{le, bytes, part, run, int}
use Rattle.rules.specs.Ranges.{among}
use Rattle.rules.specs.Masks.{bin_length_clauses, type_clauses}
use Rattle.rules.specs.Tiling.{length_clauses, moment_header}
use Rattle.moment.specs.declared.Moment.{Moment}
use Rattle.moment.specs.declared.MomentDue.{MomentDue}
use Rattle.rules.specs.Check.{Check}
use Rattle.rules.specs.Check.{Rule, rule, verdict}

-- how many bytes the block has (table 3-2)
abbrev pub moment_size : ℕ
moment_size = moment_header

-- the record that 32 bytes hold, each field at its place
unfoldable pub moment_of : List ℕ → Moment
moment_of b =
    record {
      data_type = le 4 b 0;
      scale = le 4 b 4;
      offset = le 4 b 8;
      bin_length = le 2 b 12;
      flags = le 2 b 14;
      length = le 4 b 16;
      reserved = part 12 b 20;
    }

-- the record at place `at` of a file
unfoldable pub moment_at : List ℕ → ℕ → Moment
moment_at f at = moment_of (part moment_size f at)

-- the record's 32 bytes
unfoldable pub moment_bytes : Moment → List ℕ
moment_bytes r =
    run (bytes 4) (r.data_type ∷ r.scale ∷ r.offset ∷ [])
    ++ run (bytes 2) (r.bin_length ∷ r.flags ∷ [])
    ++ bytes 4 r.length
    ++ r.reserved

-- the record is one that its type holds
pub record MomentFits (r : Moment) : Type 0 where
  pub reserved : length r.reserved ≡ 12
  pub data_type : r.data_type < 256 ^ 4
  pub scale : r.scale < 256 ^ 4
  pub offset : r.offset < 256 ^ 4
  pub bin_length : r.bin_length < 256 ^ 2
  pub flags : r.flags < 256 ^ 2
  pub length : r.length < 256 ^ 4

-- its rules in byte order (table 3-2): place, size, number, clauses
abbrev pub moment_rules : Moment → MomentDue → List Rule
moment_rules r d =
    -- data type (table 3-2): 1..64, not seen before, in the cut's moments mask
    rule 0 4 20 (type_clauses d.mask d.seen r.data_type)
    -- scale (table 3-2): 1..32,768
    ∷ rule 4 4 21 (among (pos 1) (pos 32768) (int r.scale) ∷ [])
    -- offset (table 3-2): 0..32,768
    ∷ rule 8 4 22 (among (pos 0) (pos 32768) (int r.offset) ∷ [])
    -- bin length (table 3-2): 1 or 2, by the cut's size mask
    ∷ rule 12 2 23 (bin_length_clauses d.sizes r.data_type r.bin_length)
    -- length (table 3-2): 1..32,768, a multiple of bin length, right for the tiling
    ∷ rule 16 4 24 (length_clauses d.todo d.left r.bin_length r.length)
    ∷ []

unfoldable pub moment_check : Moment → MomentDue → Check
moment_check r d = verdict (moment_rules r d)

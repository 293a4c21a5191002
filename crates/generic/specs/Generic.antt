-- The generic header block (table 2-2): its 32 bytes as a record, and back, and the rules that it must meet.
use Rattle.std.specs.Prelude.{ℕ, ◌<◌, ◌^◌, ◌≡◌, List, [], ◌∷◌, ◌++◌, length}
use Rattle.le.specs.Le.{le, bytes, part, run, int}
use Rattle.rules.specs.Ranges.{is}
use Rattle.generic.specs.declared.Generic.{Generic}
use Rattle.rules.specs.Check.{Check}
use Rattle.rules.specs.Check.{Rule, rule, verdict}

-- how many bytes the block has (table 2-2)
abbrev pub generic_size : ℕ
generic_size = 32

-- the record that 32 bytes hold, each field at its place
unfoldable pub generic_of : List ℕ → Generic
generic_of b =
    record {
      magic = le 4 b 0;
      major = le 2 b 4;
      minor = le 2 b 6;
      generic_type = le 4 b 8;
      product_type = le 4 b 12;
      reserved = part 16 b 16;
    }

-- the record at place `at` of a file
unfoldable pub generic_at : List ℕ → ℕ → Generic
generic_at f at = generic_of (part generic_size f at)

-- the record's 32 bytes
unfoldable pub generic_bytes : Generic → List ℕ
generic_bytes r =
    bytes 4 r.magic
    ++ run (bytes 2) (r.major ∷ r.minor ∷ [])
    ++ run (bytes 4) (r.generic_type ∷ r.product_type ∷ [])
    ++ r.reserved

-- the record is one that its type holds
pub record GenericFits (r : Generic) : Type 0 where
  pub reserved : length r.reserved ≡ 16
  pub magic : r.magic < 256 ^ 4
  pub major : r.major < 256 ^ 2
  pub minor : r.minor < 256 ^ 2
  pub generic_type : r.generic_type < 256 ^ 4
  pub product_type : r.product_type < 256 ^ 4

-- its rules in byte order (table 2-2): place, size, number, clauses
abbrev pub generic_rules : Generic → List Rule
generic_rules r =
    -- magic (table 2-2): the magic
    rule 0 4 1 (is 0x4D545352 (int r.magic) ∷ [])
    -- generic type (table 2-2): 1
    ∷ rule 8 4 2 (is 1 (int r.generic_type) ∷ [])
    ∷ []

unfoldable pub generic_check : Generic → Check
generic_check r = verdict (generic_rules r)

-- Masks (document 01): which types a cut has, and how many bytes a gate of each takes (numbers 20 and 23).
use Rattle.std.specs.Prelude.{Bool, true, not, ◌&&◌, cond, List, [], ◌∷◌, ℕ, ◌-◌, ◌/◌, ◌%◌, ◌^◌, eqb, pos}
use Rattle.std.specs.Int.Bits.{bit_or}
use Rattle.le.specs.Le.{int, short}
use Rattle.rules.specs.Check.{every}
use Rattle.rules.specs.Ranges.{among, is, within}

-- type t is bit t - 1 of a mask, the lowest bit being type 1
unfoldable pub bit : ℕ → ℕ → Bool
bit mask t = within 1 64 t && eqb (mask / 2 ^ (t - 1) % 2) 1

-- the mask with the bit of type t set
unfoldable pub with_bit : ℕ → ℕ → ℕ
with_bit mask t = cond (within 1 64 t) (bit_or mask (2 ^ (t - 1))) mask

-- number 20: a type 1..64, not seen before in this radial, whose bit the cut's moments mask has
unfoldable pub type_clauses : ℕ → ℕ → ℕ → List Bool
type_clauses mask seen t = among (pos 1) (pos 64) (int t) ∷ not (bit seen t) ∷ bit mask t ∷ []

abbrev pub type_ok : ℕ → ℕ → ℕ → Bool
type_ok mask seen t = every (type_clauses mask seen t)

-- number 23: 1 byte a gate where the type's bit of the size mask is 0, 2 where it is 1
unfoldable pub bin_length_clauses : ℕ → ℕ → ℕ → List Bool
bin_length_clauses sizes t bin = cond (bit sizes t) true (is 1 (short bin)) ∷ cond (bit sizes t) (is 2 (short bin)) true ∷ []

abbrev pub bin_length_ok : ℕ → ℕ → ℕ → Bool
bin_length_ok sizes t bin = every (bin_length_clauses sizes t bin)

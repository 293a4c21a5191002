-- When a field is in its range (document 01, "Field rules and refusal numbers").
use Rattle.std.specs.Prelude.{Bool, ◌&&◌, ◌||◌, List, [], ◌∷◌, ℕ, ◌+◌, leb, Float, ℤ, pos}
use Rattle.std.specs.Float.{binary32}
use Rattle.std.specs.Float.Ieee.{of_bits, of_int, le}
use Rattle.std.specs.Int.Signed.{le_z}
use Rattle.le.specs.Le.{int}
use Rattle.rules.specs.Check.{every}

-- from lo to hi, both counted in: "lo..hi"
unfoldable pub among : ℤ → ℤ → ℤ → Bool
among lo hi z = le_z lo z && le_z z hi

-- exactly n
abbrev pub is : ℕ → ℤ → Bool
is n z = among (pos n) (pos n) z

-- the same range of a number that has no sign
unfoldable pub within : ℕ → ℕ → ℕ → Bool
within lo hi x = leb lo x && leb x hi

-- numbers 7 and 17: not below 0
unfoldable pub not_below_zero : ℤ → Bool
not_below_zero z = le_z (pos 0) z

-- numbers 12 and 13: n is one more than what was counted before it, and that is not past the most
unfoldable pub count_clauses : ℕ → ℕ → ℕ → List Bool
count_clauses most before n = is (before + 1) (int n) ∷ leb (before + 1) most ∷ []

abbrev pub counts : ℕ → ℕ → ℕ → Bool
counts most before n = every (count_clauses most before n)

-- number 12: the most radials that a volume may have, which is how far the sequence goes (document 02, #106)
abbrev pub most_sequence : ℕ
most_sequence = 65536

-- number 13: the most radials that a cut may have
abbrev pub most_radials : ℕ
most_radials = 1000

-- numbers 3, 4, 15 and 16, by the value: the IEEE single with these bits lies between two whole numbers. A NaN lies in no
-- range, and minus zero is zero.
unfoldable pub between : Float → Float → Float → Bool
between lo hi x = le lo x && le x hi

unfoldable pub angle : ℤ → ℤ → ℕ → Bool
angle lo hi bits = between (of_int binary32 lo) (of_int binary32 hi) (of_bits binary32 bits)

-- number 15: 0..360. What lies in a wedge (document 02, #114) is an azimuth first
abbrev pub is_azimuth : ℕ → Bool
is_azimuth bits = angle (pos 0) (pos 360) bits

-- the same four on the bits alone (document 02, #105). Up to the infinities a single's size goes up with its bits, as whole
-- numbers; so a range that holds zero is two runs of bits: with the sign clear from plus zero to the bits of its upper end, with
-- the sign set from minus zero to those of its lower end. An infinity and a NaN lie past every end.
unfoldable pub on_bits : ℕ → ℕ → ℕ → Bool
on_bits upper lower bits = leb bits upper || within 0x8000_0000 lower bits

-- -90..90, -180..180, 0..360 (of the lower run minus zero alone) and -2..90
abbrev pub latitude_bits : ℕ → Bool
latitude_bits bits = on_bits 0x42B4_0000 0xC2B4_0000 bits

abbrev pub longitude_bits : ℕ → Bool
longitude_bits bits = on_bits 0x4334_0000 0xC334_0000 bits

abbrev pub azimuth_bits : ℕ → Bool
azimuth_bits bits = on_bits 0x43B4_0000 0x8000_0000 bits

abbrev pub elevation_bits : ℕ → Bool
elevation_bits bits = on_bits 0x42B4_0000 0xC000_0000 bits

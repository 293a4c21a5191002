-- Wedges of azimuths (document 02, #114): a start and an end in hundredths of a degree, against the exact value of a single.
use Rattle.std.specs.Prelude.{◌≡◌, Bool, true, false, not, ◌&&◌, ◌||◌, cond, ℕ, ◌*◌, eqb, leb, ltb, Float, pos}
use Rattle.std.specs.Float.{nan, inf, fin, binary32}
use Rattle.std.specs.Float.Ieee.{of_bits, up, down}
use Rattle.rules.specs.Ranges.{is_azimuth}
use Rattle.wedge.specs.declared.Wedge.{Wedge}

-- the hundredths of a degree of the full circle
abbrev pub circle : ℕ
circle = 36000

-- number 61: start and end are 0..35,999
unfoldable pub wedge_ok : Wedge → Bool
wedge_ok w = ltb w.start circle && ltb w.end circle

-- whether a hundred times the value is n or more. A finite value is m * 2 ^ e, and 2 ^ e is the fraction up e / down e: both sides
-- are whole numbers, and nothing is rounded. Below zero none is, and minus zero is zero.
unfoldable pub reaches : ℕ → Float → Bool
reaches n nan = false
reaches n (inf s) = not s
reaches n (fin false m e) = leb (n * down e) (100 * (m * up e))
reaches n (fin true m e) = eqb m 0 && eqb n 0

-- r is the whole part of a hundred times the value: it reaches what r reaches
abbrev pub Whole : Float → ℕ → Type 0
Whole x r = (n : ℕ) → reaches n x ≡ leb n r

-- 360 counts as 0
unfoldable pub turned : Float → Float
turned x = cond (reaches circle x) (fin false 0 (pos 0)) x

-- from the start, counted in, to the end, left out; through north where the end is not above the start. Equal ends are the full
-- circle: what does not reach the start lies before the end
unfoldable pub between : ℕ → ℕ → Float → Bool
between start end x = cond (ltb start end) (reaches start x && not (reaches end x)) (reaches start x || not (reaches end x))

-- the azimuth with these bits lies in the wedge; what is no azimuth lies in none
unfoldable pub in_wedge : Wedge → ℕ → Bool
in_wedge w bits = is_azimuth bits && between w.start w.end (turned (of_bits binary32 bits))

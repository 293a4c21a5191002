-- The angle of an old radial (document 02, #102; document 003, SA/SB): n times 180 over 32,768 as a single.
use Rattle.std.specs.Prelude.{ℕ, ◌*◌, false}
use Rattle.std.specs.Float.{binary32}
use Rattle.std.specs.Float.Ieee.{round, of_bits, to_bits}
use Rattle.std.specs.Float.Ieee.Exact.{HasValue}

-- the bits of the single nearest to it (document 02, #102)
unfoldable pub angle_bits : ℕ → ℕ
angle_bits n = to_bits binary32 (round binary32 false (n * 180) 32768)

-- a single with these bits is the angle exactly (document 02, #102): finite, with no sign, and in size n * 180 / 32,768
abbrev pub IsAngle : ℕ → ℕ → Type 0
IsAngle n bits = HasValue (of_bits binary32 bits) false (n * 180) 32768

-- What an old code means (document 003, SA/SB), what we write for it, and when the two agree (document 02, #102).
use Rattle.std.specs.Prelude.{ℕ, ◌+◌, ◌*◌, ◌<◌, ◌≡◌, cond, List, [], ◌∷◌, eqb, ltb, ℤ, pos, ◌-ℤ◌, ◌*ℤ◌, get_or}
use Rattle.le.specs.Le.{bytes}
use Rattle.gates.specs.declared.Coding.{Coding}
use Rattle.gates.specs.declared.Told.{Told}
use Rattle.gates.specs.Gates.{told_gate}
use Rattle.old.specs.declared.codes.Quantity.{Quantity}
use Rattle.old.specs.declared.codes.Quantity.TheVariants.{Reflectivity, Velocity, Width}

-- ---- what an old code means, by document 003 alone

-- an exact fraction, not reduced, since the formulas of document 003 are taken as they stand
pub record Fraction : Type 0 where
  pub upper : ℤ
  pub lower : ℕ

abbrev pub over : ℤ → ℕ → Fraction
over a b = record { upper = a; lower = b }

-- a / b - c / d, for those formulas
abbrev pub less : Fraction → Fraction → Fraction
less p q = over (p.upper *ℤ pos q.lower -ℤ q.upper *ℤ pos p.lower) (p.lower * q.lower)

-- two fractions of one value, by multiplying crosswise ("exact value", document 02, #102)
abbrev pub Same : Fraction → Fraction → Type 0
Same p q = p.upper *ℤ pos q.lower ≡ q.upper *ℤ pos p.lower

-- document 003: reflectivity (v - 2) / 2. - 32; velocity (v - 2) / 2. - 63.5 at resolution 0.5, and (v - 2) - 127 at resolution
-- 1.0, which the field tells by a 4; width (v - 2) / 2. - 63.5
unfoldable pub formula : Quantity → ℕ → ℕ → Fraction
formula Reflectivity resolution v = less (over (pos v -ℤ pos 2) 2) (over (pos 32) 1)
formula Velocity resolution v =
    cond (eqb resolution 4)
    (less (over (pos v -ℤ pos 2) 1) (over (pos 127) 1))
    (less (over (pos v -ℤ pos 2) 2) (over (pos 635) 10))
formula Width resolution v = less (over (pos v -ℤ pos 2) 2) (over (pos 635) 10)

-- the three things that a code can say (document 003)
pub data Meaning : Type 0 where
  no_echo : Meaning
  folded : Meaning
  worth : Fraction → Meaning

-- 0 is no echo, 1 is range folded, any other code a value (document 003)
unfoldable pub meaning : Quantity → ℕ → ℕ → Meaning
meaning q resolution v = get_or (no_echo ∷ folded ∷ []) v (worth (formula q resolution v))

-- ---- what we write

-- 0 and 1 stay, any other code is raised by 3 (document 02, #102)
unfoldable pub new_code : ℕ → ℕ
new_code v = cond (ltb v 2) v (v + 3)

-- in two bytes (document 02, #102)
unfoldable pub new_bytes : ℕ → List ℕ
new_bytes v = bytes 2 (new_code v)

-- the type, scale and offset of each moment (document 02, #102). No accepted radial has another resolution than 2 or 4 (number
-- 53).
unfoldable pub coding_of : Quantity → ℕ → Coding
coding_of Reflectivity resolution = record { data_type = 2; scale = 2; offset = 69 }
coding_of Velocity resolution = record { data_type = 3; scale = cond (eqb resolution 4) 1 2; offset = 132 }
coding_of Width resolution = record { data_type = 4; scale = 2; offset = 132 }

-- ---- a kind of ours, with a difference and a scale, says what the old code means: the same kind and, of a value, exactly the same
-- value (document 02, #102)
abbrev pub Says : ℕ → ℤ → ℕ → Meaning → Type 0
Says kind difference scale no_echo = kind ≡ 0
Says kind difference scale folded = kind ≡ 1
Says kind difference scale (worth q) = (kind ≡ 5) × (0 < scale) × (0 < q.lower) × Same (over difference scale) q

-- and so does what the gate question tells (document 02, #102)
abbrev pub Tells : Told → Meaning → Type 0
Tells t m = Says (told_gate t.gate).0 t.difference t.scale m

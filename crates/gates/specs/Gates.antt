-- What a gate's code says (document 01, "What reading tells"; document 02, #101). Each definition has the whole coding, the
-- type with it.
use Rattle.std.specs.Prelude.{ℕ, suc, ◌+◌, ◌*◌, ◌/◌, Bool, false, cond, not, ◌||◌, [], ◌∷◌, eqb, get_or, ℤ, pos, negsuc, neg_ℤ, ◌-ℤ◌, Float}
use Rattle.std.specs.Float.{fin, binary64}
use Rattle.std.specs.Float.Ieee.{div, of_int}
use Rattle.gates.specs.declared.Coding.{Coding}
use Rattle.gates.specs.declared.Gate.{Gate}
use Rattle.gates.specs.declared.Gate.TheVariants.{BelowThreshold, RangeFolded, NotScanned, Unknown, Reserved, Value, Class}
use Rattle.gates.specs.declared.Told.{Told}

-- whether the codes of a type are measurements: those of types 14 (HCL) and 15 (CF) are classes and flags
unfoldable pub is_measurement : ℕ → Bool
is_measurement t = not (eqb t 14 || eqb t 15)

-- the fraction's upper number, the code less the offset
abbrev pub difference_of : Coding → ℕ → ℤ
difference_of c code = pos code -ℤ pos c.offset

-- one division in double precision, of the difference by the scale. By 0, as no accepted header has it, nothing is divided, since 0
-- over 0 is an invalid operation (document 02, #105): it is plus zero, as the hundredths are 0
unfoldable pub float_of : Coding → ℕ → Float
float_of c code = cond (eqb c.scale 0) (fin false 0 (pos 0)) (div binary64 (of_int binary64 (difference_of c code)) (of_int binary64 (pos c.scale)))

-- a code that is not special: a value with its float where the type is a measurement, a class with the raw code where not
unfoldable pub other_of : Coding → ℕ → Gate
other_of c code = cond (is_measurement c.data_type) (Value (float_of c code)) (Class code)

-- the five special codes 0 to 4 in their order, of every type; then any other code
unfoldable pub gate_of : Coding → ℕ → Gate
gate_of c code = get_or (BelowThreshold ∷ RangeFolded ∷ NotScanned ∷ Unknown ∷ Reserved ∷ []) code (other_of c code)

-- what a gate carries beside its kind
pub data Carried : Type 0 where
  nothing : Carried
  its-float : Float → Carried
  its-code : ℕ → Carried

-- the number by which a row shows each case, and what it carries
abbrev pub told_gate : Gate → ℕ × Carried
told_gate BelowThreshold = (0, nothing)
told_gate RangeFolded = (1, nothing)
told_gate NotScanned = (2, nothing)
told_gate Unknown = (3, nothing)
told_gate Reserved = (4, nothing)
told_gate (Value x) = (5, its-float x)
told_gate (Class code) = (6, its-code code)

-- the kind of a code's gate
abbrev pub kind_of : Coding → ℕ → ℕ
kind_of c code = (told_gate (gate_of c code)).0

-- 100 * n / scale to the nearest whole number, a half going up; a number over 0 is 0 here, and no accepted header has scale 0
unfoldable pub magnitude_of : ℕ → ℕ → ℕ
magnitude_of n scale = (200 * n + scale) / (2 * scale)

-- the same of a signed number, so that a half goes away from zero on both sides
unfoldable pub rounded_of : ℤ → ℕ → ℤ
rounded_of (pos n) scale = pos (magnitude_of n scale)
rounded_of (negsuc n) scale = neg_ℤ (pos (magnitude_of (suc n) scale))

-- a value in hundredths
abbrev pub hundredths_of : Coding → ℕ → ℤ
hundredths_of c code = rounded_of (difference_of c code) c.scale

-- whether a gate is a value
abbrev pub is_value : Gate → Bool
is_value g = eqb (told_gate g).0 5

-- the gate, its fraction as two whole numbers, not reduced, and its hundredths; zeros where the gate is no value
unfoldable pub told_of : Coding → ℕ → Told
told_of c code = record {
  gate = gate_of c code;
  difference = cond (is_value (gate_of c code)) (difference_of c code) (pos 0);
  scale = cond (is_value (gate_of c code)) c.scale 0;
  hundredths = cond (is_value (gate_of c code)) (hundredths_of c code) (pos 0);
}

-- the values of a gate's answer: its case by `told_gate`, the fraction's two numbers, the hundredths
pub record Values : Type 0 where
  pub gate : ℕ × Carried
  pub difference : ℤ
  pub scale : ℕ
  pub hundredths : ℤ

-- what is told of a gate, by its values
abbrev pub values_of : Told → Values
values_of t = record { gate = told_gate t.gate; difference = t.difference; scale = t.scale; hundredths = t.hundredths }

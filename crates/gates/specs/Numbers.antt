-- The numbers marked P (document 01, "Numbers to try"), as one table.
use Rattle.std.specs.Prelude.{true, false, List, [], ◌∷◌, ℕ, ℤ, pos, negsuc, neg_ℤ, length, get_or, Float}
use Rattle.std.specs.Float.{fin}
use Rattle.gates.specs.declared.Coding.{Coding}
use Rattle.gates.specs.declared.Gate.{Gate}
use Rattle.gates.specs.declared.Gate.TheVariants.{BelowThreshold, RangeFolded, Reserved, Value}
use Rattle.gates.specs.declared.Told.{Told}
use Rattle.gates.specs.Gates.{told_of}
use Rattle.gates.specs.Codes.{codes_of}

-- a line: scale, offset, and the bytes of one code; then the code, and all that is told of it
pub data Line : Type 0 where
  line : ℕ → ℕ → List ℕ → ℕ → Told → Line

-- the coding of a line; type 2, reflectivity, stands for any measurement
abbrev pub coding_of : ℕ → ℕ → Coding
coding_of scale offset = record { data_type = 2; scale = scale; offset = offset }

-- a line's code as the definitions have it, the bin length being the number of its bytes
abbrev pub code_in : List ℕ → ℕ
code_in bytes = get_or (codes_of (length bytes) bytes) 0 0

-- a line as the definitions have it
abbrev pub as_defined : Line → Line
as_defined (line s o bytes code told) = line s o bytes (code_in bytes) (told_of (coding_of s o) (code_in bytes))

-- a special code
abbrev pub special : Gate → Told
special g = record { gate = g; difference = pos 0; scale = 0; hundredths = pos 0 }

-- a value: its float, which is plus or minus m * 2 ^ e; the fraction's two numbers; the hundredths
abbrev pub value : Float → ℤ → ℕ → ℤ → Told
value x n d h = record { gate = Value x; difference = n; scale = d; hundredths = h }

-- the table, in the order of document 01; the last line but one has the code of two bytes, 05 01
unfoldable pub table : List Line
table =
    line 2 66 (0 ∷ []) 0 (special BelowThreshold)
    ∷ line 2 66 (1 ∷ []) 1 (special RangeFolded)
    ∷ line 2 66 (4 ∷ []) 4 (special Reserved)
    ∷ line 2 66 (5 ∷ []) 5 (value (fin true 61 (negsuc 0)) (neg_ℤ (pos 61)) 2 (neg_ℤ (pos 3050)))
    ∷ line 2 66 (66 ∷ []) 66 (value (fin false 0 (pos 0)) (pos 0) 2 (pos 0))
    ∷ line 2 66 (255 ∷ []) 255 (value (fin false 189 (negsuc 0)) (pos 189) 2 (pos 9450))
    ∷ line 16 130 (129 ∷ []) 129 (value (fin true 1 (negsuc 3)) (neg_ℤ (pos 1)) 16 (neg_ℤ (pos 6)))
    ∷ line 16 130 (131 ∷ []) 131 (value (fin false 1 (negsuc 3)) (pos 1) 16 (pos 6))
    ∷ line 8 100 (101 ∷ []) 101 (value (fin false 1 (negsuc 2)) (pos 1) 8 (pos 13))
    ∷ line 8 100 (99 ∷ []) 99 (value (fin true 1 (negsuc 2)) (neg_ℤ (pos 1)) 8 (neg_ℤ (pos 13)))
    ∷ line 1 0 (5 ∷ 1 ∷ []) 261 (value (fin false 261 (pos 0)) (pos 261) 1 (pos 26100))
    ∷ line 1 32768 (5 ∷ 0 ∷ []) 5 (value (fin true 32763 (pos 0)) (neg_ℤ (pos 32763)) 1 (neg_ℤ (pos 3276300)))
    ∷ []

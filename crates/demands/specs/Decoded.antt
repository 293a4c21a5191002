-- Rows that somebody decoded (document 02, #112): two lists, kinds and hundredths, against the row of a radial and type. 30 and 31 are
-- in `One`, what growth keeps in `Three`. Both lists are lent only to be read.
use Rattle.std.specs.Prelude.{ℕ, List, [], ◌∷◌, map, ◌≡◌, ℤ, pos, negsuc}
use Rattle.gates.specs.declared.Coding.{Coding}
use Rattle.decoded.specs.Decoded.{Checked, same, differs, checked}
use Rattle.decoded.specs.Exactly.{Exactly, FilledIsRow}

-- a line: a coding and some codes, two lists, and what is said of them
pub data Line : Type 0 where
  line : Coding → List ℕ → List ℕ → List ℤ → Checked → Line

abbrev pub computed : Line → Line
computed (line c codes k h x) = line c codes k h (checked c codes k h)

-- codes less 66 over 200: no echo, not scanned, then -0.5, 0, 0.5 and 117 hundredths, halves away from zero
abbrev pub measured : List ℕ → List ℤ → Checked → Line
measured = line (record { data_type = 2; scale = 200; offset = 66 }) (0 ∷ 2 ∷ 65 ∷ 66 ∷ 67 ∷ 300 ∷ [])

-- reserved, then classes 5 and 300
abbrev pub classed : List ℕ → List ℤ → Checked → Line
classed = line (record { data_type = 14; scale = 1; offset = 0 }) (4 ∷ 5 ∷ 300 ∷ [])

unfoldable pub table : List Line
table =
    measured (0 ∷ 2 ∷ 5 ∷ 5 ∷ 5 ∷ 5 ∷ []) (pos 0 ∷ pos 0 ∷ negsuc 0 ∷ pos 0 ∷ pos 1 ∷ pos 117 ∷ []) same
    -- a wrong kind with the right hundredths, at the first, a middle and the last gate
    ∷ measured (2 ∷ 2 ∷ 5 ∷ 5 ∷ 5 ∷ 5 ∷ []) (pos 0 ∷ pos 0 ∷ negsuc 0 ∷ pos 0 ∷ pos 1 ∷ pos 117 ∷ []) (differs 0)
    ∷ measured (0 ∷ 2 ∷ 5 ∷ 0 ∷ 5 ∷ 5 ∷ []) (pos 0 ∷ pos 0 ∷ negsuc 0 ∷ pos 0 ∷ pos 1 ∷ pos 117 ∷ []) (differs 3)
    ∷ measured (0 ∷ 2 ∷ 5 ∷ 5 ∷ 5 ∷ 6 ∷ []) (pos 0 ∷ pos 0 ∷ negsuc 0 ∷ pos 0 ∷ pos 1 ∷ pos 117 ∷ []) (differs 5)
    -- and the other way round
    ∷ measured (0 ∷ 2 ∷ 5 ∷ 5 ∷ 5 ∷ 5 ∷ []) (negsuc 32 ∷ pos 0 ∷ negsuc 0 ∷ pos 0 ∷ pos 1 ∷ pos 117 ∷ []) (differs 0)
    ∷ measured (0 ∷ 2 ∷ 5 ∷ 5 ∷ 5 ∷ 5 ∷ []) (pos 0 ∷ pos 0 ∷ pos 0 ∷ pos 0 ∷ pos 1 ∷ pos 117 ∷ []) (differs 2)
    ∷ measured (0 ∷ 2 ∷ 5 ∷ 5 ∷ 5 ∷ 5 ∷ []) (pos 0 ∷ pos 0 ∷ negsuc 0 ∷ pos 0 ∷ negsuc 0 ∷ pos 117 ∷ []) (differs 4)
    ∷ measured (0 ∷ 2 ∷ 5 ∷ 5 ∷ 5 ∷ 5 ∷ []) (pos 0 ∷ pos 0 ∷ negsuc 0 ∷ pos 0 ∷ pos 1 ∷ pos 118 ∷ []) (differs 5)
    -- two differences
    ∷ measured (0 ∷ 2 ∷ 5 ∷ 4 ∷ 5 ∷ 5 ∷ []) (pos 0 ∷ pos 0 ∷ negsuc 0 ∷ pos 0 ∷ pos 0 ∷ pos 117 ∷ []) (differs 3)
    ∷ measured (0 ∷ 2 ∷ 5 ∷ 5 ∷ 4 ∷ 5 ∷ []) (pos 0 ∷ pos 0 ∷ negsuc 0 ∷ pos 1 ∷ pos 1 ∷ pos 117 ∷ []) (differs 3)
    -- no entry; one too few, in either list; one too many, in either and in both
    ∷ measured [] [] (differs 0)
    ∷ measured [] (pos 0 ∷ pos 0 ∷ negsuc 0 ∷ pos 0 ∷ pos 1 ∷ pos 117 ∷ []) (differs 0)
    ∷ measured (0 ∷ 2 ∷ 5 ∷ 5 ∷ 5 ∷ []) (pos 0 ∷ pos 0 ∷ negsuc 0 ∷ pos 0 ∷ pos 1 ∷ pos 117 ∷ []) (differs 5)
    ∷ measured (0 ∷ 2 ∷ 5 ∷ 5 ∷ 5 ∷ 5 ∷ []) (pos 0 ∷ pos 0 ∷ negsuc 0 ∷ pos 0 ∷ pos 1 ∷ []) (differs 5)
    ∷ measured (0 ∷ 2 ∷ 5 ∷ 5 ∷ 5 ∷ 5 ∷ 0 ∷ []) (pos 0 ∷ pos 0 ∷ negsuc 0 ∷ pos 0 ∷ pos 1 ∷ pos 117 ∷ []) (differs 6)
    ∷ measured (0 ∷ 2 ∷ 5 ∷ 5 ∷ 5 ∷ 5 ∷ []) (pos 0 ∷ pos 0 ∷ negsuc 0 ∷ pos 0 ∷ pos 1 ∷ pos 117 ∷ pos 0 ∷ []) (differs 6)
    ∷ measured (0 ∷ 2 ∷ 5 ∷ 5 ∷ 5 ∷ 5 ∷ 0 ∷ []) (pos 0 ∷ pos 0 ∷ negsuc 0 ∷ pos 0 ∷ pos 1 ∷ pos 117 ∷ pos 0 ∷ []) (differs 6)
    -- a difference before the end of a list, and one behind it
    ∷ measured (0 ∷ 2 ∷ 5 ∷ 5 ∷ 5 ∷ []) (pos 0 ∷ pos 1 ∷ negsuc 0 ∷ pos 0 ∷ pos 1 ∷ pos 117 ∷ []) (differs 1)
    ∷ measured (0 ∷ 2 ∷ 5 ∷ []) (pos 0 ∷ pos 0 ∷ negsuc 0 ∷ pos 0 ∷ pos 0 ∷ pos 117 ∷ []) (differs 3)
    -- classes: not values, and not the raw code
    ∷ classed (4 ∷ 6 ∷ 6 ∷ []) (pos 0 ∷ pos 0 ∷ pos 0 ∷ []) same
    ∷ classed (4 ∷ 5 ∷ 6 ∷ []) (pos 0 ∷ pos 0 ∷ pos 0 ∷ []) (differs 1)
    ∷ classed (4 ∷ 6 ∷ 6 ∷ []) (pos 0 ∷ pos 0 ∷ pos 300 ∷ []) (differs 2)
    ∷ []

pub record DecodedRows : Type 0 where
  -- yes exactly when both lists are the row, and otherwise the first gate at which one differs from it, by what the gate question
  -- answers, by the row's own lists and by the row question; what becomes of a list that is longer or shorter
  pub exactly : (f : List ℕ) (n t : ℕ) (k : List ℕ) (h : List ℤ) → Exactly f n t k h
  -- a row that the library filled is answered yes
  pub filled : FilledIsRow
  pub worked : map computed table ≡ table

-- Answers by the index (document 02, #109): how an index leads to a radial, whichever form it has, and what is filled in for a list of
-- questions. In which order a list is refused, that a refusal leaves both buffers as they were and that the promise leaves no choice is
-- in `One`, what growth keeps in `Three`; which bytes an index has, and that its numbers are read back from them, in `Cuts`.
use Rattle.std.specs.Prelude.{ℕ, true, List, [], ◌∷◌, map, ◌≡◌, Option, Some, None}
use Rattle.index.specs.Answer.{right_for}
use Rattle.index.specs.Forms.{place_said}
use Rattle.engine.specs.Engine.{Question, asked}
use Rattle.engine.specs.Meaning.{Leads, EachStands, AsInRow}

-- ---- by hand

-- a line: the bytes of an index, a radial's number, and where the index says that it is
pub data Said : Type 0 where
  said : List ℕ → ℕ → Option ℕ → Said

abbrev pub read : Said → Said
read (said x n p) = said x n (place_said x n)

-- two cuts of one and of two radials, at 928, at 4,000 and 2 bytes behind 2^32, in the old form and in the new one
abbrev pub old : ℕ → Option ℕ → Said
old = said (2 ∷ 1 ∷ 0 ∷ 2 ∷ 0 ∷ 3 ∷ 0 ∷ 0 ∷ 0 ∷ 160 ∷ 3 ∷ 0 ∷ 0 ∷ 0 ∷ 0 ∷ 0 ∷ 0 ∷ 160 ∷ 15 ∷ 0 ∷ 0 ∷ 0 ∷ 0 ∷ 0 ∷ 0 ∷ 2 ∷ 0 ∷ 0 ∷ 0 ∷ 1 ∷ 0 ∷ 0 ∷ 0 ∷ [])

abbrev pub new : ℕ → Option ℕ → Said
new = said (0 ∷ 2 ∷ 0 ∷ 1 ∷ 0 ∷ 2 ∷ 0 ∷ 3 ∷ 0 ∷ 0 ∷ 0 ∷ 160 ∷ 3 ∷ 0 ∷ 0 ∷ 0 ∷ 0 ∷ 0 ∷ 0 ∷ 160 ∷ 15 ∷ 0 ∷ 0 ∷ 0 ∷ 0 ∷ 0 ∷ 0 ∷ 2 ∷ 0 ∷ 0 ∷ 0 ∷ 1 ∷ 0 ∷ 0 ∷ 0 ∷ [])

unfoldable pub said_table : List Said
said_table =
    old 0 None ∷ old 1 (Some 928) ∷ old 2 (Some 4000) ∷ old 3 (Some 4294967298) ∷ old 4 None
    -- numbers that are 1 in 4 bytes and in 8
    ∷ old 4294967297 None ∷ old 18446744073709551617 None
    ∷ new 0 None ∷ new 1 (Some 928) ∷ new 2 (Some 4000) ∷ new 3 (Some 4294967298) ∷ new 4 None
    ∷ new 4294967297 None ∷ new 18446744073709551617 None
    -- no byte, and the start of either form alone
    ∷ said [] 1 None ∷ said (2 ∷ []) 1 None ∷ said (0 ∷ 2 ∷ []) 1 None
    ∷ []

-- a line: radials, types and gates, and the questions that they are
pub data Listed : Type 0 where
  listed : List ℕ → List ℕ → List ℕ → List Question → Listed

abbrev pub paired : Listed → Listed
paired (listed ns ts gs qs) = listed ns ts gs (asked ns ts gs)

abbrev pub q : ℕ → ℕ → ℕ → Question
q n t g = record { radial = n; data_type = t; gate = g }

unfoldable pub listed_table : List Listed
listed_table =
    listed (5 ∷ 6 ∷ []) (2 ∷ 3 ∷ []) (0 ∷ 9 ∷ []) (q 5 2 0 ∷ q 6 3 9 ∷ [])
    -- each of the three the shortest, and each of them empty
    ∷ listed (5 ∷ []) (2 ∷ 3 ∷ []) (0 ∷ 9 ∷ 1 ∷ []) (q 5 2 0 ∷ [])
    ∷ listed (5 ∷ 6 ∷ 7 ∷ []) (2 ∷ []) (0 ∷ 9 ∷ []) (q 5 2 0 ∷ [])
    ∷ listed (5 ∷ 6 ∷ []) (2 ∷ 3 ∷ 4 ∷ []) (0 ∷ []) (q 5 2 0 ∷ [])
    ∷ listed [] (2 ∷ []) (0 ∷ []) []
    ∷ listed (5 ∷ []) [] (0 ∷ []) []
    ∷ listed (5 ∷ []) (2 ∷ []) [] []
    ∷ []

-- ---- by the index

pub record ByIndex : Type 0 where
  -- a right index leads by each number to the radial that the plain walk finds: one statement for both forms
  pub leads : Leads
  -- no two indexes are right for one file, so a byte more, less or other is wrong
  pub one : (f x y : List ℕ) → right_for f x ≡ true → right_for f y ≡ true → x ≡ y
  -- what is filled in, question by question, is what the plain walk answers, for as many questions as the shortest list has entries; behind
  -- that the buffers are what they were
  pub each : EachStands
  -- and what the row question shows
  pub rows : AsInRow
  pub places : map read said_table ≡ said_table
  pub lists : map paired listed_table ≡ listed_table

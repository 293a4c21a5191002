-- A broken volume closed (document 02, #107): which radials are kept, what is written of them, and what the report says of it. In which
-- order it is refused, that a refusal leaves the room as it was and that its promise leaves no choice is in `One`, what growth keeps in
-- `Three`.
use Rattle.std.specs.Prelude.{ℕ, List, [], ◌∷◌, ◌++◌, map, ◌≡◌}
use Rattle.le.specs.Le.{Bytes}
use Rattle.reading.specs.declared.Stretch.{Stretch}
use Rattle.reading.specs.Reading.{told}
use Rattle.rules.specs.States.{closing}
use Rattle.mend.specs.Closed.{Mending, HandedBack}
use Rattle.mend.specs.Kept.{kept_after}

-- ---- which radials are kept, by hand

-- a line: the cuts of a file's whole radials, in order, and those of the kept ones
pub data Line : Type 0 where
  line : List ℕ → List ℕ → Line

-- radials of these cuts, wherever they lie
abbrev pub of_cuts : List ℕ → List Stretch
of_cuts cuts = map (λ (c : ℕ). record { start = 0; end = 0; cut = c }) cuts

abbrev pub computed : Line → Line
computed (line cuts k) = line cuts (map (λ (s : Stretch). s.cut) (kept_after 0 (of_cuts cuts)))

unfoldable pub table : List Line
table =
    -- no radial, and one in all (54)
    line [] []
    ∷ line (1 ∷ []) []
    -- a first cut that is not finished
    ∷ line (1 ∷ 1 ∷ []) (1 ∷ 1 ∷ [])
    ∷ line (1 ∷ 1 ∷ 1 ∷ []) (1 ∷ 1 ∷ 1 ∷ [])
    -- one radial of the next cut, and two
    ∷ line (1 ∷ 1 ∷ 1 ∷ 2 ∷ []) (1 ∷ 1 ∷ 1 ∷ [])
    ∷ line (1 ∷ 1 ∷ 1 ∷ 2 ∷ 2 ∷ []) (1 ∷ 1 ∷ 1 ∷ 2 ∷ 2 ∷ [])
    -- the same of a third
    ∷ line (1 ∷ 1 ∷ 2 ∷ 2 ∷ 3 ∷ []) (1 ∷ 1 ∷ 2 ∷ 2 ∷ [])
    ∷ line (1 ∷ 1 ∷ 2 ∷ 2 ∷ 3 ∷ 3 ∷ []) (1 ∷ 1 ∷ 2 ∷ 2 ∷ 3 ∷ 3 ∷ [])
    ∷ []

-- the state that the last kept radial gets, by scan types 0 to 6, whichever cut is the last
abbrev pub Closes : Type 0
Closes = (k : ℕ) → map (λ (scan : ℕ). closing scan k k) (0 ∷ 1 ∷ 2 ∷ 3 ∷ 4 ∷ 5 ∷ 6 ∷ []) ≡ 4 ∷ 4 ∷ 6 ∷ 4 ∷ 4 ∷ 6 ∷ 4 ∷ []

-- ---- mending

pub record Mends : Type 0 where
  -- of any file, complete, open or refused (`mend/Closed`): all whole radials are kept, but for a last one that is alone in its cut, and 54
  -- says that no cut has two; what is written is the file's bytes with two fields changed and two stretches left out; it is complete; every
  -- answer on a kept radial is the file's, but for the last one's state, and a tally of a kept cut counts the same; it is the longest
  -- complete volume that is made of the file's leading whole radials; and the report names all that differs, and nothing else
  pub any : (f : List ℕ) → Bytes f → Mending f
  -- a complete file is handed back unchanged, whatever follows it
  pub complete : (A C : List ℕ) → Bytes (A ++ C) → told A ≡ 0 ∷ [] → HandedBack A C
  pub worked : map computed table ≡ table
  pub closes : Closes

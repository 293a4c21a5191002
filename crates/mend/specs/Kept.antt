-- Which radials a mended volume keeps (document 02, #107): all whole ones, but for a last one that is alone in its cut.
use Rattle.std.specs.Prelude.{ℕ, cond, List, [], ◌∷◌, eqb, Option, Some, None}
use Rattle.reading.specs.declared.Stretch.{Stretch}
use Rattle.reading.specs.Reading.{stretches}

-- radials come cut by cut, so a last one is alone in its cut where that is not the cut `before` of the radial before it (0: there is none)
unfoldable pub kept_after : ℕ → List Stretch → List Stretch
kept_after before [] = []
kept_after before (s ∷ []) = cond (eqb s.cut before) (s ∷ []) []
kept_after before (s ∷ (n ∷ ns)) = s ∷ kept_after s.cut (n ∷ ns)

abbrev pub kept : List ℕ → List Stretch
kept f = kept_after 0 (stretches f)

-- the last of some radials
unfoldable pub last_or : Option Stretch → List Stretch → Option Stretch
last_or before [] = before
last_or before (s ∷ ss) = last_or (Some s) ss

abbrev pub last_kept : List ℕ → Option Stretch
last_kept f = last_or None (kept f)

-- ---- the same by the last two radials alone, as the code has it

unfoldable pub cut_of : Option Stretch → ℕ
cut_of None = 0
cut_of (Some s) = s.cut

-- the last radial that is kept, of the newest one and the one before it
unfoldable pub kept_of : Option Stretch → Option Stretch → Option Stretch
kept_of before None = before
kept_of before (Some s) = cond (eqb s.cut (cut_of before)) (Some s) before

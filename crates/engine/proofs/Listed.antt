-- Three lists side by side: how many questions there are, and which. Assumes nothing.
use Prim.Native.Nat.{ℕ, zero, suc, ◌<◌, min}
use native.Mathlib.Omega.{arith}
use mathlib.Core.List.{List, [], ◌∷◌}
use mathlib.Core.Path.{◌≡◌, refl}
use lib.ListN.{length, get_or}
use Rattle.engine.specs.Engine.{Question, asked}

pub many-asked : (ns ts gs : List ℕ) → length (asked ns ts gs) ≡ min (length ns) (min (length ts) (length gs))
unfolding asked
many-asked [] ts gs = omega arith
many-asked (n ∷ ns) [] gs = omega arith
many-asked (n ∷ ns) (t ∷ ts) [] = omega arith
many-asked (n ∷ ns) (t ∷ ts) (g ∷ gs) = let rest = many-asked ns ts gs in omega arith

-- what stands in the lists at a place
abbrev pub question_at : List ℕ → List ℕ → List ℕ → ℕ → Question
question_at ns ts gs i = record { radial = get_or ns i 0; data_type = get_or ts i 0; gate = get_or gs i 0 }

abbrev pub no_question : Question
no_question = record { radial = 0; data_type = 0; gate = 0 }

pub at-asked : (ns ts gs : List ℕ) (i : ℕ) → i < length (asked ns ts gs) → get_or (asked ns ts gs) i no_question ≡ question_at ns ts gs i
unfolding asked
at-asked [] ts gs i h = absurd (omega arith)
at-asked (n ∷ ns) [] gs i h = absurd (omega arith)
at-asked (n ∷ ns) (t ∷ ts) [] i h = absurd (omega arith)
at-asked (n ∷ ns) (t ∷ ts) (g ∷ gs) zero h = refl
at-asked (n ∷ ns) (t ∷ ts) (g ∷ gs) (suc i) h = at-asked ns ts gs i (omega arith)

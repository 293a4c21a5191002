-- Growth (demand 3, on what is cited): of a file A and of any file A ++ C that begins with A.
use Rattle.std.specs.Prelude.{ℕ, List, [], ◌∷◌, ◌++◌, ◌≡◌, Some}
use Rattle.reading.specs.declared.Stretch.{Stretch}
use Rattle.reading.specs.Reading.{stretches, nth, told}
use Rattle.citing.specs.Answers.{why_gate}
use Rattle.citing.specs.Refusals.{why_of}

pub record CitesGrow (A C : List ℕ) : Type 0 where
  -- a refused file stays refused, and for the same reason
  pub refused : (n p : ℕ) → told A ≡ 2 ∷ n ∷ p ∷ [] → why_of (A ++ C) ≡ why_of A
  -- what is cited for a gate of a radial whole in A, or instead of it, stays
  pub whole : (n : ℕ) (s : Stretch) → nth (stretches A) n ≡ Some s → (t i : ℕ) → why_gate (A ++ C) n t i ≡ why_gate A n t i

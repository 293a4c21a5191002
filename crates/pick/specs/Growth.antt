-- Picking and growth (demand 3; document 02, #111): A ++ C is a longer file that begins with A.
use Rattle.std.specs.Prelude.{ℕ, List, [], ◌∷◌, ◌++◌, ◌≡◌, Some}
use Rattle.le.specs.Le.{run}
use Rattle.gates.specs.Telling.{refused}
use Rattle.reading.specs.declared.Stretch.{Stretch}
use Rattle.reading.specs.Reading.{bytes_of, stretches, told}
use Rattle.pick.specs.Keep.{picked_radial}
use Rattle.pick.specs.Pick.{Complete, answer_of, empty_in, picked_radials}

pub record PickGrows (A C : List ℕ) : Type 0 where
  -- the radials of A give the same bytes, ahead of what the later ones give
  pub later : List Stretch
  pub more : stretches (A ++ C) ≡ stretches A ++ later
  pub same : (wanted : ℕ) → picked_radials wanted (A ++ C) ≡ picked_radials wanted A ++ run (λ (s : Stretch). picked_radial wanted (bytes_of (A ++ C) s)) later
  -- and the first of them that would have no moment left is still the first
  pub first : (wanted : ℕ) (s : Stretch) → empty_in wanted A ≡ Some s → empty_in wanted (A ++ C) ≡ Some s
  -- what follows a complete or a refused A is never a volume to pick from
  pub complete : Complete A → (C ≡ [] → ⊥) → (wanted n : ℕ) → answer_of wanted (A ++ C) n ≡ refused 36 0
  pub refused-36 : (number place : ℕ) → told A ≡ 2 ∷ number ∷ place ∷ [] → (wanted n : ℕ) → answer_of wanted (A ++ C) n ≡ refused 36 0

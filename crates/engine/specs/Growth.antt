-- Growth (demand 3, on answers by the index): A ++ C is a longer file that begins with A.
use Rattle.std.specs.Prelude.{ℕ, true, false, List, [], ◌∷◌, ◌++◌, ◌≡◌, ℤ, Some}
use Rattle.le.specs.Le.{Bytes}
use Rattle.reading.specs.declared.Stretch.{Stretch}
use Rattle.reading.specs.Reading.{stretches, nth, told}
use Rattle.ask.specs.Growth.{gate_asked}
use Rattle.index.specs.Answer.{right_for}
use Rattle.index.specs.Forms.{place_said}
use Rattle.engine.specs.Meaning.{Stands}

pub record EngineGrows (A C : List ℕ) : Type 0 where
  -- no index is right for what follows a complete or a refused A: every list is refused by 59
  pub complete : told A ≡ 0 ∷ [] → (x : List ℕ) → right_for (A ++ C) x ≡ false
  pub refused : (number place : ℕ) → told A ≡ 2 ∷ number ∷ place ∷ [] → (x : List ℕ) → right_for (A ++ C) x ≡ false
  -- an index that is right for the longer file leads to the radials of A where they are in A, and what stands there for a question on one
  -- of them is what stands for the plain walk's answer on A
  pub leads : (x : List ℕ) → Bytes (A ++ C) → right_for (A ++ C) x ≡ true → (n : ℕ) (s : Stretch) → nth (stretches A) n ≡ Some s → place_said x n ≡ Some s.start
  pub stands : (n : ℕ) (s : Stretch) → nth (stretches A) n ≡ Some s → (t g a : ℕ) (b : ℤ) → Stands (gate_asked (A ++ C) n t g) a b → Stands (gate_asked A n t g) a b

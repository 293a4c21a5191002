-- Growth (demand 3, on the check of a decoded row): what is answered of a file A and of any file A ++ C that begins with A.
use Rattle.std.specs.Prelude.{ℕ, List, ◌++◌, ◌⊎◌, ◌≡◌, ℤ, Some}
use Rattle.gates.specs.Telling.{refused}
use Rattle.reading.specs.declared.Stretch.{Stretch}
use Rattle.reading.specs.Reading.{stretches, nth}
use Rattle.decoded.specs.Decoded.{check_asked}

pub record ChecksGrow (A C : List ℕ) : Type 0 where
  -- an answer on a radial that is whole in A stays, 31 too
  pub whole : (n : ℕ) (s : Stretch) → nth (stretches A) n ≡ Some s → (t : ℕ) (k : List ℕ) (h : List ℤ) → check_asked (A ++ C) n t k h ≡ check_asked A n t k h
  -- so 30 alone may turn into another answer
  pub any : (n t : ℕ) (k : List ℕ) (h : List ℤ) → (check_asked A n t k h ≡ refused 30 0) ⊎ (check_asked (A ++ C) n t k h ≡ check_asked A n t k h)

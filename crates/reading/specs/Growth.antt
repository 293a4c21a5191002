-- Growth (demand 3, on radials and verdicts): what is told of a file A and of any longer file that begins with A.
-- The longer file is A ++ C, where C has a byte at least. What reading tells is `told f`: 0 is complete, 1 open with
-- the missing bytes, 2 refused with number and place.
use Rattle.std.specs.Prelude.{ℕ, ◌+◌, ◌-◌, ◌≤◌, ◌<◌, List, [], ◌∷◌, ◌++◌, ◌≡◌, length}
use Rattle.walk.specs.Due.{size_of}
use Rattle.reading.specs.declared.Stretch.{Stretch}
use Rattle.reading.specs.Reading.{stop, told, stretches, bytes_of}

-- every element of a list of stretches lies in A, whose bytes the longer file repeats
abbrev pub Same : List ℕ → List ℕ → List Stretch → Type 0
Same A B [] = Unit {0}
Same A B (s ∷ ss) = (bytes_of B s ≡ bytes_of A s) × Same A B ss

-- a longer file has read a further block, or refuses the block that A wanted, which stood at the end of what A had read: at a
-- place inside that block
pub data Further (A B : List ℕ) : Type 0 where
  read : (stop A).at < (stop B).at → Further A B
  refused : (n p : ℕ) → told B ≡ 2 ∷ n ∷ p ∷ [] → (stop B).at ≡ (stop A).at → (stop A).at ≤ p → p < (stop A).at + size_of (stop A) → Further A B

pub record Grows (A C : List ℕ) : Type 0 where
  -- the radials whole in A are the first of the longer file's, at the same places, with the same bytes
  pub later : List Stretch
  pub radials : stretches (A ++ C) ≡ stretches A ++ later
  pub bytes : Same A (A ++ C) (stretches A)
  -- refused stays refused, with number and place
  pub refused : (n p : ℕ) → told A ≡ 2 ∷ n ∷ p ∷ [] → told (A ++ C) ≡ told A
  -- complete turns into refused 25 where A ended
  pub complete : told A ≡ 0 ∷ [] → told (A ++ C) ≡ 2 ∷ 25 ∷ length A ∷ []
  -- open wants at least one byte
  pub wants : (n : ℕ) → told A ≡ 1 ∷ n ∷ [] → 1 ≤ n
  -- longer by fewer than wanted: the same radials, and the rest is wanted
  pub fewer : (n : ℕ) → told A ≡ 1 ∷ n ∷ [] → length C < n → (stretches (A ++ C) ≡ stretches A) × (told (A ++ C) ≡ 1 ∷ (n - length C) ∷ [])
  -- longer by as many or more: a further block is read, or that block is refused
  pub enough : (n : ℕ) → told A ≡ 1 ∷ n ∷ [] → n ≤ length C → Further A (A ++ C)

-- What is answered about an index, and what a lent room then holds (document 01, "The house index").
use Rattle.std.specs.Prelude.{ℕ, Bool, true, false, cond, ◌&&◌, List, [], ◌∷◌, ◌≡◌, eqb, leb, length, Result, Ok, Err}
use Rattle.refusal.specs.declared.Refusal.{Refusal}
use Rattle.refusal.specs.Refusal.{number_of}
use Rattle.le.specs.Le.{stored}
use Rattle.reading.specs.Reading.{told}
use Rattle.index.specs.Index.{index_of}

-- whether two lists are equal ("The house index")
unfoldable pub same : List ℕ → List ℕ → Bool
same [] [] = true
same [] (y ∷ ys) = false
same (x ∷ xs) [] = false
same (x ∷ xs) (y ∷ ys) = eqb x y && same xs ys

-- whether reading says that the file is complete, which `told` has as 0 ("What reading tells")
unfoldable pub complete : List ℕ → Bool
complete f = same (told f) (0 ∷ [])

-- an answer as numbers: the index's length, or a refusal's number and its place, 0 ("Field rules and refusal numbers")
unfoldable pub told_index : Result ℕ Refusal → List ℕ
told_index (Ok n) = n ∷ []
told_index (Err e) = number_of e ∷ 0 ∷ []

-- what is answered where n bytes are lent; 36 goes before 33 ("The house index")
unfoldable pub answer_of : List ℕ → ℕ → List ℕ
answer_of f n = cond (complete f) (cond (leb (length (index_of f)) n) (length (index_of f) ∷ []) (33 ∷ 0 ∷ [])) (36 ∷ 0 ∷ [])

-- what a room then holds: at its front the index, where the file is complete and the index fits ("What reading tells")
unfoldable pub room_of : List ℕ → List ℕ → List ℕ
room_of f room = cond (complete f) (stored (length (index_of f)) room 0 (index_of f)) room

-- the promise of writing: the answer, and what the room holds after it ("What the promises settle")
pub record Writes (f before : List ℕ) (r : Result ℕ Refusal) (after : List ℕ) : Type 0 where
  pub answer : told_index r ≡ answer_of f (length before)
  pub room : after ≡ room_of f before

-- when an index is right for a file ("The house index")
unfoldable pub right_for : List ℕ → List ℕ → Bool
right_for f index = complete f && same (index_of f) index

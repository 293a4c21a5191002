-- Answers by the index (document 02, #109): what is told of a whole list of questions, and what the two lent buffers then hold. What
-- stands there for a question is said by the plain walk's own answer.
use Rattle.std.specs.Prelude.{ℕ, Bool, cond, ◌&&◌, List, [], ◌∷◌, map, ◌≡◌, leb, ℤ, pos, length, Result, Ok, Err}
use Rattle.refusal.specs.declared.Refusal.{Refusal}
use Rattle.refusal.specs.Refusal.{number_of}
use Rattle.gates.specs.Gates.{Values}
use Rattle.gates.specs.Rows.{filled}
use Rattle.gates.specs.Telling.{Telling, refused, answered}
use Rattle.ask.specs.Growth.{gate_asked}
use Rattle.index.specs.Answer.{right_for}

-- a radial by its sequence number, a type, and a gate from 0
pub record Question : Type 0 where
  pub radial : ℕ
  pub data_type : ℕ
  pub gate : ℕ

-- three lists side by side: as many questions as the shortest has entries
unfoldable pub asked : List ℕ → List ℕ → List ℕ → List Question
asked [] ts gs = []
asked (n ∷ ns) [] gs = []
asked (n ∷ ns) (t ∷ ts) [] = []
asked (n ∷ ns) (t ∷ ts) (g ∷ gs) = record { radial = n; data_type = t; gate = g } ∷ asked ns ts gs

-- what the plain walk answers
abbrev pub walked : List ℕ → Question → Telling Values
walked f q = gate_asked f q.radial q.data_type q.gate

-- what is shown of an answer: its kind and its hundredths; of a refusal its number, and 0
unfoldable pub kind_shown : Telling Values → ℕ
kind_shown (refused number place) = number
kind_shown (answered v) = v.gate.0

unfoldable pub hundredths_shown : Telling Values → ℤ
hundredths_shown (refused number place) = pos 0
hundredths_shown (answered v) = v.hundredths

-- of a question, and of all of them
abbrev pub kind_for : List ℕ → Question → ℕ
kind_for f q = kind_shown (walked f q)

abbrev pub hundredths_for : List ℕ → Question → ℤ
hundredths_for f q = hundredths_shown (walked f q)

abbrev pub kinds_of : List ℕ → List Question → List ℕ
kinds_of f qs = map (kind_for f) qs

abbrev pub hundredths_of : List ℕ → List Question → List ℤ
hundredths_of f qs = map (hundredths_for f) qs

-- how many questions were answered; or the refusal's number, and place 0
abbrev pub told_list : Result ℕ Refusal → Telling ℕ
told_list (Ok n) = answered n
told_list (Err e) = refused (number_of e) 0

-- whether both buffers have room for n questions
abbrev pub rooms : ℕ → List ℕ → List ℤ → Bool
rooms n k h = leb n (length k) && leb n (length h)

-- 59 where the index is not right for the file, first of all; then 33 where either buffer is too short
unfoldable pub answer_of : List ℕ → List ℕ → ℕ → List ℕ → List ℤ → Telling ℕ
answer_of f x n k h = cond (right_for f x) (cond (rooms n k h) (answered n) (refused 33 0)) (refused 59 0)

-- what a buffer then holds: at its front what is shown of each answer, where nothing is refused
unfoldable pub buffer_of : {A : Type 0} → Bool → List A → List A → List A
buffer_of taken shown old = cond taken (filled shown old) old

pub record Answers (f x : List ℕ) (qs : List Question) (k : List ℕ) (h : List ℤ) (r : Result ℕ Refusal) (k' : List ℕ) (h' : List ℤ) : Type 0 where
  pub answer : told_list r ≡ answer_of f x (length qs) k h
  pub kinds : k' ≡ buffer_of (right_for f x && rooms (length qs) k h) (kinds_of f qs) k
  pub hundredths : h' ≡ buffer_of (right_for f x && rooms (length qs) k h) (hundredths_of f qs) h

-- A row of gates in two lent buffers (document 01, "What reading tells").
use Rattle.std.specs.Prelude.{◌≡◌, Bool, cond, ◌&&◌, List, ◌++◌, map, ℕ, ◌<◌, leb, ℤ, pos, length, get_or, drop, Result, Ok, Err}
use Rattle.refusal.specs.declared.Refusal.{Refusal}
use Rattle.refusal.specs.Refusal.{number_of}
use Rattle.gates.specs.Gates.{kind_of, told_of}
use Rattle.gates.specs.Telling.{Telling, refused, answered}
use Rattle.gates.specs.declared.Coding.{Coding}

-- how many gates were filled in; or the refusal's number, and place 0
abbrev pub told_row : Result ℕ Refusal → Telling ℕ
told_row (Ok n) = answered n
told_row (Err e) = refused (number_of e) 0

-- the hundredths of a gate, 0 for one that is no value
abbrev pub shown_of : Coding → ℕ → ℤ
shown_of c code = (told_of c code).hundredths

-- the row of some codes, as two lists: the kind and the hundredths of each gate
abbrev pub row_kinds : Coding → List ℕ → List ℕ
row_kinds c codes = map (kind_of c) codes

abbrev pub row_hundredths : Coding → List ℕ → List ℤ
row_hundredths c codes = map (shown_of c) codes

-- the hundredths of each one-byte code, in the codes' order
pub record Tabled (c : Coding) (t : List ℤ) : Type 0 where
  pub long : length t ≡ 256
  pub entry : (code : ℕ) → code < 256 → get_or t code (pos 0) ≡ shown_of c code

-- whether both buffers have room
abbrev pub rooms : List ℕ → List ℕ → List ℤ → Bool
rooms codes k h = leb (length codes) (length k) && leb (length codes) (length h)

-- a lent room filled from its front, and as it was past that
abbrev pub filled : {A : Type 0} → List A → List A → List A
filled new old = new ++ drop (length new) old

-- the answer, and the buffers after: filled, or as they were where either is too short
pub record Rowed (c : Coding) (codes : List ℕ) (k : List ℕ) (h : List ℤ) (r : Result ℕ Refusal) (k' : List ℕ) (h' : List ℤ) : Type 0 where
  pub answer : told_row r ≡ cond (rooms codes k h) (answered (length codes)) (refused 33 0)
  pub kinds : k' ≡ cond (rooms codes k h) (filled (row_kinds c codes) k) k
  pub hundredths : h' ≡ cond (rooms codes k h) (filled (row_hundredths c codes) h) h

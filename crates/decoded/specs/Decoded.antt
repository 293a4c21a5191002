-- What is said of a row that somebody decoded (document 02, #112): the row of a file, as two lists, against two lent ones.
use Rattle.std.specs.Prelude.{ℕ, suc, min, Bool, false, cond, ◌&&◌, List, [], ◌∷◌, eqb, ℤ, pos, negsuc, length, Result, Ok, Err}
use Rattle.decoded.specs.declared.Compared.TheVariants.{Same, Differs}
use Rattle.refusal.specs.declared.Refusal.{Refusal}
use Rattle.refusal.specs.Refusal.{number_of}
use Rattle.decoded.specs.declared.Compared.{Compared}
use Rattle.moment.specs.Moment.{moment_at}
use Rattle.gates.specs.declared.Coding.{Coding}
use Rattle.gates.specs.Codes.{codes_of}
use Rattle.gates.specs.Rows.{row_kinds, row_hundredths}
use Rattle.gates.specs.Telling.{Telling, refused, answered}
use Rattle.moments.specs.Moments.{data_at}
use Rattle.reading.specs.Reading.{bytes_of}
use Rattle.ask.specs.declared.places.Where.{Where}
use Rattle.ask.specs.declared.places.Where.TheVariants.{At, NoRadial, NoMoment}
use Rattle.ask.specs.Answers.{coding_of}
use Rattle.ask.specs.Places.{where_is}

-- whether two whole numbers are the same
abbrev pub eqℤ : ℤ → ℤ → Bool
eqℤ (pos m) (pos n) = eqb m n
eqℤ (pos m) (negsuc n) = false
eqℤ (negsuc m) (pos n) = false
eqℤ (negsuc m) (negsuc n) = eqb m n

-- how many entries two lists have alike by a test, from their fronts: up to the first at which they differ or one of them ends
unfoldable pub alike : {A : Type 0} → (A → A → Bool) → List A → List A → ℕ
alike test [] ys = 0
alike test (x ∷ xs) [] = 0
alike test (x ∷ xs) (y ∷ ys) = cond (test x y) (suc (alike test xs ys)) 0

-- how many gates of the row both lists have as the row has them, from the front
abbrev pub agreed : Coding → List ℕ → List ℕ → List ℤ → ℕ
agreed c codes k h = min (alike eqb (row_kinds c codes) k) (alike eqℤ (row_hundredths c codes) h)

-- yes, or the first gate at which a list differs from the row
pub data Checked : Type 0 where
  same : Checked
  differs : ℕ → Checked

-- of the row of some codes: yes where it and both lists end at the same gate, and all gates agree
unfoldable pub checked : Coding → List ℕ → List ℕ → List ℤ → Checked
checked c codes k h =
    cond (eqb (agreed c codes k h) (length codes) && (eqb (length k) (length codes) && eqb (length h) (length codes))) same (differs (agreed c codes k h))

abbrev pub told_compared : Compared → Checked
told_compared Same = same
told_compared (Differs i) = differs i

-- an answer: yes or the gate; or the refusal's number, and place 0
abbrev pub told_check : Result Compared Refusal → Telling Checked
told_check (Ok x) = answered (told_compared x)
told_check (Err e) = refused (number_of e) 0

-- of the moment where it was found: 30 and 31 as for a row
unfoldable pub check_told : List ℕ → Where → List ℕ → List ℤ → Telling Checked
check_told f NoRadial k h = refused 30 0
check_told f NoMoment k h = refused 31 0
check_told f (At s p) k h =
    answered (checked (coding_of (moment_at (bytes_of f s) p)) (codes_of (moment_at (bytes_of f s) p).bin_length (data_at (bytes_of f s) p)) k h)

-- of the moment of type t in the whole radial with a sequence number
abbrev pub check_asked : List ℕ → ℕ → ℕ → List ℕ → List ℤ → Telling Checked
check_asked f n t k h = check_told f (where_is f n t) k h

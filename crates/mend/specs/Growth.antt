-- Mending and growth (demand 3; document 02, #107): B = A ++ C is a longer file that begins with A.
use Rattle.std.specs.Prelude.{ℕ, List, ◌∷◌, [], ◌++◌, ◌≡◌, Some}
use Rattle.reading.specs.declared.Stretch.{Stretch}
use Rattle.reading.specs.Reading.{stretches, told}
use Rattle.mend.specs.Closed.{HandedBack}
use Rattle.mend.specs.Kept.{kept, last_kept}
use Rattle.mend.specs.Mend.{mended, report_of}

-- the same but for where the dropped stretch ends, which is the file's end
pub record SameMended (A B : List ℕ) (s : Stretch) : Type 0 where
  pub found : last_kept B ≡ Some s
  pub volume : mended B s ≡ mended A s
  pub cut-number : (report_of B s).cut_number ≡ (report_of A s).cut_number
  pub state : (report_of B s).state ≡ (report_of A s).state
  pub from_cut : (report_of B s).first_dropped ≡ (report_of A s).first_dropped
  pub dropped : (report_of B s).dropped_cuts ≡ (report_of A s).dropped_cuts
  pub from : (report_of B s).from ≡ (report_of A s).from

pub record MendGrows (A C : List ℕ) : Type 0 where
  -- what is kept of A is the first of what is kept of B
  pub later : List Stretch
  pub more : kept (A ++ C) ≡ kept A ++ later
  -- while no further radial is whole, the volume stays, and so does 54
  pub same : stretches (A ++ C) ≡ stretches A → (s : Stretch) → last_kept A ≡ Some s → SameMended A (A ++ C) s
  pub still : stretches (A ++ C) ≡ stretches A → last_kept (A ++ C) ≡ last_kept A
  -- and where A is refused, none is
  pub refused : (n p : ℕ) → told A ≡ 2 ∷ n ∷ p ∷ [] → stretches (A ++ C) ≡ stretches A
  -- a complete A comes out of B as it is
  pub complete : told A ≡ 0 ∷ [] → HandedBack A C

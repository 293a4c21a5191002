-- Growth (demand 3, on answers): what is answered of a file A and of any file A ++ C that begins with A.
use Rattle.std.specs.Prelude.{ℕ, ◌≤◌, List, ◌++◌, ◌⊎◌, ◌≡◌, ℤ, Some, Result}
use Rattle.refusal.specs.declared.Refusal.{Refusal}
use Rattle.gates.specs.Gates.{Values}
use Rattle.gates.specs.Telling.{Telling, refused, answered}
use Rattle.wedge.specs.declared.Wedge.{Wedge}
use Rattle.reading.specs.declared.Stretch.{Stretch}
use Rattle.reading.specs.Reading.{stretches, nth}
use Rattle.ask.specs.declared.tallies.Tally.{Tally}
use Rattle.ask.specs.Answers.{radial_of_file, moment_told, data_told, gate_told, RowTold}
use Rattle.ask.specs.Places.{where_is}
use Rattle.ask.specs.Tallies.{tally_answer}

abbrev pub gate_asked : List ℕ → ℕ → ℕ → ℕ → Telling Values
gate_asked f n t i = gate_told f (where_is f n t) i

-- what a row promises of its answer and of both buffers
abbrev pub RowAsked : List ℕ → ℕ → ℕ → List ℕ → List ℤ → Result ℕ Refusal → List ℕ → List ℤ → Type 0
RowAsked f n t k h r k' h' = RowTold f (where_is f n t) k h r k' h'

-- the same wedge, and no count of a is above that of b
pub record NoFewer (a b : Tally) : Type 0 where
  pub wedge : b.wedge ≡ a.wedge
  pub radials : a.sums.radials ≤ b.sums.radials
  pub blanks : a.sums.blanks ≤ b.sums.blanks
  pub below : a.sums.counts.below ≤ b.sums.counts.below
  pub folded : a.sums.counts.folded ≤ b.sums.counts.folded
  pub not_scanned : a.sums.counts.not_scanned ≤ b.sums.counts.not_scanned
  pub unknown : a.sums.counts.unknown ≤ b.sums.counts.unknown
  pub reserved : a.sums.counts.reserved ≤ b.sums.counts.reserved
  pub value : a.sums.counts.value ≤ b.sums.counts.value
  pub class : a.sums.counts.class ≤ b.sums.counts.class

-- what is answered of a radial that is whole in A is answered of the longer file
pub record Kept (A C : List ℕ) (n : ℕ) : Type 0 where
  pub radial : radial_of_file (A ++ C) n ≡ radial_of_file A n
  pub place : (t : ℕ) → where_is (A ++ C) n t ≡ where_is A n t
  pub moment : (t : ℕ) → moment_told (A ++ C) (where_is (A ++ C) n t) ≡ moment_told A (where_is A n t)
  pub bytes : (t : ℕ) → data_told (A ++ C) (where_is (A ++ C) n t) ≡ data_told A (where_is A n t)
  pub gate : (t i : ℕ) → gate_asked (A ++ C) n t i ≡ gate_asked A n t i
  pub row : (t : ℕ) (k k' : List ℕ) (h h' : List ℤ) (r : Result ℕ Refusal)
      → (RowAsked (A ++ C) n t k h r k' h' → RowAsked A n t k h r k' h') × (RowAsked A n t k h r k' h' → RowAsked (A ++ C) n t k h r k' h')

pub record AnswersGrow (A C : List ℕ) : Type 0 where
  pub whole : (n : ℕ) (s : Stretch) → nth (stretches A) n ≡ Some s → Kept A C n
  -- a gate's 30 may turn into an answer, 31 or 32; any other answer stays
  pub gate : (n t i : ℕ) → (gate_asked A n t i ≡ refused 30 0) ⊎ (gate_asked (A ++ C) n t i ≡ gate_asked A n t i)
  -- a tally's 61 stays; its 31 stays or turns into a tally; a tally keeps its wedge, and none of its counts falls
  pub no-wedge : (cut t : ℕ) (w : Wedge) → tally_answer A cut t w ≡ refused 61 0 → tally_answer (A ++ C) cut t w ≡ refused 61 0
  pub uncounted : (cut t : ℕ) (w : Wedge) → tally_answer A cut t w ≡ refused 31 0
      → (tally_answer (A ++ C) cut t w ≡ refused 31 0) ⊎ ((b : Tally) × (tally_answer (A ++ C) cut t w ≡ answered b))
  pub counted : (cut t : ℕ) (w : Wedge) (a : Tally) → tally_answer A cut t w ≡ answered a
      → (b : Tally) × ((tally_answer (A ++ C) cut t w ≡ answered b) × NoFewer a b)

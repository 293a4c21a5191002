-- DEMAND 1: every file and every question gets an ending and an answer.
-- No public function has a condition on its caller, so each promise answers every input. Here: that every file has an
-- ending; the numbers, the places and the order of the refusals; that everything lent is then what it was; and that no
-- promise leaves a choice.
use Rattle.std.specs.Prelude.{true, false, List, [], ◌∷◌, ◌↔◌, ◌⊎◌, ◌≡◌, ℕ, ◌+◌, ◌≤◌, ◌<◌, ℤ, length, Some, None, Result, Err}
use Rattle.refusal.specs.declared.Refusal.{Refusal}
use Rattle.decoded.specs.declared.Compared.{Compared}
use Rattle.mend.specs.declared.report.Report.{Report}
use Rattle.le.specs.Le.{stored, Bytes}
use Rattle.wedge.specs.declared.Wedge.{Wedge}
use Rattle.wedge.specs.Wedge.{wedge_ok}
use Rattle.gates.specs.declared.Coding.{Coding}
use Rattle.gates.specs.declared.Gate.{Gate}
use Rattle.gates.specs.declared.Told.{Told}
use Rattle.gates.specs.Codes.{codes_of}
use Rattle.gates.specs.Gates.{told_gate, values_of}
use Rattle.gates.specs.Rows.{told_row, rooms, Rowed}
use Rattle.gates.specs.Telling.{refused, answered}
use Rattle.generic.specs.declared.Generic.{Generic}
use Rattle.site.specs.declared.Site.{Site}
use Rattle.task.specs.declared.Task.{Task}
use Rattle.moment.specs.Moment.{moment_at}
use Rattle.moments.specs.Moments.{data_at}
use Rattle.walk.specs.declared.due.Walk.{Walk}
use Rattle.walk.specs.Due.{is_end, at_start}
use Rattle.reading.specs.declared.Reading.{Reading}
use Rattle.reading.specs.declared.Stretch.{Stretch}
use Rattle.reading.specs.declared.Verdict.{Verdict}
use Rattle.reading.specs.declared.step.Step.TheVariants as step
use Rattle.reading.specs.Reading.{Tells, verdict_told, stop, stretches, nth, told, bytes_of}
use Rattle.ask.specs.declared.places.Where.{Where}
use Rattle.ask.specs.declared.places.Where.TheVariants.{At, NoRadial, NoMoment}
use Rattle.ask.specs.declared.tallies.Tally.{Tally}
use Rattle.ask.specs.Answers.{radial_of_file, moment_told, told_moment, data_told, told_gate_answer, RowTold}
use Rattle.ask.specs.Asked.{AsAsked}
use Rattle.ask.specs.Growth.{gate_asked}
use Rattle.ask.specs.Places.{where_is}
use Rattle.ask.specs.Tallies.{tally_of, cut_accepted, told_tally, tally_answer}
use Rattle.lent.specs.Lending.{lent_of, told_lent}
use Rattle.citing.specs.Answers.{told_why_gate, why_gate}
use Rattle.decoded.specs.Decoded.{Checked, told_check, check_asked}
use Rattle.index.specs.Answer.{complete, answer_of, right_for, Writes}
use Rattle.index.specs.Index.{index_of}
use Rattle.writer.specs.declared.order.Answer.TheVariants.{Refused}
use Rattle.writer.specs.declared.order.Put.{Put}
use Rattle.writer.specs.Agree.{same_kind, agrees, TestsAgreement}
use Rattle.writer.specs.Block.{Block, kind_of, says_of, fits_of, length_of}
use Rattle.writer.specs.Put.{Outcome, Puts, put, put_on}
use Rattle.shelf.specs.Import.{import_of}
use Rattle.mend.specs.Closed.{NoTwo}
use Rattle.mend.specs.Kept.{last_kept}
use Rattle.mend.specs.Mend as mend
use Rattle.pick.specs.declared.Picked.{Picked}
use Rattle.pick.specs.declared.Picked.TheVariants as picked
use Rattle.pick.specs.Pick as pick
use Rattle.engine.specs.Engine as engine

-- a file is complete, open with the missing bytes, or refused with number and place
pub data Ending (f : List ℕ) : Type 0 where
  is-complete : told f ≡ 0 ∷ [] → Ending f
  is_open : (n : ℕ) → told f ≡ 1 ∷ n ∷ [] → Ending f
  is-refused : (n p : ℕ) → told f ≡ 2 ∷ n ∷ p ∷ [] → Ending f

-- a question on a radial that is not whole is refused by 30, on a moment that it does not have by 31, on a gate that this
-- does not have by 32; the place is 0, and the data of a refused moment are empty. What is answered is what was asked for. A decoded
-- row is refused by 30 and 31 as a gate is, and by nothing else, whatever the lists. Why a gate is what it is, is refused as the gate is
pub record Questions (f : List ℕ) (n t : ℕ) : Type 0 where
  pub radial : nth (stretches f) n ≡ None → ((radial_of_file f n).number ≡ 30) × ((radial_of_file f n).place ≡ 0)
  pub no-radial : nth (stretches f) n ≡ None → where_is f n t ≡ NoRadial
  pub moment-30 : where_is f n t ≡ NoRadial → (told_moment (moment_told f (where_is f n t)) ≡ refused 30 0) × (data_told f (where_is f n t) ≡ [])
  pub moment-31 : where_is f n t ≡ NoMoment → (told_moment (moment_told f (where_is f n t)) ≡ refused 31 0) × (data_told f (where_is f n t) ≡ [])
  pub gate-30 : (i : ℕ) → where_is f n t ≡ NoRadial → gate_asked f n t i ≡ refused 30 0
  pub gate-31 : (i : ℕ) → where_is f n t ≡ NoMoment → gate_asked f n t i ≡ refused 31 0
  pub gate-32 : (i : ℕ) (s : Stretch) (p : ℕ) → where_is f n t ≡ At s p
      → length (codes_of (moment_at (bytes_of f s) p).bin_length (data_at (bytes_of f s) p)) ≤ i → gate_asked f n t i ≡ refused 32 0
  pub check-30 : (k : List ℕ) (h : List ℤ) → where_is f n t ≡ NoRadial → check_asked f n t k h ≡ refused 30 0
  pub check-31 : (k : List ℕ) (h : List ℤ) → where_is f n t ≡ NoMoment → check_asked f n t k h ≡ refused 31 0
  pub checked : (k : List ℕ) (h : List ℤ) (s : Stretch) (p : ℕ) → where_is f n t ≡ At s p → (x : Checked) × (check_asked f n t k h ≡ answered x)
  pub why : (i k : ℕ) → (gate_asked f n t i ≡ refused k 0) ↔ (told_why_gate (why_gate f n t i) ≡ refused k 0)
  pub as-asked : AsAsked f n t

-- a row is refused by 30 and 31 as a gate is, and then by 33 where either buffer is too short, all with place 0
pub record Row (f : List ℕ) (at : Where) (k k' : List ℕ) (h h' : List ℤ) (r : Result ℕ Refusal) : Type 0 where
  pub row-30 : at ≡ NoRadial → RowTold f at k h r k' h' → told_row r ≡ refused 30 0
  pub row-31 : at ≡ NoMoment → RowTold f at k h r k' h' → told_row r ≡ refused 31 0
  pub row-33 : (s : Stretch) (p : ℕ) → at ≡ At s p → rooms (codes_of (moment_at (bytes_of f s) p).bin_length (data_at (bytes_of f s) p)) k h ≡ false
      → RowTold f at k h r k' h' → told_row r ≡ refused 33 0

-- a tally is refused by 61 where the wedge's start or end is not one of 0 to 35,999, whatever the cut; then by 30 where the cut's
-- block is not accepted, then by 31 where no whole radial of the cut in the wedge has the type, each with place 0; through the lent
-- record the caller is told the same
pub record Tallied (f : List ℕ) (cut t : ℕ) (w : Wedge) : Type 0 where
  pub range : (wedge_ok w ≡ true) ↔ ((w.start ≤ 35999) × (w.end ≤ 35999))
  pub tally-61 : wedge_ok w ≡ false → tally_answer f cut t w ≡ refused 61 0
  pub tally-30 : wedge_ok w ≡ true → cut_accepted (stop f) cut ≡ false → tally_answer f cut t w ≡ refused 30 0
  pub tally-31 : wedge_ok w ≡ true → cut_accepted (stop f) cut ≡ true → (tally_of f cut t w).sums.radials ≡ 0 → tally_answer f cut t w ≡ refused 31 0
  pub lent : (old : Tally) → told_lent (lent_of old (tally_answer f cut t w)) ≡ tally_answer f cut t w

-- an index is refused by 36 where the file is not complete, then by 33 where the room is too short, both with place 0
pub record Indexed (f : List ℕ) (room : ℕ) : Type 0 where
  pub index-36 : complete f ≡ false → answer_of f room ≡ 36 ∷ 0 ∷ []
  pub index-33 : complete f ≡ true → room < length (index_of f) → answer_of f room ≡ 33 ∷ 0 ∷ []

-- mending is refused by 54 where no cut has two whole radials, then by 33 where the room is shorter than the volume, both with place 0, and
-- by nothing else
pub record MendRefused (f : List ℕ) (room : ℕ) : Type 0 where
  pub mend-54 : NoTwo f → mend.answer_of f room ≡ refused 54 0
  pub mend-33 : (s : Stretch) → last_kept f ≡ Some s → room < length (mend.mended f s) → mend.answer_of f room ≡ refused 33 0
  pub written : (s : Stretch) → last_kept f ≡ Some s → length (mend.mended f s) ≤ room
      → mend.answer_of f room ≡ answered (mend.said (length (mend.mended f s)) (mend.report_of f s))

-- picking is refused by 36 where the file is not complete, then by 60 at the first radial that would have no moment left, then by 33 where
-- the room is shorter than the volume, and by nothing else; the places of 36 and 33 are 0. Which radial 60 names is in `Picks`
pub record PickRefused (f : List ℕ) (wanted room : ℕ) : Type 0 where
  pub pick-36 : complete f ≡ false → pick.answer_of wanted f room ≡ refused 36 0
  pub pick-60 : complete f ≡ true → (s : Stretch) → pick.empty_in wanted f ≡ Some s → pick.answer_of wanted f room ≡ refused 60 s.start
  pub pick-33 : complete f ≡ true → pick.empty_in wanted f ≡ None → room < length (pick.picked wanted f) → pick.answer_of wanted f room ≡ refused 33 0
  pub written : complete f ≡ true → pick.empty_in wanted f ≡ None → length (pick.picked wanted f) ≤ room
      → pick.answer_of wanted f room ≡ answered (length (pick.picked wanted f))

-- a list of n questions is refused by 59 where the index is not right for the file, as none is for a file that is not complete, whatever the
-- list and the buffers; then by 33 where either buffer is shorter than the list, both with place 0, and by nothing else
pub record ListRefused (f x : List ℕ) (n : ℕ) (k : List ℕ) (h : List ℤ) : Type 0 where
  pub list-59 : right_for f x ≡ false → engine.answer_of f x n k h ≡ refused 59 0
  pub not-complete : complete f ≡ false → engine.answer_of f x n k h ≡ refused 59 0
  pub list-33 : right_for f x ≡ true → (length k < n) ⊎ (length h < n) → engine.answer_of f x n k h ≡ refused 33 0
  pub filled : right_for f x ≡ true → n ≤ length k → n ≤ length h → engine.answer_of f x n k h ≡ answered n

-- the writer refuses in this order: 37 with place 0, where state and room do not agree; 25 after the end; 34 for another kind
-- of block; what the reader says of the block; 35 for data of another length; 33 for a room that ends too early
pub record WriterRefuses (b : Block) (w : Walk) (room : List ℕ) : Type 0 where
  pub agreement : TestsAgreement w room
  pub astray : agrees w room ≡ false → (put b w room).answer ≡ Refused 37 0
  pub ended : agrees w room ≡ true → is_end w.due ≡ true → (put b w room).answer ≡ Refused 25 w.at
  pub kind : agrees w room ≡ true → is_end w.due ≡ false → same_kind w.due (kind_of b) ≡ false → (put b w room).answer ≡ Refused 34 w.at
  pub rule : agrees w room ≡ true → is_end w.due ≡ false → same_kind w.due (kind_of b) ≡ true
      → (n p : ℕ) → says_of b room w ≡ step.Refused n p → (put b w room).answer ≡ Refused n p
  pub another-length : agrees w room ≡ true → is_end w.due ≡ false → same_kind w.due (kind_of b) ≡ true
      → (m : Walk) → says_of b room w ≡ step.Took m → fits_of b w ≡ false → (put b w room).answer ≡ Refused 35 w.at
  pub short-room : agrees w room ≡ true → is_end w.due ≡ false → same_kind w.due (kind_of b) ≡ true
      → (m : Walk) → says_of b room w ≡ step.Took m → fits_of b w ≡ true → length room < w.at + length_of b → (put b w room).answer ≡ Refused 33 w.at

-- after a refusal the writer's state and room, the buffers of a row and of a list of questions, the tally record and the room of an index, of a
-- mended or picked volume or of a record are what they were; a decoded row and an index are lent only to be read. An import that is refused leaves the room as it was, and the state
-- that it tells has begun no volume
pub record Unchanged : Type 0 where
  pub put : (b : Block) (w : Walk) (room : List ℕ) (n p : ℕ) → (put b w room).answer ≡ Refused n p → ((put b w room).walk ≡ w) × ((put b w room).room ≡ room)
  pub put_on : (b : Block) (w : Walk) (room : List ℕ) (n p : ℕ) → (put_on b w room).answer ≡ Refused n p
      → ((put_on b w room).walk ≡ w) × ((put_on b w room).room ≡ room)
  pub row : (f : List ℕ) (at : Where) (k k' : List ℕ) (h h' : List ℤ) (e : Refusal) → RowTold f at k h (Err e) k' h' → (k' ≡ k) × (h' ≡ h)
  pub tally : (old : Tally) (n p : ℕ) → (lent_of old (refused n p)).tally ≡ old
  pub index : (f before after : List ℕ) (e : Refusal) → Writes f before (Err e) after → after ≡ before
  pub imported : (g : Generic) (s : Site) (t : Task) (c f room : List ℕ) (n p : ℕ) → (import_of g s t c f room).answer ≡ Refused n p
      → ((import_of g s t c f room).walk ≡ at_start) × ((import_of g s t c f room).room ≡ room)
  pub mended : (f before after : List ℕ) (e : Refusal) → mend.Mends f before (Err e) after → after ≡ before
  pub picked : (f : List ℕ) (wanted : ℕ) (before after : List ℕ) (n p : ℕ) → pick.Picks f wanted before (picked.Refused n p) after → after ≡ before
  pub listed : (f x : List ℕ) (qs : List engine.Question) (k k' : List ℕ) (h h' : List ℤ) (e : Refusal) → engine.Answers f x qs k h (Err e) k' h' → (k' ≡ k) × (h' ≡ h)
  pub block : (n : ℕ) (room : List ℕ) (at : ℕ) (bs : List ℕ) → length room < at + n → stored n room at bs ≡ room

-- two results that keep one promise are the same: those of reading, of a gate, of what is told of it and of its answer, of
-- a row with its buffers, of codes and of a file, of a decoded row, of a tally, of an index, of a mended and of a picked volume, of a list of
-- questions with its buffers and of a put or an import with its room; every other promise is an equation
pub record Determined : Type 0 where
  pub verdict : (a b : Verdict) → verdict_told a ≡ verdict_told b → a ≡ b
  pub reading : (f : List ℕ) (a b : Reading) → Tells f a → Tells f b → a ≡ b
  pub gate : (a b : Gate) → told_gate a ≡ told_gate b → a ≡ b
  pub gate-told : (a b : Told) → values_of a ≡ values_of b → a ≡ b
  pub gate-asked : (a b : Result Told Refusal) → told_gate_answer a ≡ told_gate_answer b → a ≡ b
  pub check : (a b : Result Compared Refusal) → told_check a ≡ told_check b → a ≡ b
  pub tally : (a b : Result Tally Refusal) → told_tally a ≡ told_tally b → a ≡ b
  pub row : (c : Coding) (codes k : List ℕ) (h : List ℤ) (a b : Result ℕ Refusal) (k₁ k₂ : List ℕ) (h₁ h₂ : List ℤ) → Rowed c codes k h a k₁ h₁ → Rowed c codes k h b k₂ h₂
      → (a ≡ b) × (k₁ ≡ k₂) × (h₁ ≡ h₂)
  pub row-asked : (f : List ℕ) (at : Where) (k : List ℕ) (h : List ℤ) (a b : Result ℕ Refusal) (k₁ k₂ : List ℕ) (h₁ h₂ : List ℤ) → RowTold f at k h a k₁ h₁ → RowTold f at k h b k₂ h₂
      → (a ≡ b) × (k₁ ≡ k₂) × (h₁ ≡ h₂)
  pub index : (f before : List ℕ) (a b : Result ℕ Refusal) (x y : List ℕ) → Writes f before a x → Writes f before b y → (a ≡ b) × (x ≡ y)
  pub mended : (f before : List ℕ) (a b : Result (ℕ × Report) Refusal) (x y : List ℕ) → mend.Mends f before a x → mend.Mends f before b y → (a ≡ b) × (x ≡ y)
  pub picked : (f : List ℕ) (wanted : ℕ) (before : List ℕ) (a b : Picked) (x y : List ℕ) → pick.Picks f wanted before a x → pick.Picks f wanted before b y → (a ≡ b) × (x ≡ y)
  pub listed : (f x : List ℕ) (qs : List engine.Question) (k : List ℕ) (h : List ℤ) (a b : Result ℕ Refusal) (k₁ k₂ : List ℕ) (h₁ h₂ : List ℤ)
      → engine.Answers f x qs k h a k₁ h₁ → engine.Answers f x qs k h b k₂ h₂ → (a ≡ b) × (k₁ ≡ k₂) × (h₁ ≡ h₂)
  pub put : (o : Outcome) (p q : Put) (held other : List ℕ) → Puts o p held → Puts o q other → (p ≡ q) × (held ≡ other)

pub record DemandOne : Type 0 where
  pub endings : (f : List ℕ) → Ending f
  pub questions : (f : List ℕ) (n t : ℕ) → Questions f n t
  pub rows : (f : List ℕ) (at : Where) (k k' : List ℕ) (h h' : List ℤ) (r : Result ℕ Refusal) → Row f at k k' h h' r
  pub tallies : (f : List ℕ) (cut t : ℕ) (w : Wedge) → Tallied f cut t w
  pub indexes : (f : List ℕ) (room : ℕ) → Indexed f room
  pub mends : (f : List ℕ) (room : ℕ) → Bytes f → MendRefused f room
  pub picks : (f : List ℕ) (wanted room : ℕ) → PickRefused f wanted room
  pub lists : (f x : List ℕ) (n : ℕ) (k : List ℕ) (h : List ℤ) → ListRefused f x n k h
  pub writer : (b : Block) (w : Walk) (room : List ℕ) → WriterRefuses b w room
  pub unchanged : Unchanged
  pub determined : Determined

-- What the writer answers to a block, and what it leaves of state and room (document 01, "Writing").
use Rattle.std.specs.Prelude.{ℕ, ◌+◌, Bool, cond, List, [], ◌∷◌, ◌≡◌, leb, ltb, length}
use Rattle.le.specs.Le.{patch}
use Rattle.walk.specs.declared.due.Due.{Due}
use Rattle.walk.specs.declared.due.Walk.{Walk}
use Rattle.reading.specs.declared.step.Step.{Step}
use Rattle.reading.specs.declared.step.Step.TheVariants as step
use Rattle.walk.specs.Due.{is_end}
use Rattle.writer.specs.declared.order.Answer.{Answer}
use Rattle.writer.specs.declared.order.Answer.TheVariants.{Taken, Refused}
use Rattle.writer.specs.declared.order.Put.{Put}
use Rattle.writer.specs.Agree.{same_kind, agrees}
use Rattle.writer.specs.Block.{Block, kind_of, says_of, fits_of, length_of, bytes_of}

-- 35, then 33, at the end of what is written ("Writing": the order)
unfoldable pub last_tests : Bool → ℕ → ℕ → ℕ → Answer
last_tests fits at size room = cond fits (cond (leb (at + size) room) Taken (Refused 33 at)) (Refused 35 at)

-- what the reader refuses is refused with its number and place ("Writing": the table's checks, and 40). A block that is offered
-- has all its bytes and is due, so the last two lines are never used
unfoldable pub checked : Step → Answer → Answer
checked (step.Took m) a = a
checked (step.Refused n p) a = Refused n p
checked (step.Open n) a = a
checked step.Complete a = a

-- The answer to a block, by its kind, what the reader says of it, whether it has its header's length, and its size; room is
-- the room's length. The refusals stand in their order ("Writing"): 37, where the state is taken as it is given, only for
-- a room that ends before what is written; 25; 34; the table's checks; 40 (document 02, #110); 35; 33.
unfoldable pub answer_to : Due → Step → Bool → ℕ → Walk → ℕ → Answer
answer_to kind says fits size w room =
    cond (ltb room w.at) (Refused 37 0)
    (cond (is_end w.due) (Refused 25 w.at)
    (cond (same_kind w.due kind)
    (checked says (last_tests fits w.at size room))
    (Refused 34 w.at)))

-- an answer in document 01's words: a refusal's number and place; a block taken has none ("Field rules and refusal numbers")
unfoldable pub told_answer : Answer → List ℕ
told_answer Taken = []
told_answer (Refused n p) = n ∷ p ∷ []

-- the answer, the state from now on, and what the room then holds ("Writing", "What the promises settle")
pub record Outcome : Type 0 where
  pub answer : Answer
  pub walk : Walk
  pub room : List ℕ

-- the state after a block that the reader takes: the walk that its step leads to ("Writing")
unfoldable pub next_of : Step → Walk → Walk
next_of (step.Took m) w = m
next_of (step.Refused n p) w = w
next_of (step.Open n) w = w
next_of step.Complete w = w

-- the answer and the state from now on, by what the reader says of a block: all of an outcome but the room ("Writing")
unfoldable pub settled : Answer → Step → Walk → Put
settled Taken says w = record { answer = Taken; walk = next_of says w }
settled (Refused n p) says w = record { answer = Refused n p; walk = w }

abbrev pub settled_by : Due → Step → Bool → ℕ → Walk → ℕ → Put
settled_by kind says fits size w room = settled (answer_to kind says fits size w room) says w

-- a block taken is stored at the end of what is written, and no other byte changes; a refusal changes nothing ("Writing")
unfoldable pub outcome : Answer → Step → List ℕ → Walk → List ℕ → Outcome
outcome Taken says bs w room = record { answer = Taken; walk = next_of says w; room = patch room w.at bs }
outcome (Refused n p) says bs w room = record { answer = Refused n p; walk = w; room = room }

-- the block put where the state is taken as it is given ("Writing", once 37 is settled)
unfoldable pub put_on : Block → Walk → List ℕ → Outcome
put_on b w room =
    outcome (answer_to (kind_of b) (says_of b room w) (fits_of b w) (length_of b) w (length room)) (says_of b room w) (bytes_of b) w room

-- the block put where neither state nor room is believed ("Writing": 37 comes first)
unfoldable pub put : Block → Walk → List ℕ → Outcome
put b w room = cond (agrees w room) (put_on b w room) (record { answer = Refused 37 0; walk = w; room = room })

-- what a function of the writer promises: its answer, its state and the room are the outcome's ("What the promises settle")
pub record Puts (o : Outcome) (p : Put) (held : List ℕ) : Type 0 where
  pub answer : told_answer p.answer ≡ told_answer o.answer
  pub walk : p.walk ≡ o.walk
  pub room : held ≡ o.room

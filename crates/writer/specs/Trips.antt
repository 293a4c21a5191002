-- What reader and writer say of each other's blocks (demand 2; document 01, "Writing"). Each record below holds of every
-- block, state and room; proofs/ shows it.
use Rattle.std.specs.Prelude.{ℕ, ◌+◌, ◌≤◌, List, [], ◌∷◌, ◌++◌, ◌≡◌, length, take}
use Rattle.le.specs.Le.{Bytes, part, patch, run}
use Rattle.cut.specs.Cut.{cut_at, CutFits}
use Rattle.generic.specs.Generic.{generic_at, GenericFits}
use Rattle.moment.specs.Moment.{moment_at, MomentFits}
use Rattle.radial.specs.Radial.{radial_at, RadialFits}
use Rattle.site.specs.Site.{site_at, SiteFits}
use Rattle.task.specs.Task.{task_at, TaskFits}
use Rattle.walk.specs.declared.due.Due.{Due}
use Rattle.walk.specs.declared.due.Due.TheVariants as due
use Rattle.walk.specs.declared.due.Walk.{Walk}
use Rattle.reading.specs.declared.step.Step.TheVariants as step
use Rattle.walk.specs.Due.{size_of, at_start}
use Rattle.reading.specs.Reading.{walk_on, fuel, stop, told}
use Rattle.reading.specs.Step.{step_of}
use Rattle.writer.specs.declared.order.Answer.TheVariants.{Taken}
use Rattle.writer.specs.Agree.{written, Agrees}
use Rattle.writer.specs.Block.{Block, generic, site, task, cut, radial, moment, «data», kind_of, says_of, length_of, bytes_of}
use Rattle.writer.specs.Put.{Outcome, put_on, put}

-- a block is one that its type holds: each number in its range, each array of its length ("Blocks")
abbrev pub Fits : Block → Type 0
Fits (generic r) = GenericFits r
Fits (site r) = SiteFits r
Fits (task r) = TaskFits r
Fits (cut r) = CutFits r
Fits (radial r) = RadialFits r
Fits (moment r) = MomentFits r
Fits («data» bs) = Unit {0}

-- the outcome of a block that is taken: stored at the end of what is written, with the next state ("Writing")
abbrev pub stored_as : Block → Walk → Walk → List ℕ → Outcome
stored_as b w m room = record { answer = Taken; walk = m; room = patch room w.at (bytes_of b) }

-- reading would take the block there, and the room suffices: what is written, followed by the block's bytes, has a block
-- of this kind due, and the reader takes it with all its bytes (demand 2)
pub record WouldTake (b : Block) (w m : Walk) (room : List ℕ) : Type 0 where
  pub agree : Agrees w room
  pub kind : w.due ≡ kind_of b
  pub suffices : w.at + length_of b ≤ length room
  pub takes : step_of (written w room ++ bytes_of b) w ≡ step.Took m
  pub whole : m.at ≡ w.at + length_of b

-- a block is taken exactly then (demand 2)
pub record TakenWhen (b : Block) (w : Walk) (room : List ℕ) : Type 0 where
  pub only : (put b w room).answer ≡ Taken → WouldTake b w (put b w room).walk room
  pub always : (m : Walk) → WouldTake b w m room → put b w room ≡ stored_as b w m room

-- a block taken keeps agreement, and adds its bytes to what is written ("Writing"): so a run of blocks whose first state and
-- room agree may go through `put_on`
pub record Keeps (b : Block) (w : Walk) (room : List ℕ) : Type 0 where
  pub inner : Agrees w room → put_on b w room ≡ put b w room
  pub agree : (put b w room).answer ≡ Taken → Agrees (put b w room).walk (put b w room).room
  pub adds : (put b w room).answer ≡ Taken → written (put b w room).walk (put b w room).room ≡ written w room ++ bytes_of b

-- the block that is due, as it stands in f ("What reading tells"); where none is due, no bytes
abbrev pub block_in : Due → List ℕ → Walk → Block
block_in due.Generic f w = generic (generic_at f w.at)
block_in due.Site f w = site (site_at f w.at)
block_in due.Task f w = task (task_at f w.at)
block_in due.Cut f w = cut (cut_at f w.at)
block_in due.Radial f w = radial (radial_at f w.at)
block_in due.Moment f w = moment (moment_at f w.at)
block_in due.Data f w = «data» (part w.rest.length f w.at)
block_in due.Nothing f w = «data» []

-- a block that reading a file f takes, and a room that holds the bytes before it and has space for it ("What reading tells")
pub record FromFile (f : List ℕ) (w m : Walk) (room : List ℕ) : Type 0 where
  pub bytes : Bytes f
  pub reads : step_of f w ≡ step.Took m
  pub agree : Agrees w room
  pub same : written w room ≡ take w.at f
  pub suffices : w.at + size_of w ≤ length room

-- such a block is taken, with the state that reading f goes on with, and gives the same bytes (demand 2: read and written
-- again)
pub record SameBytes (f : List ℕ) (w m : Walk) (room : List ℕ) : Type 0 where
  pub taken : put (block_in w.due f w) w room ≡ stored_as (block_in w.due f w) w m room
  pub agree : Agrees m (put (block_in w.due f w) w room).room
  pub bytes : written m (put (block_in w.due f w) w room).room ≡ take m.at f

-- blocks of f, as reading finds them, put one after the other from a fresh state and a room on ("Writing")
pub data Copies (f room : List ℕ) : Walk → List ℕ → Type 0 where
  begun : Copies f room at_start room
  next : {w : Walk} {held : List ℕ} → Copies f room w held → (put (block_in w.due f w) w held).answer ≡ Taken
      → Copies f room (put (block_in w.due f w) w held).walk (put (block_in w.due f w) w held).room

-- every block that reading f accepts is taken, and what is then written is what was read of f (demand 2)
pub record CopyOf (f room : List ℕ) : Type 0 where
  pub held : List ℕ
  pub copies : Copies f room (stop f) held
  pub agree : Agrees (stop f) held
  pub bytes : written (stop f) held ≡ take (stop f).at f

-- a block taken and read again at its place is the same block (demand 2: written and read again)
abbrev pub SameBlock : Block → Walk → List ℕ → Type 0
SameBlock b w room = (put b w room).answer ≡ Taken → block_in w.due (put b w room).room w ≡ b

-- the blocks that reading f takes, from a walk on and from the start on, each as it stands there ("What reading tells")
abbrev pub blocks_from : ℕ → List ℕ → Walk → List Block
blocks_from k f w = walk_on (λ v. []) (λ v n r. block_in v.due f v ∷ r) k f w

abbrev pub blocks_in : List ℕ → List Block
blocks_in f = blocks_from (fuel f) f at_start

-- the states and rooms that a fresh state and any blocks taken after it lead to, with those blocks in their order ("Writing")
pub data Run : List Block → Walk → List ℕ → Type 0 where
  fresh : (room : List ℕ) → Run [] at_start room
  more : {bs : List Block} {w : Walk} {room : List ℕ} (b : Block) → Fits b → Run bs w room → (put b w room).answer ≡ Taken
      → Run (bs ++ b ∷ []) (put b w room).walk (put b w room).room

-- what is written is the bytes of those blocks, and reading it finds those blocks (demand 2: written and read again)
pub record SameBlocks (bs : List Block) (w : Walk) (room : List ℕ) : Type 0 where
  pub bytes : written w room ≡ run bytes_of bs
  pub blocks : blocks_in (written w room) ≡ bs

-- a block that the table's checks refuse, or 40, is refused by reading what is written, followed by that block, with this number and
-- place ("Writing": the place is that of the reader)
abbrev pub SamePlace : Block → Walk → List ℕ → Type 0
SamePlace b w room =
    Agrees w room → w.due ≡ kind_of b → (n p : ℕ) → says_of b room w ≡ step.Refused n p → told (written w room ++ bytes_of b) ≡ 2 ∷ n ∷ p ∷ []

-- a file is complete or open ("What reading tells")
pub data Ends (f : List ℕ) : Type 0 where
  is_complete : told f ≡ 0 ∷ [] → Ends f
  is_open : (n : ℕ) → told f ≡ 1 ∷ n ∷ [] → Ends f

-- what is written is read to its last byte, and it is complete or open at a block's end (demand 2)
pub record ReadBack (w : Walk) (room : List ℕ) : Type 0 where
  pub agree : Agrees w room
  pub all : (stop (written w room)).at ≡ length (written w room)
  pub ends : Ends (written w room)

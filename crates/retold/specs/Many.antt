-- Many blocks put one after the other and all taken: what state, room and what is written then are (document 01, "Writing").
use Rattle.std.specs.Prelude.{ℕ, ◌+◌, List, [], ◌∷◌, ◌++◌, ◌≡◌, length}
use Rattle.le.specs.Le.{patch, run}
use Rattle.writer.specs.Agree.{written, Agrees}
use Rattle.writer.specs.Block.{Block, bytes_of}
use Rattle.writer.specs.Many.{put_all}
use Rattle.writer.specs.Put.{Outcome}
use Rattle.writer.specs.Trips.{Fits}

-- each of some things is as P says
abbrev pub All : {A : Type 0} → (A → Type 0) → List A → Type 0
All P [] = Unit {0}
All P (x ∷ xs) = P x × All P xs

-- each is a block that its type holds ("Blocks")
abbrev pub FitsAll : List Block → Type 0
FitsAll bs = All Fits bs

-- what is written so far ("Writing")
abbrev pub written_in : Outcome → List ℕ
written_in o = written o.walk o.room

-- the blocks bs are put onto o: state and room agree again, the blocks' bytes stand behind what was written, and no other byte of
-- the room changes ("Writing")
pub record Added (bs : List Block) (o : Outcome) : Type 0 where
  pub agree : Agrees (put_all bs o).walk (put_all bs o).room
  pub adds : written_in (put_all bs o) ≡ written_in o ++ run bytes_of bs
  pub room : (put_all bs o).room ≡ patch o.room o.walk.at (run bytes_of bs)
  pub at : (put_all bs o).walk.at ≡ o.walk.at + length (run bytes_of bs)
  pub long : length (put_all bs o).room ≡ length o.room

-- Open means hope (document 02, #110): a file is told open where some further bytes would make it complete under all other rules, and
-- refused by 40 at the block behind which none would. Hope speaks only of bytes that exist (`hope/Hope`); the plain reading is the reading
-- with every other rule. What reading says of any file, by the structure, is `Means` (`Two`); growth is demand 3, as before (`Three`).
use Rattle.std.specs.Prelude.{ℕ, List, [], ◌∷◌, ◌↔◌, ◌≡◌, length, take}
use Rattle.le.specs.Le.{Bytes}
use Rattle.walk.specs.declared.due.Walk.{Walk}
use Rattle.reading.specs.declared.step.Step.TheVariants.{Took}
use Rattle.reading.specs.Step.{plain_step, step_of}
use Rattle.reading.specs.Reading.{plain_stop, plain_told, stop, told}
use Rattle.writer.specs.declared.order.Answer.TheVariants.{Refused}
use Rattle.writer.specs.Block.{Block}
use Rattle.writer.specs.Put.{put}
use Rattle.hope.specs.Hope.{Hope, Begins, Reached, Tested, Open, Lost, Against, ReadAlike, EndsHope}

pub record Hopes : Type 0 where
  -- hope, by the grammar: the file begins the bytes of some volume
  pub begins : (f : List ℕ) → Bytes f → Hope f ↔ Begins f
  -- the reading from the plain one: at every walk that it reaches, a block that the plain reading takes is taken where hope is left behind
  -- it, and refused by 40 at its first byte where none is; how that is decided is right; and where the plain one takes none, it says the same
  pub tested : (f : List ℕ) (w m : Walk) → Bytes f → Reached f w → plain_step f w ≡ Took m → Tested f w m
  pub otherwise : (f : List ℕ) (w : Walk) → ((m : Walk) → plain_step f w ≡ Took m → ⊥) → step_of f w ≡ plain_step f w
  -- the accepted blocks of every file have hope, whatever is told of it; they are read as the plain reading reads them
  pub accepted : (f : List ℕ) → Bytes f → Hope (take (stop f).at f)
  pub alike : (f : List ℕ) → Bytes f → ReadAlike f
  -- a file that ends at a block's end is told open exactly if some further bytes would make it complete, and it is not complete already
  pub at-end : (f : List ℕ) → Bytes f → (plain_stop f).at ≡ length f → Open f ↔ (Hope f × (told f ≡ 0 ∷ [] → ⊥))
  -- any file is told what its whole blocks deserve: open, by the same bytes as before, exactly if these have hope
  pub opens : (f : List ℕ) (n : ℕ) → Bytes f → (told f ≡ 1 ∷ n ∷ []) ↔ ((plain_told f ≡ 1 ∷ n ∷ []) × Hope (take (plain_stop f).at f))
  -- 40 is told exactly where hope ended
  pub forty : (f : List ℕ) (p : ℕ) → Bytes f → (told f ≡ 2 ∷ 40 ∷ p ∷ []) ↔ (Lost f × (p ≡ (stop f).at))
  -- complete files are those from before
  pub complete : (f : List ℕ) → Bytes f → (told f ≡ 0 ∷ []) ↔ (plain_told f ≡ 0 ∷ [])
  -- every other file is told what it was told before, or refused by 40 at an earlier block
  pub before : (f : List ℕ) → Bytes f → Against f
  -- the writer says 40 whatever the room, and keeps state and room
  pub writer : (b : Block) (w : Walk) (room : List ℕ) → EndsHope b w room → put b w room ≡ record { answer = Refused 40 w.at; walk = w; room = room }

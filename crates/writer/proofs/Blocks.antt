-- The blocks that a fresh state has taken are those that reading what is written finds. Assumes nothing.
use Prim.Native.Nat.{ℕ, ◌+◌}
use mathlib.Core.Bool.{true}
use mathlib.Core.Path.{◌≡◌, refl, sym, ap, ap₂, ◌∙◌}
use mathlib.Core.List.{List, [], ◌∷◌, ◌++◌}
use lib.ListN.{length, take}
use lib.Seq.{take-append-le, length-take-le}
use Rattle.le.specs.Le.{run}
use Rattle.le.proofs.Laws.{run_end}
use Rattle.walk.specs.declared.due.Walk.{Walk}
use Rattle.reading.specs.declared.step.Step.TheVariants.{Took}
use Rattle.walk.specs.Due.{size_of, at_start}
use Rattle.reading.specs.Step.{step_of}
use Rattle.reading.specs.Reading.{last, fuel, stop}
use Rattle.reading.proofs.Run.{taken, run_along, run-halts, run-took, run_step, run-stays, enough}
use Rattle.reading.proofs.Growing.{keeps-took}
use Rattle.writer.specs.Agree.{written}
use Rattle.writer.specs.Block.{Block, bytes_of}
use Rattle.writer.specs.Put.{put}
use Rattle.writer.specs.Trips.{block_in, blocks_from, blocks_in, Run, fresh, more, SameBlocks}
use Rattle.writer.proofs.Again.{same_block}
use Rattle.writer.proofs.Agreeing.{taken-when, keeps}
use Rattle.writer.proofs.Ahead.{stays_after}
use Rattle.writer.proofs.EachKind.{block-front}
use Rattle.writer.proofs.Runs.{nothing_read}

module _ (A C : List ℕ) where
  -- a block that was read of A stands the same in the longer file
  same_in : (w m : Walk) → step_of A w ≡ Took m → block_in w.due (A ++ C) w ≡ block_in w.due A w
  same_in w m e =
      sym (block-front w.due (A ++ C) w)
      ∙ ap (λ (f : List ℕ). block_in w.due f w) (take-append-le (w.at + size_of w) A C (taken A w m e).room)
      ∙ block-front w.due A w

  from : Walk → List Block
  from w = blocks_from (fuel (A ++ C)) (A ++ C) w

  from_step : (w m : Walk) → step_of (A ++ C) w ≡ Took m → from w ≡ block_in w.due (A ++ C) w ∷ from m
  unfolding from
  from_step w m e = run_step true (λ v. []) (λ v n r. block_in v.due (A ++ C) v ∷ r) (fuel (A ++ C)) (A ++ C) w m (enough (A ++ C) w) e

  -- the blocks of the longer file are those of A, and then those from where A's reading stops
  from_on : (k : ℕ) (w : Walk) → from w ≡ blocks_from k A w ++ from (last k A w)
  from_on =
      run_along true (λ v. []) (λ v n r. block_in v.due A v ∷ r) A (λ k w x. from w ≡ x ++ from (last k A w))
      (λ k w h. ap from (sym (run-halts true (λ v. v) (λ v n r. r) k A w h)))
      (λ k w m x e r. from_step w m (keeps-took A C w m e)
      ∙ ap₂ (λ (b : Block) (l : List Block). b ∷ l) (same_in w m e) (r ∙ ap (λ (v : Walk). x ++ from v) (sym (run-took true (λ v. v) (λ v n r. r) k A w m e))))

  -- one block more, which ends where the bytes end
  blocks_more : (w m : Walk) → stop A ≡ w → step_of (A ++ C) w ≡ Took m → m.at ≡ length (A ++ C) → blocks_in (A ++ C) ≡ blocks_in A ++ block_in w.due (A ++ C) w ∷ []
  unfolding from
  blocks_more w m s e l =
      from_on (fuel A) at_start
      ∙ ap (λ (bs : List Block). blocks_in A ++ bs)
      (ap from s ∙ from_step w m e
      ∙ ap (λ (bs : List Block). block_in w.due (A ++ C) w ∷ bs) (run-stays true (λ v. []) (λ v n r. block_in v.due (A ++ C) v ∷ r) (fuel (A ++ C)) (A ++ C) m (stays_after (A ++ C) w m e l)))

pub same_blocks : {bs : List Block} {w : Walk} {room : List ℕ} → Run bs w room → SameBlocks bs w room
unfolding run
same_blocks (fresh room) = record { bytes = refl; blocks = run-stays true (λ v. []) (λ v n r. block_in v.due [] v ∷ r) (fuel []) [] at_start nothing_read }
same_blocks (more {bs} {w} {room} b fits r t) =
    let before = same_blocks r in
    let m = (put b w room).walk in
    let held = (put b w room).room in
    let v = (taken-when b fits w room).only t in
    let k = keeps b fits w room in
    -- the block stands in what is then written as it stands in the room
    let found : block_in w.due (written m held) w ≡ b = ap (λ (n : ℕ). block_in w.due (take n held) w) (taken _ w m v.takes).end ∙ block-front w.due held w ∙ same_block b fits w room t in
    record {
      bytes = k.adds t ∙ ap (λ (x : List ℕ). x ++ bytes_of b) before.bytes ∙ sym (run_end bytes_of bs b);
      blocks =
          ap blocks_in (k.adds t)
          ∙ blocks_more (written w room) (bytes_of b) w m v.agree.stops v.takes (sym (length-take-le m.at held (k.agree t).within) ∙ ap length (k.adds t))
          ∙ ap₂ (λ (x : List Block) (y : Block). x ++ y ∷ []) before.blocks (ap (λ (f : List ℕ). block_in w.due f w) (sym (k.adds t)) ∙ found);
    }

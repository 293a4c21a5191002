-- The round trips through the writer: blocks read and written again give the same bytes, blocks written and read again are
-- the same blocks. Assumes nothing.
use Prim.Native.Nat.{ℕ, ◌+◌}
use native.Mathlib.Omega.{arith}
use mathlib.Core.Path.{◌≡◌, sym, ap, ap₂, subst⁻¹, ◌∙◌}
use mathlib.Core.List.{List, ◌++◌}
use lib.ListN.{length, take}
use Rattle.le.specs.Le.{part, patch}
use lib.Seq.{length-take-le, take-take}
use Rattle.le.proofs.Laws.{length_part, part-take, length-patch, part-patch}
use Rattle.walk.specs.declared.due.Due.{Due}
use Rattle.walk.specs.declared.due.Due.TheVariants as due
use Rattle.walk.specs.declared.due.Walk.{Walk}
use Rattle.reading.specs.declared.step.Step.TheVariants as step
use Rattle.walk.specs.Due.{size_at, size_of, cut_place}
use Rattle.reading.specs.Reading.{stop}
use Rattle.reading.specs.Step.{say_block, step_of}
use Rattle.reading.proofs.Run.{is-here, taken}
use Rattle.writer.specs.Agree.{written, Agrees}
use Rattle.writer.specs.Block.{Block, says_of, length_of, bytes_of}
use Rattle.writer.specs.Put.{checked, Outcome, put}
use Rattle.writer.specs.Trips.{Fits, stored_as, block_in, FromFile, SameBytes, SameBlock}
use Rattle.writer.proofs.Agreeing.{put-passed, taking}
use Rattle.writer.proofs.Ahead.{stops-next}
use Rattle.writer.proofs.Bytes.{front-part, front-patch}
use Rattle.writer.proofs.EachKind.{long, size_is, finds, says-in, kind-in, fits_in, bytes-in, block-front}
use Rattle.writer.proofs.Places.{cut-behind}

module _ (f : List ℕ) (w m : Walk) (room : List ℕ) (from : FromFile f w m room) where
  block : Block
  block = block_in w.due f w

  -- a radial's cut lies in what is written, and so reads the same in the file and in the room
  cut-same : w.due ≡ due.Radial → part 256 (take (w.at + size_of w) f) (cut_place w.count.cut) ≡ part 256 room (cut_place w.count.cut)
  cut-same d =
      let place = cut_place w.count.cut in
      let h = cut-behind (written w room) w from.agree.stops d in
      part-take 256 f place (w.at + size_of w) (omega arith)
      ∙ sym (part-take 256 f place w.at h)
      ∙ ap (λ (l : List ℕ). part 256 l place) (sym from.same)
      ∙ part-take 256 room place w.at h

  says : says_of block room w ≡ step.Took m
  unfolding block
  says =
      let t = taken f w m from.reads in
      let p = take (w.at + size_of w) f in
      ap (λ (x : Block). says_of x room w) (sym (block-front w.due f w))
      ∙ sym (says-in w.due p room w t.going cut-same)
      ∙ sym (is-here f w t.going t.room)
      ∙ from.reads

  size : length_of block ≡ size_of w
  unfolding block
  size =
      let i = (taken f w m from.reads).going in
      size_is block w (fits_in w.due f w i) ∙ ap (λ (d : Due). size_at d w.rest.length) (kind-in w.due f w i)

  takes : put block w room ≡ stored_as block w m room
  unfolding block checked
  takes =
      let i = (taken f w m from.reads).going in
      let l = size in
      let r = from.suffices in
      put-passed block w room m from.agree
      (record {
        within = from.agree.within;
        going = i;
        kind-due = sym (kind-in w.due f w i);
        rules = rw says;
        whole = fits_in w.due f w i;
        suffices = omega arith;
      }) says

  -- the reader, at the file's bytes up to the block's end
  front : written w room ++ part (size_of w) f w.at ≡ take (w.at + size_of w) f
  front =
      ap (λ (l : List ℕ). l ++ part (size_of w) f w.at) from.same
      ∙ front-part (size_of w) f w.at (taken f w m from.reads).room

  reads-front : step_of (written w room ++ part (size_of w) f w.at) w ≡ step.Took m
  reads-front =
      let t = taken f w m from.reads in
      let p = take (w.at + size_of w) f in
      let l = length-take-le (w.at + size_of w) f t.room in
      ap (λ (x : List ℕ). step_of x w) front
      ∙ is-here p w t.going (omega arith)
      ∙ ap (λ (x : List ℕ). say_block w.due x w) (take-take (w.at + size_of w) (w.at + size_of w) f (omega arith))
      ∙ sym (is-here f w t.going t.room)
      ∙ from.reads

  adds : written m (patch room w.at (bytes_of block)) ≡ take (w.at + size_of w) f
  unfolding block
  adds =
      let t = taken f w m from.reads in
      let bs = bytes-in w.due f w from.bytes t.going in
      let l : length (bytes_of block) ≡ size_of w = ap length bs ∙ length_part (size_of w) f w.at in
      ap (λ (n : ℕ). take n (patch room w.at (bytes_of block))) t.end
      ∙ front-patch room w.at (bytes_of block) (size_of w) l from.agree.within
      ∙ ap (λ (x : List ℕ). written w room ++ x) bs
      ∙ front

  stored-length : length (patch room w.at (bytes_of block)) ≡ length room
  unfolding block
  stored-length =
      let bs = bytes-in w.due f w from.bytes (taken f w m from.reads).going in
      let l : length (bytes_of block) ≡ size_of w = ap length bs ∙ length_part (size_of w) f w.at in
      let r = from.suffices in
      length-patch room w.at (bytes_of block) (omega arith)

  agree-next : Agrees m (patch room w.at (bytes_of block))
  agree-next =
      let t = taken f w m from.reads in
      let e = t.end in
      let r = from.suffices in
      let l = stored-length in
      record {
        within = omega arith;
        stops =
            ap stop (adds ∙ sym front)
            ∙ stops-next (written w room) (part (size_of w) f w.at) w m from.agree.stops reads-front
            (e ∙ sym (ap length front ∙ length-take-le (w.at + size_of w) f t.room));
      }

  pub same_bytes : SameBytes f w m room
  unfolding block
  same_bytes =
      record {
        taken = takes;
        agree = subst⁻¹ (λ (o : Outcome). Agrees m o.room) takes agree-next;
        bytes =
            ap (λ (o : Outcome). written m o.room) takes
            ∙ adds
            ∙ ap (λ (n : ℕ). take n f) (sym (taken f w m from.reads).end);
      }

  pub same_length : length (put (block_in w.due f w) w room).room ≡ length room
  unfolding block
  same_length = ap (λ (o : Outcome). length o.room) takes ∙ stored-length

pub same_block : (b : Block) → Fits b → (w : Walk) (room : List ℕ) → SameBlock b w room
same_block b fits w room t =
    let g = taking b w room t in
    let h = g.passed in
    ap₂ (λ (d : Due) (o : Outcome). block_in d o.room w) h.kind-due g.is
    ∙ finds b fits (patch room w.at (bytes_of b)) w h.whole (part-patch (length_of b) room w.at (bytes_of b) (long b fits) h.suffices)

-- The room takes the index, is too short for it, or the file is not complete. Assumes nothing.
use Prim.Native.Nat.{ℕ}
use mathlib.Core.List.{[], ◌∷◌}
use mathlib.Core.Path.{sym, ap, ◌∙◌}
use native.Mathlib.Omega.{arith}
use borrow.Author.Tests.{le-leb, lt-leb}
use lib.ListN.{length}
use Rattle.le.specs.Le.{patch}
use Rattle.le.proofs.Laws.{stored-in, stored-out}
use Rattle.index.specs.Index.{index_of}
use Rattle.index.specs.Answer.{told_index, answer_of, room_of}
use Rattle.index.proofs.Layouts.{Laid, says}
use Rattle.index.proofs.write.Goals as goal

fits : (c : goal.After-put-arg-1) → let a = c.args in
    Laid a.file.now (length a.room.now) c.in-Fits.cuts c.in-Fits.radials c.in-Fits.size
fits c = says _ _ _ (sym c.layout_of.ensures ∙ c.in-Fits.is)

pub put-requires : goal.put-requires
put-requires c =
    let f = fits c in record { cuts_value = f.said; radials_value = f.count; file_in_bounds = rw f.index f.room }

fits-2 : (c : goal.After-slice_known-in-Fits-1) → let a = c.args in
    Laid a.file.now (length a.room.now) c.in-Fits.cuts c.in-Fits.radials c.in-Fits.size
fits-2 c = says _ _ _ (sym c.layout_of.ensures ∙ c.in-Fits.is)

pub returns-in-Fits : goal.returns-in-Fits
unfolding told_index answer_of room_of
returns-in-Fits c =
    let a = c.args in
    let f = fits-2 c in
    let h = f.room in
    record {
      answer = rw (f.whole, le-leb (length (index_of a.file.now)) (length a.room.now) h) (ap (λ (n : ℕ). n ∷ []) f.long);
      room =
          rw f.whole
          (c.put.ensures ∙ ap (patch a.room.now 0) f.index
          ∙ sym (stored-in (length (index_of a.file.now)) a.room.now 0 (index_of a.file.now) (omega arith)));
    }

pub returns-in-Short : goal.returns-in-Short
unfolding told_index answer_of room_of
returns-in-Short c =
    let a = c.args in
    let s = says a.file.now (length a.room.now) _ (sym c.layout_of.ensures ∙ c.in-Short.is) in
    let h = s.1 in
    record {
      answer = rw (s.0, lt-leb (length (index_of a.file.now)) (length a.room.now) h);
      room = rw s.0 (sym (stored-out (length (index_of a.file.now)) a.room.now 0 (index_of a.file.now) (omega arith)));
    }

pub returns-in-Unfinished : goal.returns-in-Unfinished
unfolding told_index answer_of room_of
returns-in-Unfinished c =
    let a = c.args in
    let u = says a.file.now (length a.room.now) _ (sym c.layout_of.ensures ∙ c.in-Unfinished.is) in
    record { answer = rw u; room = rw u }

-- The last kept radial decides everything; where it lies is what the private functions ask. Assumes nothing.
use Prim.Native.Nat.{ℕ}
use mathlib.Core.Path.{sym, ap₂, ◌∙◌}
use native.Mathlib.Omega.{arith}
use borrow.Author.Tests.{le-leb, lt-leb}
use lib.ListN.{length}
use Rattle.le.specs.Le.{Bytes}
use Rattle.le.proofs.Laws.{stored-in, stored-out}
use Rattle.refusal.proofs.Handed.{handed-on}
use Rattle.gates.specs.Telling.{answered}
use Rattle.mend.specs.declared.report.Report.{Report}
use Rattle.mend.specs.Mend.{said, mended, answer_by, room_by}
use Rattle.mend.proofs.Lying.{lies}
use Rattle.mend.proofs.Tellings.{kept-there, kept-nowhere}
use Rattle.mend.proofs.mend.Goals as goal

-- where nothing is kept, that is what `?` hands on
pub returns-in_err-s : goal.returns-in_err-s
unfolding answer_by room_by
returns-in_err-s c =
    let none = kept-nowhere _ _ _ _ c.last_kept.ensures (sym c.ok_or.ensures.value ∙ c.in_err-s.was) in
    rw (handed-on c.from_residual.ensures.1, none.1) (record { answer = rw none.0; room = rw none.0 })

pub size_of-size-requires : goal.size_of-size-requires
size_of-size-requires c =
    let known = kept-there _ _ _ _ c.last_kept.ensures (sym c.ok_or.ensures.value ∙ c.in_ok-s.was) in
    let bs : Bytes c.args.file.now = record { byte = λ i. (c.shared_slice_known-1.given i).fits } in
    lies _ bs _ known

pub returns-then-room-size : goal.returns-then-room-size
unfolding answer_by room_by
returns-then-room-size c =
    let a = c.args in
    let f = a.file.now in
    let s = c.in_ok-s.s in
    let known = kept-there _ _ _ _ c.last_kept.ensures (sym c.ok_or.ensures.value ∙ c.in_ok-s.was) in
    let size = c.size_of-size.ensures in
    record {
      answer = rw (known, lt-leb (length (mended f s)) (length a.room.now) (omega arith));
      room = rw known (sym (stored-out (length (mended f s)) a.room.now 0 (mended f s) (omega arith)));
    }

pub lay-requires-clause-lies : goal.lay-requires-clause-lies
lay-requires-clause-lies c =
    let known = kept-there _ _ _ _ c.last_kept.ensures (sym c.ok_or.ensures.value ∙ c.in_ok-s.was) in
    let bs : Bytes c.args.file.now = record { byte = λ i. (c.shared_slice_known-1.given i).fits } in
    lies _ bs _ known

pub report_of-requires : goal.report_of-requires
report_of-requires c =
    let known = kept-there _ _ _ _ c.last_kept.ensures (sym c.ok_or.ensures.value ∙ c.in_ok-s.was) in
    let bs : Bytes c.args.file.now = record { byte = λ i. (c.shared_slice_known-1.given i).fits } in
    lies _ bs _ known

pub returns : goal.returns
unfolding answer_by room_by
returns c =
    let a = c.args in
    let f = a.file.now in
    let s = c.in_ok-s.s in
    let known = kept-there _ _ _ _ c.last_kept.ensures (sym c.ok_or.ensures.value ∙ c.in_ok-s.was) in
    let size = c.size_of-size.ensures in
    let fits = c.if-room-size.false in
    record {
      answer = rw (known, le-leb (length (mended f s)) (length a.room.now) (omega arith)) (ap₂ (λ (n : ℕ) (r : Report). answered (said n r)) size c.report_of.ensures);
      room = rw known (c.lay.ensures ∙ sym (stored-in (length (mended f s)) a.room.now 0 (mended f s) (omega arith)));
    }

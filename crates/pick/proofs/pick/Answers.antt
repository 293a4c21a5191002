-- What the first pass found decides everything. Assumes nothing.
use Prim.Native.Nat.{ℕ}
use native.Mathlib.Omega.{arith}
use mathlib.Core.Path.{sym, ap, ◌∙◌}
use borrow.Author.Tests.{le-leb, lt-leb}
use lib.ListN.{length}
use Rattle.le.proofs.Laws.{stored-in, stored-out}
use Rattle.gates.specs.Telling.{answered, refused}
use Rattle.pick.specs.Pick.{answer_by, picked, room_by}
use Rattle.pick.proofs.Planning.{is-complete}
use Rattle.pick.proofs.Plans.{Fitting, fitting, emptied, not-complete}
use Rattle.pick.proofs.pick.Goals as goal

-- where it can be taken
fits : (c : goal.Then-room-size) → let a = c.args in
    Fitting a.wanted a.file.now c.in-Fits.radials c.in-Fits.size
fits c = fitting _ _ _ _ (sym c.plan_of.ensures ∙ c.in-Fits.is)

pub returns-then-room-size : goal.returns-then-room-size
unfolding answer_by room_by
returns-then-room-size c =
    let a = c.args in
    let p = fits c in
    let x = picked a.wanted a.file.now in
    let l = p.long in
    record {
      answer = rw (p.whole, p.left, lt-leb (length x) (length a.room.now) (omega arith));
      room = rw (p.whole, p.left) (sym (stored-out (length x) a.room.now 0 x (omega arith)));
    }

fits-2 : (c : goal.After-lay-arg-1) → let a = c.args in
    Fitting a.wanted a.file.now c.in-Fits.radials c.in-Fits.size
fits-2 c = fitting _ _ _ _ (sym c.plan_of.ensures ∙ c.in-Fits.is)

pub lay-requires : goal.lay-requires
lay-requires c =
    let p = fits-2 c in
    let l = p.long in
    record { complete = is-complete _ p.whole; radials_value = p.all; file_in_bounds = omega arith }

fits-3 : (c : goal.After-slice_known-in-Fits-1) → let a = c.args in
    Fitting a.wanted a.file.now c.in-Fits.radials c.in-Fits.size
fits-3 c = fitting _ _ _ _ (sym c.plan_of.ensures ∙ c.in-Fits.is)

pub returns-else-room-size : goal.returns-else-room-size
unfolding answer_by room_by
returns-else-room-size c =
    let a = c.args in
    let p = fits-3 c in
    let x = picked a.wanted a.file.now in
    let l = p.long in
    record {
      answer = rw (p.whole, p.left, le-leb (length x) (length a.room.now) (omega arith)) (ap answered l);
      room = rw (p.whole, p.left) (c.lay.ensures ∙ sym (stored-in (length x) a.room.now 0 x (omega arith)));
    }

pub returns-in-Empty : goal.returns-in-Empty
unfolding answer_by room_by
returns-in-Empty c =
    let e = emptied _ _ _ (sym c.plan_of.ensures ∙ c.in-Empty.is) in
    record { answer = rw (e.whole, e.is) (ap (λ (n : ℕ). refused 60 n) e.at); room = rw (e.whole, e.is) }

pub returns-in-Unfinished : goal.returns-in-Unfinished
returns-in-Unfinished c =
    let e = not-complete _ _ (sym c.plan_of.ensures ∙ c.in-Unfinished.is) in
    record { answer = rw e; room = rw e }

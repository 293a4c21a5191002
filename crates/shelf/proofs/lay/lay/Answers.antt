-- The header's length of data is how many bytes its moments have, so the test is that all of them fit. Assumes nothing.
use Rattle.std.proofs.Common.{◌≡◌, ℕ, ◌+◌, ◌≤◌, leb, List, length, sym, ap, ◌∙◌, arith, leb-false, leb-true}
use Rattle.le.specs.Le.{patch, run}
use Rattle.le.proofs.Laws.{stored-in, stored-out}
use Rattle.radial.specs.declared.Radial.{Radial}
use Rattle.radial.specs.Radial.{radial_size}
use Rattle.writer.specs.Block.{bytes_of}
use Rattle.retold.specs.Retold.{radial_blocks}
use Rattle.old.specs.Headers.{data_length, radial_from}
use Rattle.shelf.specs.Import.{moments_of}
use Rattle.shelf.specs.Settled.{counted, radial_next}
use Rattle.shelf.proofs.Laying.{radial-long}
use Rattle.shelf.proofs.lay.lay.Goals as goal

size : (c : goal.After-lay_here-arg-1) → c.radial_next-r.result.length_of_data ≡ data_length c.args.o
unfolding radial_from
size c = ap (λ (r : Radial). r.length_of_data) c.radial_next-r.ensures

-- whether there is room
room_for : (c : goal.After-lay_here-arg-1) → let a = c.args in
    c.has.result ≡ leb (a.w.at + (radial_size + data_length a.o)) (length a.room.now)
room_for c = rw (← size c) c.has.ensures

fits : (c : goal.After-lay_here-arg-1) → let a = c.args in
    a.w.at + (radial_size + data_length a.o) ≤ length a.room.now
fits c = leb-true _ _ (sym (room_for c) ∙ c.if-has.true)

pub lay_here-requires : goal.lay_here-requires
lay_here-requires c =
    let t = fits c in
    (omega arith, c.requires.0, c.requires.1)

size-2 : (c : goal.After-slice_known-then-has-1) → c.radial_next-r.result.length_of_data ≡ data_length c.args.o
unfolding radial_from
size-2 c = ap (λ (r : Radial). r.length_of_data) c.radial_next-r.ensures

room_for-2 : (c : goal.After-slice_known-then-has-1) → let a = c.args in
    c.has.result ≡ leb (a.w.at + (radial_size + data_length a.o)) (length a.room.now)
room_for-2 c = rw (← size-2 c) c.has.ensures

fits-2 : (c : goal.After-slice_known-then-has-1) → let a = c.args in
    a.w.at + (radial_size + data_length a.o) ≤ length a.room.now
fits-2 c = leb-true _ _ (sym (room_for-2 c) ∙ c.if-has.true)

-- what is to be laid down, and how long it is
abbrev laid : goal.After-slice_known-then-has-1 → List ℕ
laid s = let a = s.args in run bytes_of (radial_blocks (radial_next a.o a.w) (moments_of a.o a.old.now a.from))

long : (s : goal.After-slice_known-then-has-1) → length (laid s) ≡ radial_size + data_length s.args.o
long s = let a = s.args in radial-long a.o (counted a.w.count.whole) (counted a.w.count.in_cut) s.requires.1 a.old.now a.from

pub returns-then-has : goal.returns-then-has
returns-then-has c =
    let a = c.args in
    let l = long c in
    let h = fits-2 c in
    c.lay_here.ensures
    ∙ ap (λ (r : Radial). patch a.room.now a.w.at (run bytes_of (radial_blocks r (moments_of a.o a.old.now a.from))))
    c.radial_next-r.ensures
    ∙ sym (stored-in _ a.room.now a.w.at (laid c) (omega arith))

size-3 : (c : goal.Else-has) → c.radial_next-r.result.length_of_data ≡ data_length c.args.o
unfolding radial_from
size-3 c = ap (λ (r : Radial). r.length_of_data) c.radial_next-r.ensures

room_for-3 : (c : goal.Else-has) → let a = c.args in
    c.has.result ≡ leb (a.w.at + (radial_size + data_length a.o)) (length a.room.now)
room_for-3 c = rw (← size-3 c) c.has.ensures

abbrev laid-2 : goal.Else-has → List ℕ
laid-2 s = let a = s.args in run bytes_of (radial_blocks (radial_next a.o a.w) (moments_of a.o a.old.now a.from))

long-2 : (s : goal.Else-has) → length (laid-2 s) ≡ radial_size + data_length s.args.o
long-2 s = let a = s.args in radial-long a.o (counted a.w.count.whole) (counted a.w.count.in_cut) s.requires.1 a.old.now a.from

pub returns-else-has : goal.returns-else-has
returns-else-has c =
    let a = c.args in
    let l = long-2 c in
    let h = leb-false (a.w.at + (radial_size + data_length a.o)) (length a.room.now) (sym (room_for-3 c) ∙ c.if-has.false) in
    sym (stored-out _ a.room.now a.w.at (laid-2 c) (omega arith))

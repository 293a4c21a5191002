-- The loop's invariant: the entries so far stand in the room, and the rest is still to come. Assumes nothing.
use Prim.Native.Nat.{◌+◌, ◌^◌, ◌<◌}
use native.Mathlib.Nat.{zero-add}
use native.Mathlib.Omega.{arith}
use mathlib.Core.Path.{refl, sym, ap, ap₂, ◌∙◌}
use lib.ListN.{length}
use Rattle.le.specs.Le.{bytes, stored}
use Rattle.le.proofs.Laws.{length-bytes, bytes_low}
use Rattle.reading.specs.Reading.{stretches}
use Rattle.index.specs.Index.{start_of, index_for}
use Rattle.index.specs.Making.{second_at}
use Rattle.index.proofs.Sections.{length-index, start-here, radials-here}
use Rattle.index.proofs.Filled.{Filled, filled_none, filled-low, filled-high, filled-all, filled-anew, filled-over}
use Rattle.index.proofs.Entries.{made, AtCount, at_count, AtPlace, at_place, at-end}
use Rattle.index.proofs.making.put.Goals as goal

-- ---- the counts with which the sections start
pub overflow_add-second : goal.overflow_add-second
overflow_add-second c =
    let l = length-index c.args.cuts (stretches c.args.file.now) in
    omega (arith, c.requires.file_in_bounds, c.well_formed, c.second_at-second.ensures)

heads : (c : goal.After-first_radial-at) → let a = c.args in
    Filled (index_for a.cuts (stretches a.file.now)) a.room.now (second_at a.cuts) (0 + length (start_of a.cuts)) (second_at a.cuts + 4) c.put_u32.new.room
heads c =
    let p = c.put_start in
    let cuts = c.args.cuts in
    let ss = stretches c.args.file.now in
    let l = length-index cuts ss in
    let none = filled_none (index_for cuts ss) c.args.room.now (second_at cuts) c.requires.file_in_bounds (omega arith) in
    let one = filled-low none (length (start_of cuts)) (start_of cuts) refl p.ensures (start-here cuts ss) (omega arith) in
    filled-high one 4 (bytes 4 (length ss)) (length-bytes 4 (length ss))
    (c.put_u32.ensures
    ∙ ap₂ (stored 4 p.new.room) c.second_at-second.ensures
    (ap (bytes 4) c.word.ensures ∙ bytes_low 4 c.args.radials ∙ ap (bytes 4) c.requires.radials_value))
    (radials-here cuts ss) (omega arith)

pub loop-room-init : goal.loop-room-init
loop-room-init c =
    let cuts = c.args.cuts in
    let f = c.args.file.now in
    let l : length (index_for cuts (stretches f)) < 2 ^ 64 = omega (arith, c.requires.file_in_bounds, c.well_formed) in
    let h = filled-anew (heads c) in
    rw (c.second_at-second.ensures, c.start_length-first.ensures, c.first_radial-at.ensures, c.requires.radials_value)
    (made f cuts c.requires.cuts_value l, rw (zero-add (length (start_of cuts))) at h)

-- ---- a cut's count
count-here : (c : goal.After-slice_known-in-Count-1) → AtCount c.loop-room.invariant.0 c.read-header.result c.read-header.ensures
count-here c = at_count c.loop-room.invariant.0 _ _ (sym c.entry_due.ensures ∙ c.in-Count.is)

pub overflow_add-first : goal.overflow_add-first
overflow_add-first c = let b = (count-here c).first_fits in omega arith

pub overflow_add-cut : goal.overflow_add-cut
overflow_add-cut c = let b = (count-here c).cut_fits in omega arith

pub loop-room-smaller-in-Count : goal.loop-room-smaller-in-Count
loop-room-smaller-in-Count c = (count-here c).less

pub loop-room-preserved-in-Count : goal.loop-room-preserved-in-Count
loop-room-preserved-in-Count c =
    let l = c.loop-room in
    let a = count-here c in
    let e =
    c.put_u16.ensures
    ∙ ap (stored 2 l.room l.first) (ap (bytes 2) c.half.ensures ∙ bytes_low 2 l.count) in
    (a.then, filled-low l.invariant.1 2 (bytes 2 l.count) (length-bytes 2 l.count) e a.entry a.room)

-- ---- a radial's place
place_here : (c : goal.After-slice_known-in-Place-1) → AtPlace c.loop-room.invariant.0 c.read-header.result c.read-header.ensures
place_here c = at_place c.loop-room.invariant.0 _ _ (sym c.entry_due.ensures ∙ c.in-Place.is)

pub overflow_add-second-in-Place : goal.overflow_add-second-in-Place
overflow_add-second-in-Place c = let b = (place_here c).second_fits in omega arith

pub overflow_add-count : goal.overflow_add-count
overflow_add-count c = let b = (place_here c).count_fits in omega arith

pub behind-at-requires : goal.behind-at-requires
behind-at-requires c = let b = (place_here c).header in omega (arith, c.well_formed)

place_here-2 : (c : goal.After-behind-at) → AtPlace c.loop-room.invariant.0 c.read-header.result c.read-header.ensures
place_here-2 c = at_place c.loop-room.invariant.0 _ _ (sym c.entry_due.ensures ∙ c.in-Place.is)

pub overflow_sub-left : goal.overflow_sub-left
overflow_sub-left c = let b = (place_here-2 c).some in omega arith

pub loop-room-smaller : goal.loop-room-smaller
loop-room-smaller c = (place_here-2 c).less

pub loop-room-preserved : goal.loop-room-preserved
loop-room-preserved c =
    let l = c.loop-room in
    let a = place_here-2 c in
    (rw c.behind-at.ensures a.then, filled-high l.invariant.1 8 _ (length-bytes 8 _) c.put_u64.ensures a.entry a.room)

heads-2 : (c : goal.In-End) → let a = c.args in
    Filled (index_for a.cuts (stretches a.file.now)) a.room.now (second_at a.cuts) (0 + length (start_of a.cuts)) (second_at a.cuts + 4) c.put_u32.new.room
heads-2 c =
    let p = c.put_start in
    let cuts = c.args.cuts in
    let ss = stretches c.args.file.now in
    let l = length-index cuts ss in
    let none = filled_none (index_for cuts ss) c.args.room.now (second_at cuts) c.requires.file_in_bounds (omega arith) in
    let one = filled-low none (length (start_of cuts)) (start_of cuts) refl p.ensures (start-here cuts ss) (omega arith) in
    filled-high one 4 (bytes 4 (length ss)) (length-bytes 4 (length ss))
    (c.put_u32.ensures
    ∙ ap₂ (stored 4 p.new.room) c.second_at-second.ensures
    (ap (bytes 4) c.word.ensures ∙ bytes_low 4 c.args.radials ∙ ap (bytes 4) c.requires.radials_value))
    (radials-here cuts ss) (omega arith)

-- ---- the end
pub shape_of-room-in-End : goal.shape_of-room-in-End
shape_of-room-in-End c = c.loop-room.invariant.1.long ∙ (heads-2 c).long

pub returns-in-End : goal.returns-in-End
returns-in-End c =
    let l = c.loop-room in
    let e = at-end l.invariant.0 _ c.read-header.ensures (sym c.entry_due.ensures ∙ c.in-End.is) in
    filled-all l.invariant.1 e.0 e.1 ∙ filled-over (heads-2 c)

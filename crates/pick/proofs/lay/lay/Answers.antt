-- The three parts are laid one behind the other. Assumes nothing.
use native.Mathlib.Omega.{arith}
use mathlib.Core.Path.{◌≡◌, refl, sym, ap, ◌∙◌}
use lib.ListN.{length, take}
use lib.Seq.{length-take-le}
use Rattle.le.specs.Le.{Bytes}
use Rattle.le.proofs.Laws.{length-patch}
use Rattle.pick.proofs.Putting.{stored-long}
use Rattle.pick.proofs.Standing.{Stands, stands}
use Rattle.pick.proofs.Turns.{all_laid, cuts-long, picked-long}
use Rattle.pick.proofs.lay.lay.Goals as goal

-- where the blocks stand
known : (c : goal.After-put-arg-1) → Stands c.args.file.now
known c =
    let bs : Bytes c.args.file.now = record { byte = λ i. (c.shared_slice_known-1.given i).fits } in
    stands c.args.file.now bs c.requires.complete

pub slice_bounds-put-end : goal.slice_bounds-put-end
slice_bounds-put-end c =
    let k = known c in
    let a = k.at in
    let w = k.within in
    let e = c.cut_place-first.ensures in
    sym (length-take-le _ _ (omega arith))

known-2 : (c : goal.After-lay_cuts-arg-1) → Stands c.args.file.now
known-2 c =
    let bs : Bytes c.args.file.now = record { byte = λ i. (c.shared_slice_known-1.given i).fits } in
    stands c.args.file.now bs c.requires.complete

-- the room keeps its length
put-long : (c : goal.After-lay_cuts-arg-1) → length c.put.new.room ≡ length c.args.room.now
put-long c =
    let a = c.args in
    ap length c.put.ensures ∙ stored-long _ a.room.now 0 (take c.cut_place-first.result a.file.now) refl

pub lay_cuts-requires : goal.lay_cuts-requires
lay_cuts-requires c =
    let l = picked-long c.args.wanted c.args.file.now (known-2 c) in
    let r = c.requires.file_in_bounds in
    let q = put-long c in
    record { complete = c.requires.complete; file_in_bounds = omega arith }

known-3 : (c : goal.After-lay_radials-arg-1) → Stands c.args.file.now
known-3 c =
    let bs : Bytes c.args.file.now = record { byte = λ i. (c.shared_slice_known-1.given i).fits } in
    stands c.args.file.now bs c.requires.complete

put-long-2 : (c : goal.After-lay_radials-arg-1) → length c.put.new.room ≡ length c.args.room.now
put-long-2 c =
    let a = c.args in
    ap length c.put.ensures ∙ stored-long _ a.room.now 0 (take c.cut_place-first.result a.file.now) refl

pub lay_radials-requires : goal.lay_radials-requires
lay_radials-requires c =
    let k = known-3 c in
    let l = picked-long c.args.wanted c.args.file.now k in
    let m = cuts-long c.args.wanted c.args.file.now k in
    let r = c.requires.file_in_bounds in
    let q = put-long-2 c in
    let t = ap length c.lay_cuts.ensures ∙ length-patch c.put.new.room 416 _ (omega arith) in
    record { complete = c.requires.complete; radials_value = c.requires.radials_value; file_in_bounds = omega arith }

known-4 : (c : goal.After-slice_known-4-1) → Stands c.args.file.now
known-4 c =
    let bs : Bytes c.args.file.now = record { byte = λ i. (c.shared_slice_known-1.given i).fits } in
    stands c.args.file.now bs c.requires.complete

pub returns : goal.returns
returns c =
    all_laid c.args.wanted c.args.file.now c.args.room.now (known-4 c) c.requires.file_in_bounds c.cut_place-first.result c.cut_place-first.ensures
    c.put.new.room c.lay_cuts.new.room c.lay_radials.new.room c.put.ensures c.lay_cuts.ensures c.lay_radials.ensures

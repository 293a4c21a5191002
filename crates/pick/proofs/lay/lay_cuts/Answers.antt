-- The blocks so far are laid, and the others are still to come. Assumes nothing.
use Prim.Native.Nat.{◌+◌}
use native.Mathlib.Omega.{arith}
use mathlib.Core.Path.{◌≡◌, refl, ap, subst, ◌∙◌}
use lib.ListN.{length}
use Rattle.le.specs.Le.{Bytes}
use Rattle.le.proofs.Laws.{length-patch}
use Rattle.walk.specs.Due.{cut_place}
use Rattle.pick.proofs.Standing.{stands}
use Rattle.pick.proofs.Turns.{Cuts, cuts-long, cuts_first, cuts-more, cuts-all}
use Rattle.pick.proofs.lay.lay_cuts.Goals as goal

pub loop-before-init : goal.loop-before-init
loop-before-init c =
    let bs : Bytes c.args.file.now = record { byte = λ i. (c.type_inv.file i).fits } in
    let k = stands c.args.file.now bs c.requires.complete in
    cuts_first _ _ _ k c.requires.file_in_bounds _ refl

pub lay_cut-requires : goal.lay_cut-requires
lay_cut-requires c =
    let bs : Bytes c.args.file.now = record { byte = λ i. (c.type_inv.file i).fits } in
    let k = stands c.args.file.now bs c.requires.complete in
    let a = k.at in
    let w = k.within in
    let t = cuts-more _ _ _ c.loop-before.invariant (omega arith) in
    let f = t.file in
    let r = t.room_fits in
    record { cut_size_in_bounds = omega arith; cut_size_in_bounds_2 = omega arith }

pub loop-before-preserved : goal.loop-before-preserved
loop-before-preserved c =
    let bs : Bytes c.args.file.now = record { byte = λ i. (c.type_inv.file i).fits } in
    let k = stands c.args.file.now bs c.requires.complete in
    let a = k.at in
    let t = cuts-more _ _ _ c.loop-before.invariant (omega arith) in
    let on : cut_place (c.loop-before.before + 1) + 256 ≡ cut_place (c.loop-before.before + 1 + 1) = omega arith in
    subst (Cuts c.args.wanted c.args.file.now c.args.room.now c.lay_cut.new.room) on (t.then _ (rw c.cut_place.ensures at c.lay_cut.ensures))

pub returns : goal.returns
returns c =
    let bs : Bytes c.args.file.now = record { byte = λ i. (c.type_inv.file i).fits } in
    let k = stands c.args.file.now bs c.requires.complete in
    let a = k.at in
    cuts-all _ _ _ c.loop-before.invariant (omega arith)

pub shape_of-room : goal.shape_of-room
shape_of-room c =
    let bs : Bytes c.args.file.now = record { byte = λ i. (c.type_inv.file i).fits } in
    let l = cuts-long c.args.wanted c.args.file.now (stands c.args.file.now bs c.requires.complete) in
    let k = c.requires.file_in_bounds in
    ap length (returns c) ∙ length-patch c.args.room.now 416 _ (omega arith)

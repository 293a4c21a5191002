-- Each store lies in the room, so it is a patch; together they lay the pieces down. Assumes nothing.
use Prim.Native.Nat.{ℕ, ◌+◌, ◌≤◌}
use mathlib.Core.List.{List}
use mathlib.Core.Path.{◌≡◌, sym, ap, ap₂, subst, ◌∙◌}
use native.Mathlib.Omega.{arith}
use lib.ListN.{length}
use lib.Seq.{length-take-le}
use Rattle.le.specs.Le.{patch}
use Rattle.mend.specs.Mend.{cut_number, behind_cut}
use Rattle.mend.proofs.Pieces.{pieces, mended-is, stores}
use Rattle.mend.proofs.lay.lay.Goals as goal

pub slice_bounds-put-end : goal.slice_bounds-put-end
slice_bounds-put-end c =
    let l = c.requires.lies in
    sym (length-take-le _ _ (omega arith))

pub returns : goal.returns
returns c =
    let f = c.args.file.now in
    let s = c.args.s in
    let room = c.args.room.now in
    let l = c.requires.lies in
    let last = l.last in
    let p = pieces f s l in
    let back : c.behind_cut-front.result + c.dropped_bytes-gap.result ≡ behind_cut (cut_number f) =
    ap₂ (λ (x y : ℕ). x + y) c.behind_cut-front.ensures c.dropped_bytes-gap.ensures ∙ omega arith in
    stores f s p room c.put.new.room c.put-2.new.room c.put_u32.new.room c.put_u32-2.new.room
    (subst (λ (x : List ℕ). length x ≤ length room) (mended-is f s p) c.requires.s_in_bounds)
    (rw c.behind_cut-front.ensures at c.put.ensures)
    (rw (back, c.behind_cut-front.ensures) at c.put-2.ensures)
    c.put_u32.ensures
    (rw (c.dropped_bytes-gap.ensures, c.last_state.ensures) at c.put_u32-2.ensures)
    ∙ ap (patch room 0) (sym (mended-is f s p))

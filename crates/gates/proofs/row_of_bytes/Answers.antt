-- The loop's invariant: the first i places of either buffer are filled. Assumes nothing.
use mathlib.Core.Path.{◌≡◌, refl, ap, ◌∙◌}
use Prim.Native.Nat.{ℕ}
use native.Mathlib.Omega.{arith}
use borrow.Author.Rules.{sfits_of}
use lib.ListN.{length, get_or}
use mir.Syntax.{w32}
use mir.Facts.{to_z-of_z}
use Rattle.gates.specs.Gates.{Carried}
use Rattle.gates.proofs.Rows.{begun-none, begun-turn, begun_all}
use Rattle.gates.proofs.row_of_bytes.Goals as goal

pub loop-i-init : goal.loop-i-init
loop-i-init c =
    let a = c.args in
    begun-none a.c a.bytes.now a.kinds.now a.hundredths.now

pub loop-i-preserved : goal.loop-i-preserved
loop-i-preserved c =
    let a = c.args in
    begun-turn a.c a.bytes.now a.kinds.now a.hundredths.now _ _ c.loop-i.invariant (omega arith) (omega arith) (omega arith)
    (c.kind.ensures ∙ ap (λ (t : ℕ × Carried). t.0) c.gate_of.ensures)
    (to_z-of_z {w = w32} (sfits_of c.hundredths-1.given) ∙ c.table-t.ensures.entry (get_or a.bytes.now c.loop-i.i 0) (omega (arith, c.type_inv.bytes c.loop-i.i)))

pub returns : goal.returns
returns c =
    let a = c.args in
    let all : c.loop-i.i ≡ length a.bytes.now = omega arith in
    begun_all a.c a.bytes.now a.kinds.now a.hundredths.now (rw all at c.loop-i.invariant) refl (omega arith) (omega arith)

-- The loop's invariant: the first i places of either buffer are filled. Assumes nothing.
use mathlib.Core.Path.{◌≡◌, ap, ◌∙◌}
use Prim.Native.Nat.{ℕ}
use native.Mathlib.Omega.{arith}
use borrow.Author.Rules.{sfits_of}
use lib.ListN.{get_or}
use mir.Syntax.{w32}
use mir.Facts.{to_z-of_z}
use Rattle.gates.specs.Gates.{told_of, Values, values_of}
use Rattle.gates.specs.Codes.{codes_of}
use Rattle.gates.proofs.Rows.{begun-none, begun-turn, begun_all}
use Rattle.gates.proofs.row_of_codes.Goals as goal

pub loop-i-init : goal.loop-i-init
loop-i-init c =
    let a = c.args in
    begun-none a.c (codes_of a.bin a.bytes.now) a.kinds.now a.hundredths.now

pub loop-i-preserved : goal.loop-i-preserved
unfolding told_of
loop-i-preserved c =
    let a = c.args in
    let codes = codes_of a.bin a.bytes.now in
    let told : values_of c.tell-told.result ≡ values_of (told_of a.c (get_or codes c.loop-i.i 0)) =
    c.tell-told.ensures ∙ ap (λ (code : ℕ). values_of (told_of a.c code)) c.code_at.ensures in
    begun-turn a.c codes a.kinds.now a.hundredths.now _ _ c.loop-i.invariant (omega arith) (omega arith) (omega arith)
    (c.kind.ensures ∙ ap (λ (v : Values). v.gate.0) told)
    (to_z-of_z {w = w32} (sfits_of c.struct_told-1.given.1.1.1.0.1) ∙ ap (λ (v : Values). v.hundredths) told)

pub returns : goal.returns
returns c =
    let a = c.args in
    let all : c.loop-i.i ≡ a.n = omega arith in
    begun_all a.c (codes_of a.bin a.bytes.now) a.kinds.now a.hundredths.now (rw all at c.loop-i.invariant) (omega arith) (omega arith) (omega arith)

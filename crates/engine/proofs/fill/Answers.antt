-- The loop's invariant: the first i places of either buffer are filled. Assumes nothing.
use mir.Syntax.{w32}
use Prim.Native.Nat.{◌%◌}
use native.Mathlib.Omega.{arith}
use mathlib.Core.Path.{sym, ap, ◌∙◌}
use borrow.Author.Rules.{sfits_of}
use mir.Facts.{to_z-of_z}
use Rattle.gates.specs.Gates.{Values}
use Rattle.gates.specs.Telling.{Telling}
use Rattle.engine.specs.Engine.{asked, kind_shown, hundredths_shown, kind_for, hundredths_for}
use Rattle.engine.proofs.Filling.{begun-none, begun-turn, begun_all, kind_fits}
use Rattle.engine.proofs.Listed.{many-asked, at-asked}
use Rattle.engine.proofs.fill.Goals as goal

pub loop-i-init : goal.loop-i-init
loop-i-init c =
    let a = c.args in
    begun-none a.file.now (asked a.radials.now a.types.now a.gates.now) a.kinds.now a.hundredths.now

pub loop-i-preserved : goal.loop-i-preserved
loop-i-preserved c =
    let a = c.args in
    let f = a.file.now in
    let qs = asked a.radials.now a.types.now a.gates.now in
    let many = many-asked a.radials.now a.types.now a.gates.now in
    let n = c.requires.n_value in
    let one = at-asked a.radials.now a.types.now a.gates.now c.loop-i.i (omega arith) in
    let told = c.gate-answer.ensures in
    begun-turn f qs a.kinds.now a.hundredths.now _ _ c.loop-i.invariant (omega arith) (omega arith) (omega arith)
    (c.kind.ensures ∙ ap (λ (y : Telling Values). kind_shown y % 256) told ∙ kind_fits f _ _ _ ∙ ap (kind_for f) (sym one))
    (to_z-of_z {w = w32} (sfits_of c.hundredths_of.type_inv) ∙ c.hundredths_of.ensures ∙ ap hundredths_shown told ∙ ap (hundredths_for f) (sym one))

pub returns : goal.returns
returns c =
    let a = c.args in
    let many = many-asked a.radials.now a.types.now a.gates.now in
    let n = c.requires.n_value in
    begun_all a.file.now (asked a.radials.now a.types.now a.gates.now) a.kinds.now a.hundredths.now c.loop-i.invariant (omega arith)

pub bounds-radials-i : goal.bounds-radials-i
bounds-radials-i c = omega (arith, c.requires)

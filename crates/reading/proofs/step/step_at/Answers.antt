use mathlib.Core.Bool.{true}
use mathlib.Core.Path.{ap, sym, ◌∙◌}
use Prim.Native.Nat.{ℕ, ◌+◌}
use native.Mathlib.Omega.{arith}
use lib.ListN.{take}
use lib.Seq.{length-take-le}
use Rattle.reading.specs.declared.step.Step.TheVariants.{Open}
use Rattle.reading.specs.Step.{say_block}
use Rattle.reading.proofs.Run.{is-here, is-short, is-over, is-done}
use Rattle.reading.proofs.step.step_at.Goals as goal

pub returns-then-at-file : goal.returns-then-at-file
returns-then-at-file c =
    let a = c.args in
    sym (is-over true a.file.now a.w (sym c.is_end.ensures ∙ c.if-is_end.true) c.if-at-file.true)

pub returns-then-is_end : goal.returns-then-is_end
returns-then-is_end c =
    let a = c.args in
    sym (is-done true a.file.now a.w (sym c.is_end.ensures ∙ c.if-is_end.true) (omega (arith, c.if-at-file.false)))

pub returns-then-here-size : goal.returns-then-here-size
returns-then-here-size c =
    let f = c.args.file.now in
    let w = c.args.w in
    let z = c.size_at-size.ensures in
    ap Open (omega arith) ∙ sym (is-short true f w (sym c.is_end.ensures ∙ c.if-is_end.false) (omega arith))

pub slice_bounds-block-end : goal.slice_bounds-block-end
slice_bounds-block-end c =
    sym (length-take-le (c.args.w.at + c.size_at-size.result) c.args.file.now (omega arith))

pub block-requires : goal.block-requires
block-requires c =
    length-take-le (c.args.w.at + c.size_at-size.result) c.args.file.now (omega arith)
    ∙ ap (λ (k : ℕ). c.args.w.at + k) c.size_at-size.ensures

pub returns : goal.returns
returns c =
    let f = c.args.file.now in
    let w = c.args.w in
    let z = c.size_at-size.ensures in
    c.block.ensures
    ∙ ap (λ (n : ℕ). say_block w.due (take (w.at + n) f) w) z
    ∙ sym (is-here f w (sym c.is_end.ensures ∙ c.if-is_end.false) (omega arith))

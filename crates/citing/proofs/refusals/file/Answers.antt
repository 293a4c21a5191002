-- The walk is the one at which reading stops; its block, its rules and its field are those of that walk. Assumes nothing.
use Prim.Native.Nat.{ℕ, ◌+◌, ◌≤◌}
use native.Mathlib.Omega.{arith}
use mathlib.Core.Bool.{true}
use mathlib.Core.List.{List}
use mathlib.Core.Path.{◌≡◌, sym, ap, ap₂, subst, ◌∙◌}
use lib.ListN.{length}
use Rattle.walk.specs.declared.due.Walk.{Walk}
use Rattle.walk.specs.Due.{at_start}
use Rattle.reading.specs.Reading.{fuel, stop}
use Rattle.reading.proofs.Run.{last_within}
use Rattle.citing.specs.declared.Field.{Field}
use Rattle.citing.specs.declared.refusals.Block.{Block}
use Rattle.citing.specs.declared.refusals.Why.TheVariants as why
use Rattle.citing.specs.Fields.{field_at}
use Rattle.citing.specs.Refusals.{block_due, by_rules, trailing_clause, why_at}
use Rattle.citing.proofs.Whys.{why-over, why-done, why-short, why-here, closing-place, due-place, clause-sized, few-radials}
use Rattle.citing.proofs.refusals.file.Goals as goal

pub block_due-block-requires : goal.block_due-block-requires
block_due-block-requires c =
    let f = c.args.file.now in
    let h = few-radials f in
    let e = ap (λ (w : Walk). w.count.whole) c.stop-w.ensures in
    omega arith

-- reading stops within the file
inside : (f : List ℕ) (w : Walk) → w ≡ stop f → w.at ≤ length f
inside f w e = subst (λ (v : Walk). v.at ≤ length f) (sym e) (last_within true (fuel f) f at_start (omega arith))

pub returns-then-at-file : goal.returns-then-at-file
returns-then-at-file c =
    let f = c.args.file.now in
    let w = c.stop-w.result in
    let i = sym c.is_end.ensures ∙ c.if-is_end.true in
    let p = closing-place f w i in
    let q : w.present.start ≡ (block_due w.due f w).place + 0 = omega arith in
    ap₂ (λ (b : Block) (x : Field). why.Broken (record { place = w.at; clause = trailing_clause; block = b; field = x })) c.block_due-block.ensures (c.four.ensures ∙ ap (λ (n : ℕ). field_at f n 4) q)
    ∙ sym (why-over f w i c.if-at-file.true)
    ∙ ap (why_at f) c.stop-w.ensures

pub returns-then-is_end : goal.returns-then-is_end
returns-then-is_end c =
    let f = c.args.file.now in
    let w = c.stop-w.result in
    sym (why-done f w (sym c.is_end.ensures ∙ c.if-is_end.true) c.if-at-file.false) ∙ ap (why_at f) c.stop-w.ensures

pub overflow_sub-here : goal.overflow_sub-here
overflow_sub-here c = inside c.args.file.now c.stop-w.result c.stop-w.ensures

pub returns-then-here-size : goal.returns-then-here-size
returns-then-here-size c =
    let f = c.args.file.now in
    let w = c.stop-w.result in
    let k = inside f w c.stop-w.ensures in
    let s = c.size_at-size.ensures in
    let h = c.if-here-size.true in
    ap why.Open (omega arith) ∙ sym (why-short f w (sym c.is_end.ensures ∙ c.if-is_end.false) (omega arith)) ∙ ap (why_at f) c.stop-w.ensures

pub overflow_add-result : goal.overflow_add-result
overflow_add-result c = let k = inside c.args.file.now c.stop-w.result c.stop-w.ensures in omega arith

pub field-requires : goal.field-requires
field-requires c =
    let f = c.args.file.now in
    let w = c.stop-w.result in
    let k = inside f w c.stop-w.ensures in
    record { at_bound = omega arith; fact = clause-sized f w _ (sym c.check_at.ensures ∙ c.in-Err.is) }

pub returns-in-Ok : goal.returns-in-Ok
unfolding by_rules
returns-in-Ok c =
    let f = c.args.file.now in
    let w = c.stop-w.result in
    let k = inside f w c.stop-w.ensures in
    let s = c.size_at-size.ensures in
    let h = c.if-here-size.false in
    ap why.Hopeless c.block_due-block.ensures
    ∙ ap (by_rules f w) (sym c.in-Ok.is ∙ c.check_at.ensures)
    ∙ sym (why-here f w (sym c.is_end.ensures ∙ c.if-is_end.false) (omega arith))
    ∙ ap (why_at f) c.stop-w.ensures

pub returns-in-Err : goal.returns-in-Err
unfolding by_rules block_due
returns-in-Err c =
    let f = c.args.file.now in
    let w = c.stop-w.result in
    let l = c.in-Err.clause in
    let k = inside f w c.stop-w.ensures in
    let s = c.size_at-size.ensures in
    let h = c.if-here-size.false in
    let i = sym c.is_end.ensures ∙ c.if-is_end.false in
    ap₂ (λ (b : Block) (x : Field). why.Broken (record { place = w.at + l.place; clause = l; block = b; field = x })) c.block_due-block.ensures
    (c.field.ensures ∙ ap (λ (n : ℕ). field_at f (n + l.place) l.size) (sym (due-place f w i)))
    ∙ ap (by_rules f w) (sym c.in-Err.is ∙ c.check_at.ensures)
    ∙ sym (why-here f w i (omega arith))
    ∙ ap (why_at f) c.stop-w.ensures

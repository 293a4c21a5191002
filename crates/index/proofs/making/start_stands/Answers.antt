-- The index begins with the bytes of the form that the number of cuts has. Assumes nothing.
use native.Mathlib.Omega.{arith}
use mathlib.Core.Path.{◌≡◌, sym, ap, ◌∙◌}
use lib.ListN.{length}
use Rattle.index.proofs.Starts.{start-old, start-new, length-old, length-new, begins}
use Rattle.index.proofs.making.start_stands.Goals as goal

pub returns-then-old_form : goal.returns-then-old_form
returns-then-old_form c =
    let a = c.args in
    let s = c.old_start.result in
    let is = c.old_start.ensures ∙ sym (start-old a.cuts (sym c.old_form.ensures ∙ c.if-old_form.true)) in
    let l : length s ≡ 1 = ap length c.old_start.ensures ∙ length-old a.cuts in
    rw (← is) (c.starts_with.ensures.value ∙ begins s a.index.now (omega arith))

pub returns-else-old_form : goal.returns-else-old_form
returns-else-old_form c =
    let a = c.args in
    let s = c.new_start.result in
    let is = c.new_start.ensures ∙ sym (start-new a.cuts (sym c.old_form.ensures ∙ c.if-old_form.false)) in
    let l : length s ≡ 3 = ap length c.new_start.ensures ∙ length-new a.cuts in
    rw (← is) (c.starts_with-else-old_form.ensures.value ∙ begins s a.index.now (omega arith))

-- The bytes of the form that the number of cuts has. Assumes nothing.
use mathlib.Core.Path.{sym, ap, ◌∙◌}
use mathlib.Core.List.{List}
use Prim.Native.Nat.{ℕ}
use lib.ListN.{length}
use Rattle.le.specs.Le.{stored}
use Rattle.index.proofs.Starts.{start-old, start-new}
use Rattle.index.proofs.making.put_start.Goals as goal

pub returns-then-old_form : goal.returns-then-old_form
returns-then-old_form c =
    let e = start-old c.args.cuts (sym c.old_form.ensures ∙ c.if-old_form.true) in
    c.put.ensures
    ∙ ap (λ (l : List ℕ). stored (length l) c.args.room.now 0 l) (c.old_start.ensures ∙ sym e)

pub returns-else-old_form : goal.returns-else-old_form
returns-else-old_form c =
    let e = start-new c.args.cuts (sym c.old_form.ensures ∙ c.if-old_form.false) in
    c.put-else-old_form.ensures
    ∙ ap (λ (l : List ℕ). stored (length l) c.args.room.now 0 l) (c.new_start.ensures ∙ sym e)

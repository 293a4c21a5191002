-- One byte, or three. Assumes nothing.
use mathlib.Core.Path.{sym, ap, ◌∙◌}
use lib.ListN.{length}
use Rattle.index.proofs.Starts.{start-old, start-new, length-old, length-new}
use Rattle.index.proofs.making.start_length.Goals as goal

pub returns-then-old_form : goal.returns-then-old_form
returns-then-old_form c = let n = c.args.cuts in sym (ap length (start-old n (sym c.old_form.ensures ∙ c.if-old_form.true)) ∙ length-old n)

pub returns-else-old_form : goal.returns-else-old_form
returns-else-old_form c = let n = c.args.cuts in sym (ap length (start-new n (sym c.old_form.ensures ∙ c.if-old_form.false)) ∙ length-new n)

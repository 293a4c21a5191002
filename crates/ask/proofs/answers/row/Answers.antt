use mathlib.Core.Path.{sym, ◌∙◌}
use Rattle.refusal.proofs.Handed.{handed-on}
use Rattle.ask.specs.Answers.{RowTold}
use Rattle.ask.proofs.Found.{is-at, row-lost}
use Rattle.ask.proofs.answers.row.Goals as goal

pub returns-in_err-s : goal.returns-in_err-s
returns-in_err-s c =
    let a = c.args in
    rw (handed-on c.from_residual.ensures.1) (row-lost a.file.now _ a.kinds.now a.hundredths.now _ (sym c.found.ensures ∙ c.in_err-s.was))

pub returns : goal.returns
unfolding RowTold
returns c =
    let here = is-at _ c.in_ok-s.s c.in_ok-s.p (sym c.found.ensures ∙ c.in_ok-s.was) in
    rw (here, ← c.own-b.ensures, ← c.read-h.ensures, ← c.data.ensures, ← c.coding.ensures) c.row.ensures

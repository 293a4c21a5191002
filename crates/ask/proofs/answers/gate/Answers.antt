use mathlib.Core.Path.{sym, ◌∙◌}
use Rattle.refusal.proofs.Handed.{handed-on}
use Rattle.ask.specs.Answers.{gate_told}
use Rattle.ask.proofs.Found.{is-at, gate-lost}
use Rattle.ask.proofs.answers.gate.Goals as goal

pub returns-in_err-s : goal.returns-in_err-s
returns-in_err-s c =
    let a = c.args in
    rw (handed-on c.from_residual.ensures.1) (gate-lost a.file.now _ a.i _ (sym c.found.ensures ∙ c.in_err-s.was))

pub returns : goal.returns
unfolding gate_told
returns c =
    let here = is-at _ c.in_ok-s.s c.in_ok-s.p (sym c.found.ensures ∙ c.in_ok-s.was) in
    rw (here, c.gate_in.ensures, c.data.ensures, c.read.ensures, c.own-b.ensures)

use mathlib.Core.Path.{sym, ◌∙◌}
use Rattle.gates.proofs.Gates.{other-value, other-class}
use Rattle.gates.proofs.other.Goals as goal

pub returns-then-is_measurement : goal.returns-then-is_measurement
returns-then-is_measurement c =
    let a = c.args in
    rw (other-value a.c a.code (sym c.is_measurement.ensures ∙ c.if-is_measurement.true), c.quotient.ensures)

pub returns-else-is_measurement : goal.returns-else-is_measurement
returns-else-is_measurement c =
    let a = c.args in
    rw (other-class a.c a.code (sym c.is_measurement.ensures ∙ c.if-is_measurement.false))

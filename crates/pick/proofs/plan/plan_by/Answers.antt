-- By the cases of the definition. Assumes nothing.
use mathlib.Core.Path.{sym, ap}
use Rattle.std.specs.Prelude.{Option}
use Rattle.reading.specs.declared.Stretch.{Stretch}
use Rattle.pick.specs.Pick.{plan_by}
use Rattle.pick.proofs.plan.plan_by.Goals as goal

pub returns-in-Some : goal.returns-in-Some
unfolding plan_by
returns-in-Some c = let a = c.args in sym (ap (λ (x : Option Stretch). plan_by x a.radials a.size) c.in-Some.is)

pub returns-in-None : goal.returns-in-None
unfolding plan_by
returns-in-None c = let a = c.args in sym (ap (λ (x : Option Stretch). plan_by x a.radials a.size) c.in-None.is)

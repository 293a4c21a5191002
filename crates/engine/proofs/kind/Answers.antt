use mathlib.Core.Path.{sym}
use native.Mathlib.Nat.{mod-eq_of_lt}
use native.Mathlib.Omega.{arith}
use Rattle.gates.proofs.Gates.{kind-lt}
use Rattle.engine.specs.Engine.{kind_shown}
use Rattle.engine.proofs.kind.Goals as goal

pub returns-in-Ok : goal.returns-in-Ok
unfolding kind_shown
returns-in-Ok c = let k = kind-lt c.in-Ok.told.gate in rw (c.in-Ok.is, c.kind.ensures) (sym (mod-eq_of_lt (omega arith)))

pub returns-in-Err : goal.returns-in-Err
unfolding kind_shown
returns-in-Err c = rw (c.in-Err.is, c.number.ensures)

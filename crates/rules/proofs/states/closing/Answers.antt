use native.Mathlib.Omega.{arith}
use borrow.Author.Tests.{lt-ltb, le-ltb}
use Rattle.rules.specs.States.{closing}
use Rattle.rules.proofs.Numbers.{turned, not-turned}
use Rattle.rules.proofs.states.closing.Goals as goal

pub returns-in-2 : goal.returns-in-2
unfolding closing
returns-in-2 c = rw (turned _ c.in-2.is)

pub returns-then-cut-cuts : goal.returns-then-cut-cuts
unfolding closing
returns-then-cut-cuts c = let a = c.args in rw (not-turned _ c.in_default.in_default-own.rest.1, lt-ltb a.cut a.cuts (omega arith))

pub returns-else-cut-cuts : goal.returns-else-cut-cuts
unfolding closing
returns-else-cut-cuts c = let a = c.args in rw (not-turned _ c.in_default.in_default-own.rest.1, le-ltb a.cut a.cuts (omega arith))

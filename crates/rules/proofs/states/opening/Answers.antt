use native.Mathlib.Omega.{arith}
use borrow.Author.Tests.{le-leb, lt-leb}
use Rattle.rules.specs.States.{opening}
use Rattle.rules.proofs.Numbers.{turned, not-turned}
use Rattle.rules.proofs.states.opening.Goals as goal

pub returns-in-2 : goal.returns-in-2
unfolding opening
returns-in-2 c = rw (turned _ c.in-2.is)

pub returns-in-0-to-1 : goal.returns-in-0-to-1
unfolding opening
returns-in-0-to-1 c = rw (not-turned _ c.in_default.in_default-own.rest.1, le-leb c.args.cut 1 (omega arith))

pub returns-in_default-cut : goal.returns-in_default-cut
unfolding opening
returns-in_default-cut c = rw (not-turned _ c.in_default.in_default-own.rest.1, lt-leb c.args.cut 1 (omega arith))

use borrow.Author.Tests.{eq-eqb, ne_eqb}
use Rattle.rules.specs.Check.{also}
use Rattle.rules.proofs.check.clauses.Goals as goal

pub returns-in-0 : goal.returns-in-0
unfolding also
returns-in-0 c = rw (eq-eqb _ _ c.in-0.is)

pub returns-in_default : goal.returns-in_default
unfolding also
returns-in_default c = rw (ne_eqb _ _ c.in_default.in_default-own.rest.1)

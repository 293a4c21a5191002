-- By the test of the definition. Assumes nothing.
use borrow.Author.Tests.{eq-eqb, ne_eqb}
use Rattle.mend.specs.Mend.{field_of}
use Rattle.mend.proofs.report.field_of.Goals as goal

pub returns-then-old-new : goal.returns-then-old-new
unfolding field_of
returns-then-old-new c = rw (eq-eqb c.args.old c.args.new c.if-old-new.true)

pub returns : goal.returns
unfolding field_of
returns c = rw (ne_eqb c.args.old c.args.new c.if-old-new.false)

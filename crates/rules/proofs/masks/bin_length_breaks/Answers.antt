use lib.Dec.{lit<}
use mir.Syntax.{w16}
use borrow.Author.Tests.{ne_eqb}
use Rattle.rules.specs.Masks.{bin_length_clauses}
use Rattle.rules.proofs.Numbers.{exactly}
use Rattle.rules.proofs.masks.bin_length_breaks.Goals as goal

pub returns-then-x-eq2 : goal.returns-then-x-eq2
unfolding bin_length_clauses
returns-then-x-eq2 c = rw (← c.bit.ensures, c.if-bit.true, exactly w16 2 c.args.x (lit< tt), c.if-x-eq2.true)

pub returns-else-x-eq2 : goal.returns-else-x-eq2
unfolding bin_length_clauses
returns-else-x-eq2 c = rw (← c.bit.ensures, c.if-bit.true, exactly w16 2 c.args.x (lit< tt), ne_eqb _ 2 c.if-x-eq2.false)

pub returns-then-x-eq1 : goal.returns-then-x-eq1
unfolding bin_length_clauses
returns-then-x-eq1 c = rw (← c.bit.ensures, c.if-bit.false, exactly w16 1 c.args.x (lit< tt), c.if-x-eq1.true)

pub returns-else-x-eq1 : goal.returns-else-x-eq1
unfolding bin_length_clauses
returns-else-x-eq1 c = rw (← c.bit.ensures, c.if-bit.false, exactly w16 1 c.args.x (lit< tt), ne_eqb _ 1 c.if-x-eq1.false)

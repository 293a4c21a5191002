use Rattle.writer.specs.Put.{last_tests}
use Rattle.writer.proofs.order.last_tests.Goals as goal

pub returns-then-here : goal.returns-then-here
unfolding last_tests
returns-then-here c = rw (c.if-fits.true, ← c.has-here.ensures, c.if-here.true)

pub returns-then-fits : goal.returns-then-fits
unfolding last_tests
returns-then-fits c = rw (c.if-fits.true, ← c.has-here.ensures, c.if-here.false)

pub returns : goal.returns
unfolding last_tests
returns c = rw c.if-fits.false

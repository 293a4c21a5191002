use borrow.Author.Tests.{lt-ltb, le-ltb}
use Rattle.wedge.specs.Wedge.{wedge_ok}
use Rattle.wedge.proofs.Wedge.ok.Goals as goal

pub returns-in-0-to-35999-end : goal.returns-in-0-to-35999-end
unfolding wedge_ok
returns-in-0-to-35999-end c = rw (lt-ltb _ 36000 c.in-0-to-35999.if-self-lt36000-own.true, lt-ltb _ 36000 c.in-0-to-35999-end.if-self-lt36000-2-own.true)

pub returns-in_default-end : goal.returns-in_default-end
unfolding wedge_ok
returns-in_default-end c = rw (lt-ltb _ 36000 c.in-0-to-35999.if-self-lt36000-own.true, le-ltb _ 36000 c.in_default-end.if-self-lt36000-2-own.false)

pub returns-in_default : goal.returns-in_default
unfolding wedge_ok
returns-in_default c = rw (le-ltb _ 36000 c.in_default.if-self-lt36000-own.false)

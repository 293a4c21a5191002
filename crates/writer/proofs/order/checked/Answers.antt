use Rattle.writer.specs.Put.{checked}
use Rattle.writer.proofs.order.checked.Goals as goal

pub returns-in-Took : goal.returns-in-Took
unfolding checked
returns-in-Took c = rw c.in-Took.is

pub returns-in-Refused : goal.returns-in-Refused
unfolding checked
returns-in-Refused c = rw c.in-Refused.is

pub returns-in-Open : goal.returns-in-Open
unfolding checked
returns-in-Open c = rw c.in-Open.is

pub returns-in-Complete : goal.returns-in-Complete
unfolding checked
returns-in-Complete c = rw c.in-Complete.is

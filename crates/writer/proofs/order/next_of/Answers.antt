use Rattle.writer.specs.Put.{next_of}
use Rattle.writer.proofs.order.next_of.Goals as goal

pub returns-in-Took : goal.returns-in-Took
unfolding next_of
returns-in-Took c = rw c.in-Took.is

pub returns-in-Refused : goal.returns-in-Refused
unfolding next_of
returns-in-Refused c = rw c.in-Refused.is

pub returns-in-Open : goal.returns-in-Open
unfolding next_of
returns-in-Open c = rw c.in-Open.is

pub returns-in-Complete : goal.returns-in-Complete
unfolding next_of
returns-in-Complete c = rw c.in-Complete.is

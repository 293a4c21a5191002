use Rattle.walk.specs.Due.{due_if}
use Rattle.walk.proofs.after.due_if.Goals as goal

pub returns-then-b : goal.returns-then-b
unfolding due_if
returns-then-b c = rw c.if-b.true

pub returns-else-b : goal.returns-else-b
unfolding due_if
returns-else-b c = rw c.if-b.false

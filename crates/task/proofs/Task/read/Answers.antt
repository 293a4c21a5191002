use mathlib.Core.Path.{ap, ◌∙◌}
use Rattle.task.specs.Task.{task_of, task_at}
use Rattle.task.proofs.Task.read.Goals as goal

pub returns : goal.returns
unfolding task_at
returns c = c.decode.ensures ∙ ap task_of c.bytes_at.ensures

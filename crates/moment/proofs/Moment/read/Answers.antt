use mathlib.Core.Path.{ap, ◌∙◌}
use Rattle.moment.specs.Moment.{moment_of, moment_at}
use Rattle.moment.proofs.Moment.read.Goals as goal

pub returns : goal.returns
unfolding moment_at
returns c = c.decode.ensures ∙ ap moment_of c.bytes_at.ensures

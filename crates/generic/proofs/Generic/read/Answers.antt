use mathlib.Core.Path.{ap, ◌∙◌}
use Rattle.generic.specs.Generic.{generic_of, generic_at}
use Rattle.generic.proofs.Generic.read.Goals as goal

pub returns : goal.returns
unfolding generic_at
returns c = c.decode.ensures ∙ ap generic_of c.bytes_at.ensures

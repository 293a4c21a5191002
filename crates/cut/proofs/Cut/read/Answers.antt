use mathlib.Core.Path.{ap, ◌∙◌}
use Rattle.cut.specs.Cut.{cut_of, cut_at}
use Rattle.cut.proofs.Cut.read.Goals as goal

pub returns : goal.returns
unfolding cut_at
returns c = c.decode.ensures ∙ ap cut_of c.bytes_at.ensures

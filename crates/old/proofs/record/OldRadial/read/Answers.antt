use mathlib.Core.Path.{ap, ◌∙◌}
use Rattle.old.specs.Old.{old_of, old_at}
use Rattle.old.proofs.record.OldRadial.read.Goals as goal

pub returns : goal.returns
unfolding old_at
returns c = c.decode.ensures ∙ ap old_of c.bytes_at.ensures

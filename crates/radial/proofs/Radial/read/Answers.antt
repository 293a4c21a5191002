use mathlib.Core.Path.{ap, ◌∙◌}
use Rattle.radial.specs.Radial.{radial_of, radial_at}
use Rattle.radial.proofs.Radial.read.Goals as goal

pub returns : goal.returns
unfolding radial_at
returns c = c.decode.ensures ∙ ap radial_of c.bytes_at.ensures

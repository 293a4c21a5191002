use mathlib.Core.Path.{refl}
use Rattle.gates.specs.Counting.{count_of}
use Rattle.gates.proofs.Counts.none.Goals as goal

pub returns : goal.returns
unfolding count_of
returns c = refl

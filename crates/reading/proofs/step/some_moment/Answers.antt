use mathlib.Core.Path.{refl}
use Rattle.reading.specs.Step.{hope_after_cut}
use Rattle.reading.proofs.step.some_moment.Goals as goal

pub returns : goal.returns
unfolding hope_after_cut
returns c = refl

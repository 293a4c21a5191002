-- The number of cuts modulo 256. Assumes nothing.
use mathlib.Core.Path.{refl}
use Rattle.le.specs.Le.{bytes}
use Rattle.index.specs.Index.{old_start}
use Rattle.index.proofs.making.old_start.Goals as goal

pub returns : goal.returns
unfolding old_start bytes
returns c = refl

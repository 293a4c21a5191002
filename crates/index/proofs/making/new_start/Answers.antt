-- A 0 byte and the number of cuts, its lower byte first. Assumes nothing.
use mathlib.Core.Path.{refl}
use Rattle.le.specs.Le.{bytes}
use Rattle.index.specs.Index.{new_start}
use Rattle.index.proofs.making.new_start.Goals as goal

pub returns : goal.returns
unfolding new_start bytes
returns c = refl

-- By the cases of the definition. Assumes nothing.
use mathlib.Core.Path.{sym, ap}
use Rattle.mend.specs.Kept.{cut_of}
use Rattle.mend.proofs.keep.cut_of.Goals as goal

pub returns-in-Some : goal.returns-in-Some
unfolding cut_of
returns-in-Some c = sym (ap cut_of c.in-Some.is)

pub returns-in-None : goal.returns-in-None
unfolding cut_of
returns-in-None c = sym (ap cut_of c.in-None.is)

use mathlib.Core.Path.{sym}
use Rattle.reading.specs.Step.{hoping}
use Rattle.reading.proofs.Run.{untaken}
use Rattle.reading.proofs.Known.{not-took}
use Rattle.reading.proofs.step.hoping.Goals as goal

pub returns-then-hope : goal.returns-then-hope
unfolding hoping
returns-then-hope c = rw c.if-hope.true

pub returns-in_default : goal.returns-in_default
returns-in_default c = let a = c.args in sym (untaken a.hope a.at a.says (not-took _ c.in_default.not-Took))

pub returns : goal.returns
unfolding hoping
returns c = rw (c.if-hope.false, c.in-Took.is)

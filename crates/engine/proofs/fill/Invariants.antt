-- The loop's invariant: the first i places of either buffer are filled. Assumes nothing.
use Rattle.engine.specs.Engine.{asked}
use Rattle.engine.proofs.Filling.{Begun}
use Rattle.engine.proofs.fill.Given as goal

abbrev pub invariant-loop-i : goal.invariant-loop-i
invariant-loop-i l = Begun l.file (asked l.radials l.types l.gates) l.initial.kinds l.initial.hundredths l.i l.kinds l.hundredths

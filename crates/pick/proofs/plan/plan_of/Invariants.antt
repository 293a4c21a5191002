-- What the walk has passed, with what is still to come, is what there is. Assumes nothing.
use Rattle.reading.proofs.Run.{left}
use Rattle.pick.proofs.Planning.{Planned}
use Rattle.pick.proofs.plan.plan_of.Given as goal

abbrev pub invariant-loop-s : goal.invariant-loop-s
invariant-loop-s l = Planned l.wanted l.file l.w l.radials l.size l.empty

abbrev pub decreases-loop-s : goal.decreases-loop-s
decreases-loop-s l = left l.file l.w

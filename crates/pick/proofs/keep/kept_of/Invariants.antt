-- What was counted, with what is still to come, is what there is. Assumes nothing.
use Rattle.pick.proofs.Keeping.{Counted}
use Rattle.pick.proofs.keep.kept_of.Given as goal

abbrev pub invariant-loop-at : goal.invariant-loop-at
invariant-loop-at l = Counted l.wanted l.b l.p l.count l.bytes

abbrev pub decreases-loop-at : goal.decreases-loop-at
decreases-loop-at l = l.p.todo

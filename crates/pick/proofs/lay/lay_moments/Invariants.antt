-- What was put, with what is still to come, is what is to be there. Assumes nothing.
use Rattle.pick.proofs.Filling.{Filling}
use Rattle.pick.proofs.lay.lay_moments.Given as goal

abbrev pub invariant-loop-at : goal.invariant-loop-at
invariant-loop-at l = Filling l.wanted l.b l.initial.room l.to l.room l.p l.count l.end

abbrev pub decreases-loop-at : goal.decreases-loop-at
decreases-loop-at l = l.p.todo

-- What is sought among all moments is sought among those still to come. Assumes nothing.
use mathlib.Core.Path.{◌≡◌}
use Rattle.moments.specs.Moments.{find_in, moments_of, moments_at}
use Rattle.moments.proofs.find.Given as goal

abbrev pub invariant-loop-at : goal.invariant-loop-at
invariant-loop-at l = find_in l.b l.t (moments_of l.b) ≡ find_in l.b l.t (moments_at l.b l.p)

abbrev pub decreases-loop-at : goal.decreases-loop-at
decreases-loop-at l = l.p.todo

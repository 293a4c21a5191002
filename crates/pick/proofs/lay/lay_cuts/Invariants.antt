-- The blocks so far are laid, and the others are still to come. Assumes nothing.
use Prim.Native.Nat.{◌+◌}
use Rattle.walk.specs.Due.{cut_place}
use Rattle.pick.proofs.Turns.{Cuts}
use Rattle.pick.proofs.lay.lay_cuts.Given as goal

abbrev pub invariant-loop-before : goal.invariant-loop-before
invariant-loop-before l = Cuts l.wanted l.file l.initial.room l.room (cut_place (l.before + 1))

-- The radials so far are laid, and the others are still to come. Assumes nothing.
use Prim.Native.Nat.{◌-◌}
use Rattle.pick.proofs.Turns.{Radials}
use Rattle.pick.proofs.lay.lay_radials.Given as goal

abbrev pub invariant-loop : goal.invariant-loop
invariant-loop l = Radials l.wanted l.file l.initial.room l.room l.at l.to (l.radials - l.counter)

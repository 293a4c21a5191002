-- The loop's sums, with what the radials still to come add, are the file's. Assumes nothing.
use Rattle.reading.proofs.Run.{left}
use Rattle.ask.proofs.Tallying.{Counting}
use Rattle.ask.proofs.tallies.tally_in.Given as goal

abbrev pub invariant-loop-s : goal.invariant-loop-s
invariant-loop-s l = Counting l.file l.cut l.t l.wedge l.w l.so_far

abbrev pub decreases-loop-s : goal.decreases-loop-s
decreases-loop-s l = left l.file l.w

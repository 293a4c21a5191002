-- What is left never grows. Assumes nothing.
use Rattle.std.proofs.Common.{length, ◌≤◌}
use Rattle.asking.proofs.lists.Given as goal

abbrev pub invariant-loop : goal.invariant-loop
invariant-loop g l = length l.rest ≤ length l.fn.input

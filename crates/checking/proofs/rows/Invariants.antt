-- What follows the rows is no longer than what they began. Assumes nothing.
use Rattle.std.proofs.Common.{length, ◌≤◌}
use Rattle.checking.proofs.rows.Given as goal

abbrev pub invariant-loop : goal.invariant-loop
invariant-loop g l = length l.rest ≤ length l.initial.rest

-- Each run ends at a length at least as long as it starts with, so the next starts later. Assumes nothing.
use Rattle.std.proofs.Common.{length, ◌+◌, ◌-◌}
use Rattle.numbers.proofs.prefixes.Given as goal

abbrev pub decreases-loop-first : goal.decreases-loop-first
decreases-loop-first g l = length l.file + 1 - l.first

-- The loop's invariant: the first i numbers stand in `room` at `at`. Assumes nothing.
use mathlib.Core.Path.{◌≡◌}
use lib.ListN.{take}
use Rattle.le.specs.Le.{patch, bytes, run}
use Rattle.le.proofs.put_words.Given as goal

abbrev pub invariant-loop-i : goal.invariant-loop-i
invariant-loop-i l = l.room ≡ patch l.initial.room l.at (run (bytes 4) (take l.i l.xs))

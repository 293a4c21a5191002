-- The loop's invariant: the first i codes stand in `room` at `at`. Assumes nothing.
use mathlib.Core.Path.{◌≡◌}
use lib.ListN.{take}
use Rattle.le.specs.Le.{patch, run}
use Rattle.old.specs.Codes.{new_bytes}
use Rattle.old.proofs.codes.put_codes_here.Given as goal

abbrev pub invariant-loop-i : goal.invariant-loop-i
invariant-loop-i l = l.room ≡ patch l.initial.room l.at (run new_bytes (take l.i l.codes))

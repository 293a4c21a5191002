-- The loop's invariant: the first i gates are counted. Assumes nothing.
use mathlib.Core.Path.{◌≡◌}
use mathlib.Core.List.{map}
use lib.ListN.{take}
use Rattle.gates.specs.Codes.{codes_of}
use Rattle.gates.specs.Gates.{kind_of}
use Rattle.gates.specs.Counting.{counts_of}
use Rattle.gates.proofs.counts_of.Given as goal

abbrev pub invariant-loop-i : goal.invariant-loop-i
invariant-loop-i l = l.u ≡ counts_of (map (kind_of l.c) (take l.i (codes_of l.bin l.bytes)))

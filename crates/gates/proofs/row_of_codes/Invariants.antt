-- The loop's invariant: the first i places of either buffer are filled. Assumes nothing.
use Rattle.gates.specs.Codes.{codes_of}
use Rattle.gates.proofs.Rows.{Begun}
use Rattle.gates.proofs.row_of_codes.Given as goal

abbrev pub invariant-loop-i : goal.invariant-loop-i
invariant-loop-i l = Begun l.c (codes_of l.bin l.bytes) l.initial.kinds l.initial.hundredths l.i l.kinds l.hundredths

-- The loop's invariant: the gates before i agree. Assumes nothing.
use Prim.Native.Nat.{ℕ, ◌<◌}
use Rattle.gates.specs.Codes.{codes_of}
use Rattle.decoded.proofs.Agreed.{Alike}
use Rattle.decoded.proofs.agree.Given as goal

abbrev pub invariant-loop-i : goal.invariant-loop-i
invariant-loop-i l = (j : ℕ) → j < l.i → Alike l.c (codes_of l.bin l.bytes) l.kinds l.hundredths j

use native.Mathlib.Nat.{div-zero}
use borrow.Author.Rules.{rules}
use Rattle.gates.specs.Gates.{magnitude_of}
use Rattle.gates.proofs.magnitude.Goals as goal

pub returns-then-scale-eq0 : goal.returns-then-scale-eq0
unfolding magnitude_of
returns-then-scale-eq0 c = rw c.if-scale-eq0.true (rw div-zero)

pub returns-else-scale-eq0 : goal.returns-else-scale-eq0
unfolding magnitude_of
returns-else-scale-eq0 c = search rules

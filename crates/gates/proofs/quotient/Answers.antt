use mathlib.Core.Path.{refl}
use native.Mathlib.Omega.{arith}
use borrow.Author.Tests.{eq-eqb, ne_eqb}
use lib.Ieee.{of_bits}
use mir.Syntax.{w32}
use mir.Facts.{to_z-of_z}
use Rattle.gates.specs.Gates.{float_of}
use Rattle.gates.proofs.Signs.{diff-fits}
use Rattle.gates.proofs.quotient.Goals as goal

pub returns-then-c-eq0 : goal.returns-then-c-eq0
unfolding float_of of_bits
returns-then-c-eq0 c = let a = c.args in rw (eq-eqb a.c.scale 0 c.if-c-eq0.true) refl

pub returns-else-c-eq0 : goal.returns-else-c-eq0
unfolding float_of
returns-else-c-eq0 c =
    let a = c.args in
    rw (
      c.difference.ensures,
      to_z-of_z (diff-fits w32 a.code a.c.offset (omega arith) (omega arith)),
      ne_eqb a.c.scale 0 c.if-c-eq0.false,
    )

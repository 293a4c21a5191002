use mathlib.Core.Path.{◌≡◌}
use Prim.Native.Nat.{◌*◌}
use native.Mathlib.Omega.{arith}
use borrow.Author.Tests.{eq-eqb, ne_eqb}
use Rattle.citing.proofs.answers.code.Goals as goal

pub returns-in-1 : goal.returns-in-1
returns-in-1 c = let a = c.args in let one : 1 * a.i ≡ a.i = omega arith in rw (eq-eqb a.bin 1 c.in-1.is, one) c.one.ensures

pub returns-in_default : goal.returns-in_default
returns-in_default c = let a = c.args in rw (ne_eqb a.bin 1 c.in_default.in_default-own.rest.1) c.two.ensures

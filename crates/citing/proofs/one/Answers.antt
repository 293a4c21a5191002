use mathlib.Core.Path.{ap}
use native.Mathlib.Omega.{arith}
use Prim.Native.Nat.{ℕ}
use lib.ListN.{get_or-eq_default}
use Rattle.le.specs.Le.{le}
use Rattle.citing.proofs.one.Goals as goal

pub overflow_cast-result : goal.overflow_cast-result
overflow_cast-result c = omega (arith, c.shared_slice_known-1.given c.args.place)

pub returns-then-place-file : goal.returns-then-place-file
unfolding le
returns-then-place-file c = ap (λ (n : ℕ). record { place = c.args.place; size = 1; found = n }) (omega arith)

pub returns-else-place-file : goal.returns-else-place-file
unfolding le
returns-else-place-file c = ap (λ (n : ℕ). record { place = c.args.place; size = 1; found = n }) (let e = get_or-eq_default c.args.file.now 0 c.if-place-file.false in omega arith)

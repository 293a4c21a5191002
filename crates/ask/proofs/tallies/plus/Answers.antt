use mathlib.Core.Path.{refl}
use native.Mathlib.Omega.{arith}
use Rattle.ask.proofs.tallies.plus.Goals as goal

-- the last sums stand far from the function's entry, where what they lean on is
pub overflow_add-result-5 : goal.overflow_add-result-5
overflow_add-result-5 c = omega (arith, c.requires.1.1)

pub overflow_add-result-6 : goal.overflow_add-result-6
overflow_add-result-6 c = omega (arith, c.requires.1.1)

pub overflow_add-result-7 : goal.overflow_add-result-7
overflow_add-result-7 c = omega (arith, c.requires.1.1)

pub overflow_add-result-8 : goal.overflow_add-result-8
overflow_add-result-8 c = omega (arith, c.requires.1.1)

pub overflow_add-result-9 : goal.overflow_add-result-9
overflow_add-result-9 c = omega (arith, c.requires.1.1)

pub returns : goal.returns
returns c = refl

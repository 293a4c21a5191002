use mathlib.Core.Path.{◌∙◌}
use Prim.Native.Nat.{◌-◌, ◌<◌, ◌^◌}
use native.Mathlib.Omega.{arith}
use lib.IntN.{pos, neg_ℤ, +ℤ_idl}
use mir.Syntax.{w32}
use mir.Facts.{to_z_pos}
use Rattle.gates.proofs.Gates.{magnitude-le, hundredths-ge, hundredths-lt}
use Rattle.gates.proofs.Signs.{sub-fits, sub_back}
use Rattle.gates.proofs.hundredths.Goals as goal

-- either magnitude fits a signed number
small : (c : goal.After-magnitude) → c.magnitude.result < 2 ^ 31
small c =
    let a = c.args in
    omega (arith, magnitude-le (a.c.offset - a.code) a.c.scale)

pub overflow_cast-result : goal.overflow_cast-result
overflow_cast-result c = record { sfits = small c }

pub overflow_sub-result : goal.overflow_sub-result
overflow_sub-result c = sub-fits w32 0 c.magnitude.result (omega arith) (small c)

small-2 : (c : goal.After-magnitude-else-code-offset) → c.magnitude-else-code-offset.result < 2 ^ 31
small-2 c =
    let a = c.args in
    omega (arith, magnitude-le (a.code - a.c.offset) a.c.scale)

pub overflow_cast-result-else-code-offset : goal.overflow_cast-result-else-code-offset
overflow_cast-result-else-code-offset c = record { sfits = small-2 c }

pub returns-then-code-offset : goal.returns-then-code-offset
returns-then-code-offset c =
    let a = c.args in
    sub_back w32 0 c.magnitude.result (omega arith) (small c)
    ∙ +ℤ_idl (neg_ℤ (pos c.magnitude.result))
    ∙ rw (hundredths-lt a.c a.code c.if-code-offset.true, c.magnitude.ensures)

pub returns-else-code-offset : goal.returns-else-code-offset
returns-else-code-offset c =
    let a = c.args in
    to_z_pos w32 (small-2 c) ∙ rw (hundredths-ge a.c a.code c.if-code-offset.false, c.magnitude-else-code-offset.ensures)

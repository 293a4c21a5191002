use mathlib.Core.Path.{sym}
use native.Mathlib.Omega.{arith}
use lib.ListN.{get_or-eq_default}
use Rattle.gates.specs.Codes.{codes_of}
use Rattle.gates.proofs.Codes.{length-one, codes-one, length_two, code-two}
use Rattle.gates.proofs.code_at.Goals as goal

pub returns-then-gates_in-i : goal.returns-then-gates_in-i
returns-then-gates_in-i c =
    let a = c.args in
    sym (get_or-eq_default (codes_of a.bin a.bytes.now) 0 (omega arith))

pub overflow_cast-result : goal.overflow_cast-result
overflow_cast-result c = omega (arith, c.shared_slice_known-then-bin-eq1-1.given c.args.i)

pub returns-then-bin-eq1 : goal.returns-then-bin-eq1
returns-then-bin-eq1 c =
    let a = c.args in
    rw (codes-one a.bin a.bytes.now c.if-bin-eq1.true)

pub overflow_mul-i : goal.overflow_mul-i
overflow_mul-i c = let a = c.args in omega (arith, length_two a.bin a.bytes.now c.if-bin-eq1.false)

pub bounds-bytes-i-else-bin-eq1 : goal.bounds-bytes-i-else-bin-eq1
bounds-bytes-i-else-bin-eq1 c = let a = c.args in omega (arith, length_two a.bin a.bytes.now c.if-bin-eq1.false)

pub overflow_mul-i-else-bin-eq1 : goal.overflow_mul-i-else-bin-eq1
overflow_mul-i-else-bin-eq1 c = let a = c.args in omega (arith, length_two a.bin a.bytes.now c.if-bin-eq1.false)

pub overflow_add-i : goal.overflow_add-i
overflow_add-i c = let a = c.args in omega (arith, length_two a.bin a.bytes.now c.if-bin-eq1.false)

pub bounds-bytes-i-else-bin-eq1-2 : goal.bounds-bytes-i-else-bin-eq1-2
bounds-bytes-i-else-bin-eq1-2 c = let a = c.args in omega (arith, length_two a.bin a.bytes.now c.if-bin-eq1.false)

pub returns-else-bin-eq1 : goal.returns-else-bin-eq1
returns-else-bin-eq1 c =
    let a = c.args in
    let e = c.from_le_bytes.ensures in
    let f = code-two a.bin a.bytes.now c.if-bin-eq1.false a.i (omega arith) in
    omega arith

pub bounds-bytes-i : goal.bounds-bytes-i
bounds-bytes-i c = let a = c.args in omega (arith, length-one a.bin a.bytes.now c.if-bin-eq1.true)

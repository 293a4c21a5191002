use native.Mathlib.Omega.{arith}
use Rattle.gates.specs.Codes.{codes_of}
use Rattle.gates.proofs.Codes.{codes-one, length-one}
use Rattle.gates.proofs.Rows.{short}
use Rattle.gates.proofs.row.Goals as goal

pub returns-then-min-n : goal.returns-then-min-n
returns-then-min-n c =
    let a = c.args in
    short a.c (codes_of a.bin a.bytes.now) a.kinds.now a.hundredths.now (omega arith)

pub row_of_bytes-requires : goal.row_of_bytes-requires
row_of_bytes-requires c =
    let a = c.args in
    let l = length-one a.bin a.bytes.now c.if-bin-eq1.true in
    (omega arith, omega arith)

pub returns-then-bin-eq1 : goal.returns-then-bin-eq1
returns-then-bin-eq1 c =
    let a = c.args in
    rw (codes-one a.bin a.bytes.now c.if-bin-eq1.true) c.row_of_bytes.ensures

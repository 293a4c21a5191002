use borrow.Author.Tests.{lt-ltb, le-ltb}
use lib.ListN.{length}
use Rattle.gates.specs.Codes.{codes_of}
use Rattle.ask.specs.Answers.{gate_in}
use Rattle.ask.proofs.answers.gate_in.Goals as goal

pub returns-then-i-gates_in : goal.returns-then-i-gates_in
unfolding gate_in
returns-then-i-gates_in c =
    let a = c.args in
    rw (lt-ltb a.i (length (codes_of a.h.bin_length a.bytes.now)) (rw c.gates_in.ensures at c.if-i-gates_in.true), c.tell.ensures, c.coding.ensures, c.code_at-code.ensures)

pub returns-else-i-gates_in : goal.returns-else-i-gates_in
unfolding gate_in
returns-else-i-gates_in c =
    let a = c.args in
    rw (le-ltb a.i (length (codes_of a.h.bin_length a.bytes.now)) (rw c.gates_in.ensures at c.if-i-gates_in.false))

use native.Mathlib.Omega.{arith}
use Rattle.gates.specs.Gates.{gate_of}
use Rattle.gates.proofs.Gates.{gate-other}
use Rattle.gates.proofs.gate_of.Goals as goal

pub returns-in-5-to-65535 : goal.returns-in-5-to-65535
returns-in-5-to-65535 c =
    let a = c.args in
    rw (gate-other a.c a.code (omega arith)) c.other.ensures

pub returns-in-0 : goal.returns-in-0
unfolding gate_of
returns-in-0 c = rw c.in-0.is

pub returns-in-1 : goal.returns-in-1
unfolding gate_of
returns-in-1 c = rw c.in-1.is

pub returns-in-2 : goal.returns-in-2
unfolding gate_of
returns-in-2 c = rw c.in-2.is

pub returns-in-3 : goal.returns-in-3
unfolding gate_of
returns-in-3 c = rw c.in-3.is

pub returns-in-4 : goal.returns-in-4
unfolding gate_of
returns-in-4 c = rw c.in-4.is

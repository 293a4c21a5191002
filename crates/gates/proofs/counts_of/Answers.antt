-- The loop's invariant: the first i gates are counted. Assumes nothing.
use mathlib.Core.Path.{◌≡◌, ◌∙◌}
use native.Mathlib.Omega.{arith}
use lib.ListN.{length, take}
use lib.Seq.{take-length, length-take-le}
use Rattle.gates.specs.Codes.{codes_of}
use Rattle.gates.proofs.Counting.{counts-turn, counts_all}
use Rattle.gates.proofs.counts_of.Goals as goal

pub bump-u-requires : goal.bump-u-requires
bump-u-requires c =
    let a = c.args in
    let codes = codes_of a.bin a.bytes.now in
    rw c.loop-i.invariant (omega (arith, counts_all a.c (take c.loop-i.i codes), length-take-le c.loop-i.i codes (omega arith)))

pub loop-i-preserved : goal.loop-i-preserved
loop-i-preserved c =
    let a = c.args in
    rw (c.bump-u.ensures, c.loop-i.invariant, c.gate_of.ensures, c.code_at.ensures) (counts-turn a.c (codes_of a.bin a.bytes.now) c.loop-i.i (omega arith))

pub returns : goal.returns
returns c =
    let a = c.args in
    let codes = codes_of a.bin a.bytes.now in
    let all : c.loop-i.i ≡ length codes = omega arith in
    c.loop-i.invariant ∙ rw (all, take-length codes)

-- The loop's invariant: the first i codes stand in `room` at `at`. Assumes nothing.
use mathlib.Core.Path.{◌≡◌, ◌∙◌}
use Prim.Native.Nat.{◌+◌, ◌*◌}
use native.Mathlib.Omega.{arith}
use lib.ListN.{length, length-set}
use lib.Seq.{take-length}
use Rattle.le.specs.Le.{bytes}
use Rattle.le.proofs.Laws.{run_none, run-turn, stores2}
use Rattle.old.specs.Codes.{new_bytes}
use Rattle.old.proofs.Back.{two}
use Rattle.old.proofs.codes.put_codes_here.Goals as goal

pub loop-i-init : goal.loop-i-init
loop-i-init c = let a = c.args in run_none new_bytes 2 two a.room.now a.at a.codes.now

pub bounds-room-to-in-loop-i : goal.bounds-room-to-in-loop-i
bounds-room-to-in-loop-i c = simp length-set (omega arith)

pub loop-i-preserved : goal.loop-i-preserved
unfolding new_bytes bytes
loop-i-preserved c =
    let l = c.loop-i in
    let a = c.args in
    let at = a.at + 2 * l.i in
    run-turn new_bytes 2 two a.room.now l.room _ a.at a.codes.now l.i 0 (omega arith) (omega arith) l.invariant
    (rw (c.to_le_bytes.ensures, c.code.ensures) (stores2 l.room at _ _ (omega arith)))

pub returns : goal.returns
returns c =
    let l = c.loop-i in
    let a = c.args in
    let all : l.i ≡ length a.codes.now = omega arith in
    l.invariant ∙ rw (all, take-length a.codes.now)

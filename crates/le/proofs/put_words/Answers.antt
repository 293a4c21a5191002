-- The loop's invariant: the first i numbers stand in `room` at `at`. Assumes nothing.
use mathlib.Core.Path.{sym, ◌∙◌}
use Prim.Native.Nat.{◌+◌, ◌*◌}
use native.Mathlib.Omega.{arith}
use borrow.Author.Tests.{leb-true}
use lib.ListN.{length, get_or}
use lib.Seq.{take_all}
use Rattle.le.specs.Le.{bytes, run}
use Rattle.le.proofs.Laws.{length-bytes, run_none, run-turn, stored_no, stored-in}
use Rattle.le.proofs.put_words.Goals as goal

pub loop-i-init : goal.loop-i-init
loop-i-init c = run_none (bytes 4) 4 (length-bytes 4) c.args.room.now c.args.at c.args.xs.now

pub loop-i-preserved : goal.loop-i-preserved
loop-i-preserved c =
    let l = c.loop-i in
    let a = c.args in
    let xs = a.xs.now in
    let fits = leb-true (a.at + 4 * length xs) (length a.room.now) (sym c.has.ensures ∙ c.if-has.true) in
    run-turn (bytes 4) 4 (length-bytes 4) a.room.now l.room c.put_u32.new.room a.at xs l.i 0 c.loop-i-test.true fits l.invariant
    (c.put_u32.ensures ∙ stored-in 4 l.room (a.at + 4 * l.i) (bytes 4 (get_or xs l.i 0)) (omega (arith, fits, c.loop-i-test.true, l.auto.room)))

pub returns-after-loop-i : goal.returns-after-loop-i
returns-after-loop-i c =
    let a = c.args in
    let xs = a.xs.now in
    let fits = leb-true (a.at + 4 * length xs) (length a.room.now) (sym c.has.ensures ∙ c.if-has.true) in
    c.loop-i.invariant ∙ rw (take_all c.loop-i.i xs c.loop-i-test.false) (sym (stored-in (4 * length xs) a.room.now a.at (run (bytes 4) xs) fits))

pub returns-else-has : goal.returns-else-has
returns-else-has c =
    let s = c.args in
    sym (stored_no (4 * length s.xs.now) s.room.now s.at (run (bytes 4) s.xs.now) (sym c.has.ensures ∙ c.if-has.false))

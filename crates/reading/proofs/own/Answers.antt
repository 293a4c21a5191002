use mathlib.Core.Path.{◌≡◌, sym, ◌∙◌}
use Prim.Native.Nat.{◌-◌}
use native.Mathlib.Omega.{arith}
use lib.ListN.{length, drop, drop_of_length-le, length-drop}
use lib.Seq.{take-nil, take_all}
use Rattle.reading.proofs.own.Goals as goal

pub returns-then-end-start : goal.returns-then-end-start
returns-then-end-start c =
    let s = c.args.s in
    let z : s.end - s.start ≡ 0 = omega arith in
    rw z

pub returns-then-file-start : goal.returns-then-file-start
returns-then-file-start c =
    let a = c.args in
    rw (drop_of_length-le a.file.now c.if-file-start.true) (sym (take-nil (a.s.end - a.s.start)))

pub returns-then-file-end : goal.returns-then-file-end
returns-then-file-end c =
    let a = c.args in
    let l = length-drop a.s.start a.file.now in
    take_all (length a.file.now - a.s.start) (drop a.s.start a.file.now) (omega arith)
    ∙ sym (take_all (a.s.end - a.s.start) (drop a.s.start a.file.now) (omega arith))

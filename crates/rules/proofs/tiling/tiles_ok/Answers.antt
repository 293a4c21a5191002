use mathlib.Core.Path.{sym}
use Prim.Native.Nat.{◌+◌, ◌-◌, ◌*◌, ◌/◌}
use native.Mathlib.Omega.{arith}
use borrow.Author.Tests.{le-leb, lt-leb}
use Rattle.le.proofs.Tests.{leb-same}
use Rattle.rules.specs.Tiling.{tiles}
use Rattle.rules.proofs.tiling.tiles_ok.Goals as goal

pub returns-then-todo-le1 : goal.returns-then-todo-le1
unfolding tiles
returns-then-todo-le1 c = rw (le-leb _ _ c.if-todo-le1.true)

pub returns-then-left-block : goal.returns-then-left-block
unfolding tiles
returns-then-left-block c =
    let a = c.args in
    rw (lt-leb _ _ c.if-todo-le1.false) (sym (lt-leb (32 + a.x + 33 * (a.todo - 1)) a.left (omega arith)))

pub returns : goal.returns
unfolding tiles
returns c =
    let a = c.args in
    rw (lt-leb _ _ c.if-todo-le1.false)
    (leb-same (a.todo - 1) ((a.left - (32 + a.x)) / 33) (32 + a.x + 33 * (a.todo - 1)) a.left (λ e. omega arith) (λ e. omega arith))

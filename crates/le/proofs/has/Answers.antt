use mathlib.Core.Path.{sym}
use Prim.Native.Nat.{◌+◌, ◌-◌}
use native.Mathlib.Omega.{arith}
use borrow.Author.Tests.{lt-leb}
use Rattle.le.proofs.Tests.{leb-same}
use Rattle.le.proofs.has.Goals as goal

pub returns-then-len-at : goal.returns-then-len-at
returns-then-len-at c = let a = c.args in sym (lt-leb (a.at + a.n) a.len (omega arith))

pub returns : goal.returns
returns c =
    let a = c.args in
    leb-same a.n (a.len - a.at) (a.at + a.n) a.len (λ h. omega arith) (λ h. omega arith)

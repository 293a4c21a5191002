use mathlib.Core.Path.{◌≡◌, sym, ◌∙◌}
use mathlib.Core.Bool.{Bool, true}
use Prim.Native.Nat.{ℕ, ◌≤◌}
use native.Mathlib.Omega.{arith}
use borrow.Author.Tests.{leb-true}
use lib.Dec.{leb}
use Rattle.le.proofs.Laws.{part-is, length_part}
use Rattle.old.proofs.codes.put_moment.Goals as goal

-- what a test that was passed says
passed : (m n : ℕ) (b : Bool) → b ≡ leb m n → b ≡ true → m ≤ n
passed m n b e t = leb-true m n (sym e ∙ t)

pub overflow_add-end : goal.overflow_add-end
overflow_add-end c = omega (arith, passed _ _ _ c.has.ensures c.if-has.true)

pub slice_bounds-put_codes-end : goal.slice_bounds-put_codes-end
slice_bounds-put_codes-end c = omega (arith, passed _ _ _ c.has.ensures c.if-has.true)

pub returns-then-has : goal.returns-then-has
returns-then-has c =
    let s = c.args in
    let e = part-is s.n s.old.now s.from (passed _ _ _ c.has.ensures c.if-has.true) in
    c.put_codes.ensures ∙ rw (sym c.has.ensures ∙ c.if-has.true, e, length_part s.n s.old.now s.from)

pub returns-else-has : goal.returns-else-has
returns-else-has c = rw (sym c.has.ensures ∙ c.if-has.false)

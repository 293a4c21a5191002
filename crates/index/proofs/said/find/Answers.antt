use native.Mathlib.Omega.{arith}
use mathlib.Core.Path.{◌≡◌, ap, ◌∙◌}
use borrow.Author.Tests.{le-leb, lt-leb}
use Rattle.le.specs.Le.{le}
use Rattle.index.specs.Forms.{radials_at, place_said}
use Rattle.index.proofs.said.find.Goals as goal

pub returns-then-sequence-eq0 : goal.returns-then-sequence-eq0
unfolding place_said
returns-then-sequence-eq0 c = rw c.if-sequence-eq0.true

-- how many radials there are, as it was read
number : (c : goal.Then-u32_at-sequence) → let a = c.args in c.u32_at.result ≡ le 4 a.index.now (radials_at a.index.now)
number c = c.u32_at.ensures ∙ ap (le 4 c.args.index.now) c.radials_at-at.ensures.0

pub returns-then-u32_at-sequence : goal.returns-then-u32_at-sequence
unfolding place_said
returns-then-u32_at-sequence c =
    let a = c.args in
    let n = number c in
    let h = c.if-u32_at-sequence.true in
    rw (lt-leb a.sequence (le 4 a.index.now (radials_at a.index.now)) (omega arith), le-leb 1 a.sequence (omega arith))

pub overflow_add-at : goal.overflow_add-at
overflow_add-at c = omega (arith, c.radials_at-at.ensures.1)

pub overflow_add-at-2 : goal.overflow_add-at-2
overflow_add-at-2 c = omega (arith, c.radials_at-at.ensures.1)

number-2 : (c : goal.After-u64_at) → let a = c.args in c.u32_at.result ≡ le 4 a.index.now (radials_at a.index.now)
number-2 c = c.u32_at.ensures ∙ ap (le 4 c.args.index.now) c.radials_at-at.ensures.0

pub returns : goal.returns
unfolding place_said
returns c =
    let a = c.args in
    let n = number-2 c in
    let h = c.if-u32_at-sequence.false in
    rw (le-leb a.sequence (le 4 a.index.now (radials_at a.index.now)) (omega arith), le-leb 1 a.sequence (omega arith), c.u64_at.ensures, c.radials_at-at.ensures.0)

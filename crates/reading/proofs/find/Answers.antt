-- The loop's walk has passed as many whole radials as `before` has come down. Assumes nothing.
use mathlib.Core.Path.{◌≡◌, sym, ap, ◌∙◌}
use Prim.Native.Nat.{suc, ◌-◌}
use native.Mathlib.Omega.{arith}
use Rattle.reading.specs.Reading.{stretches, nth}
use Rattle.reading.proofs.Loops.{Further, further, no_more, found_first, found-later, found_none, found-zero}
use Rattle.reading.proofs.find.Goals as goal

pub returns-then-sequence-eq0 : goal.returns-then-sequence-eq0
returns-then-sequence-eq0 c = sym (found-zero (stretches c.args.file.now) c.args.sequence c.if-sequence-eq0.true)

pub loop-stretch-init : goal.loop-stretch-init
loop-stretch-init c =
    let a = c.args in
    let e : a.sequence ≡ suc (a.sequence - 1) = omega arith in
    rw c.begin-w.ensures (ap (nth (stretches a.file.now)) e)

-- what a turn that found a further radial has
ahead : (c : goal.Then-before-eq0) → Further c.args.file.now c.loop-stretch.w c.in-Whole.stretch c.in-Whole.n
ahead c =
    further c.args.file.now c.loop-stretch.w c.in-Whole.stretch c.in-Whole.n
    (sym c.advance.ensures ∙ c.in-Whole.is)

pub returns-then-before-eq0 : goal.returns-then-before-eq0
returns-then-before-eq0 c =
    sym (c.loop-stretch.invariant ∙ found_first _ _ _ c.loop-stretch.before (ahead c).more c.if-before-eq0.true)

ahead-2 : (c : goal.Else-before-eq0) → Further c.args.file.now c.loop-stretch.w c.in-Whole.stretch c.in-Whole.n
ahead-2 c =
    further c.args.file.now c.loop-stretch.w c.in-Whole.stretch c.in-Whole.n
    (sym c.advance.ensures ∙ c.in-Whole.is)

pub loop-stretch-smaller : goal.loop-stretch-smaller
loop-stretch-smaller c = (ahead-2 c).less

pub loop-stretch-preserved : goal.loop-stretch-preserved
loop-stretch-preserved c =
    c.loop-stretch.invariant ∙ found-later _ _ _ c.loop-stretch.before (ahead-2 c).more c.if-before-eq0.false

pub returns-in-Stopped : goal.returns-in-Stopped
returns-in-Stopped c =
    let f = c.args.file.now in
    sym (c.loop-stretch.invariant ∙ found_none _ (suc c.loop-stretch.before) (no_more f c.loop-stretch.w _ (sym c.advance.ensures ∙ c.in-Stopped.is)))

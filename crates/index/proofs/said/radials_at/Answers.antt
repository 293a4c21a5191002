use native.Mathlib.Omega.{arith}
use mathlib.Core.Path.{sym, ◌∙◌}
use borrow.Author.Tests.{eq-eqb, ne_eqb}
use Rattle.index.specs.Forms.{cuts_said, counts_at, old_cuts, radials_at}
use Rattle.index.proofs.said.radials_at.Goals as goal

-- the new form
pub returns-then-cuts-eq0 : goal.returns-then-cuts-eq0
unfolding radials_at cuts_said counts_at
returns-then-cuts-eq0 c =
    let x = c.args.index.now in
    let e = eq-eqb (old_cuts x) 0 (sym c.old_cuts-cuts.ensures ∙ c.if-cuts-eq0.true) in
    (rw (e, ← c.u16_at.ensures), omega arith)

-- the old form
pub returns-else-cuts-eq0 : goal.returns-else-cuts-eq0
unfolding radials_at cuts_said counts_at
returns-else-cuts-eq0 c =
    let x = c.args.index.now in
    let e = ne_eqb (old_cuts x) 0 (λ z. c.if-cuts-eq0.false (c.old_cuts-cuts.ensures ∙ z)) in
    (rw (e, ← c.old_cuts-cuts.ensures), omega arith)

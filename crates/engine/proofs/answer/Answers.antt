-- Everything is decided before the first entry is written. Assumes nothing.
use native.Mathlib.Omega.{arith}
use mathlib.Core.Path.{◌≡◌, sym, ◌∙◌}
use lib.ListN.{length}
use Rattle.engine.specs.Engine.{asked}
use Rattle.engine.proofs.Filling.{not_right, short, all-filled}
use Rattle.engine.proofs.Listed.{many-asked}
use Rattle.engine.proofs.answer.Goals as goal

pub returns-then-not-right : goal.returns-then-not-right
returns-then-not-right c = not_right _ _ _ _ _ (sym c.right.ensures ∙ c.if-not-right.true)

-- how many questions there are
many : (c : goal.Then-min-n) → let a = c.args in c.min-n.result ≡ length (asked a.radials.now a.types.now a.gates.now)
many c = let e = many-asked c.args.radials.now c.args.types.now c.args.gates.now in omega arith

pub returns-then-min-n : goal.returns-then-min-n
returns-then-min-n c = let n = many c in short _ _ _ _ _ (sym c.right.ensures ∙ c.if-not-right.false) (omega arith)

pub fill-requires : goal.fill-requires
fill-requires c =
    record { index_value = sym c.right.ensures ∙ c.if-not-right.false; n_value = omega arith; n_in_bounds = (omega arith, omega arith) }

many-2 : (c : goal.After-hundredths-1) → let a = c.args in c.min-n.result ≡ length (asked a.radials.now a.types.now a.gates.now)
many-2 c = let e = many-asked c.args.radials.now c.args.types.now c.args.gates.now in omega arith

pub returns : goal.returns
returns c =
    let n = many-2 c in
    let e = c.fill.ensures in
    all-filled _ _ _ _ _ (sym c.right.ensures ∙ c.if-not-right.false) n (omega arith) (omega arith) e.0 e.1

-- What was counted, with what is still to come, is what there is. Assumes nothing.
use Prim.Native.Nat.{ℕ}
use native.Mathlib.Omega.{arith}
use mathlib.Core.Path.{◌≡◌, refl, sym, ap₂, ◌∙◌}
use Rattle.std.specs.Prelude.{Some}
use Rattle.moments.specs.Moments.{ahead_of}
use Rattle.moments.proofs.Laws.{there}
use Rattle.pick.proofs.Keeping.{Gets, gets, skips, none-still, counted_none, counted-more, counted-fits, counted_same, counted-all}
use Rattle.pick.proofs.keep.kept_of.Goals as goal

pub loop-at-init : goal.loop-at-init
loop-at-init c = counted_none _ _ _ c.first-p.ensures

-- the step that was taken
step : (c : goal.Then-wants) → ahead_of c.args.b.now c.loop-at.p ≡ Some (c.in-Some.at, c.in-Some.q)
step c = sym c.next.ensures ∙ c.in-Some.is

pub overflow_add-count : goal.overflow_add-count
overflow_add-count c =
    let g = gets _ _ _ _ _ _ (step c) (sym c.wants.ensures ∙ c.if-wants.true) refl in
    let l = (counted-fits c.args.wanted c.args.b.now c.loop-at.invariant g).0 in
    omega (arith, c.well_formed)

step-2 : (c : goal.After-moment) → ahead_of c.args.b.now c.loop-at.p ≡ Some (c.in-Some.at, c.in-Some.q)
step-2 c = sym c.next.ensures ∙ c.in-Some.is

got : (c : goal.After-moment) → let a = c.args in
    Gets a.wanted a.b.now c.loop-at.p c.in-Some.q c.moment.result.now
got c = gets _ _ _ _ _ _ (step-2 c) (sym c.wants.ensures ∙ c.if-wants.true) c.moment.ensures

pub overflow_add-bytes : goal.overflow_add-bytes
overflow_add-bytes c =
    let l = (counted-fits c.args.wanted c.args.b.now c.loop-at.invariant (got c)).1 in
    omega (arith, c.well_formed)

pub returns-in-None : goal.returns-in-None
returns-in-None c =
    let e = counted-all _ _ c.loop-at.invariant (none-still _ _ _ (sym c.next.ensures ∙ c.in-None.is)) in
    ap₂ (λ (m n : ℕ). record { moments = m; bytes = n }) e.0 e.1

pub loop-at-smaller-then-wants : goal.loop-at-smaller-then-wants
loop-at-smaller-then-wants c = (got c).fewer

pub loop-at-preserved-then-wants : goal.loop-at-preserved-then-wants
loop-at-preserved-then-wants c = counted-more _ _ c.loop-at.invariant (got c)

step-3 : (c : goal.Else-wants) → ahead_of c.args.b.now c.loop-at.p ≡ Some (c.in-Some.at, c.in-Some.q)
step-3 c = sym c.next.ensures ∙ c.in-Some.is

pub loop-at-smaller : goal.loop-at-smaller
loop-at-smaller c = (there _ _ _ _ (step-3 c)).fewer

pub loop-at-preserved : goal.loop-at-preserved
loop-at-preserved c = counted_same _ _ c.loop-at.invariant (skips _ _ _ _ _ (step-3 c) (sym c.wants.ensures ∙ c.if-wants.false))

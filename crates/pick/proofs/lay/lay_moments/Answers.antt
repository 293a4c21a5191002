-- What was put, with what is still to come, is what is to be there. Assumes nothing.
use Prim.Native.Nat.{ℕ, ◌-◌}
use native.Mathlib.Omega.{arith}
use mathlib.Core.Path.{◌≡◌, sym, ap, ap₂, ◌∙◌}
use lib.ListN.{length}
use Rattle.std.specs.Prelude.{Some}
use Rattle.le.proofs.Laws.{length-patch}
use Rattle.moments.specs.Moments.{ahead_of}
use Rattle.moments.proofs.Laws.{there}
use Rattle.pick.proofs.Filling.{Filled, filling-none, filling-more, filling-fits, filling-same, filling-all}
use Rattle.pick.proofs.Keeping.{Gets, gets, skips, none-still}
use Rattle.pick.proofs.lay.lay_moments.Goals as goal

pub loop-at-init : goal.loop-at-init
loop-at-init c = filling-none _ _ _ _ _ c.first-p.ensures c.requires

-- the step that was taken
step : (c : goal.After-slice_known-then-wants-1) → ahead_of c.args.b.now c.loop-at.p ≡ Some (c.in-Some.at, c.in-Some.q)
step c = sym c.next.ensures ∙ c.in-Some.is

got : (c : goal.After-slice_known-then-wants-1) → let a = c.args in
    Gets a.wanted a.b.now c.loop-at.p c.in-Some.q c.moment-m.result.now
got c = gets _ _ _ _ _ _ (step c) (sym c.wants.ensures ∙ c.if-wants.true) c.moment-m.ensures

pub overflow_add-count : goal.overflow_add-count
overflow_add-count c =
    let l = (filling-fits _ _ _ _ c.loop-at.invariant (got c)).0 in
    omega (arith, c.well_formed)

pub overflow_add-end : goal.overflow_add-end
overflow_add-end c =
    let l = (filling-fits _ _ _ _ c.loop-at.invariant (got c)).1 in
    omega (arith, c.well_formed)

pub loop-at-preserved-then-wants : goal.loop-at-preserved-then-wants
loop-at-preserved-then-wants c =
    filling-more _ _ _ _ c.moment-m.result.now c.put.new.room c.loop-at.invariant (got c) c.put.ensures

step-2 : (c : goal.Else-wants) → ahead_of c.args.b.now c.loop-at.p ≡ Some (c.in-Some.at, c.in-Some.q)
step-2 c = sym c.next.ensures ∙ c.in-Some.is

pub loop-at-preserved : goal.loop-at-preserved
loop-at-preserved c = filling-same _ _ _ _ c.loop-at.invariant (skips _ _ _ _ _ (step-2 c) (sym c.wants.ensures ∙ c.if-wants.false))

filled : (c : goal.In-None) → let a = c.args in
    Filled a.wanted a.b.now a.room.now a.to c.loop-at.room c.loop-at.count (c.loop-at.end - a.to)
filled c = filling-all _ _ _ _ c.loop-at.invariant (none-still _ _ _ (sym c.next.ensures ∙ c.in-None.is))

pub shape_of-room-in-None : goal.shape_of-room-in-None
shape_of-room-in-None c =
    ap length (filled c).room-is ∙ length-patch c.args.room.now c.args.to _ c.requires

pub returns-in-None : goal.returns-in-None
returns-in-None c =
    record { value = ap₂ (λ (m n : ℕ). record { moments = m; bytes = n }) (filled c).many (filled c).long-is; room_after = (filled c).room-is }

pub loop-at-smaller-then-wants : goal.loop-at-smaller-then-wants
loop-at-smaller-then-wants c = (got c).fewer

pub loop-at-smaller : goal.loop-at-smaller
loop-at-smaller c = (there _ _ _ _ (step-2 c)).fewer

pub overflow_sub-result : goal.overflow_sub-result
overflow_sub-result c = c.loop-at.invariant.from

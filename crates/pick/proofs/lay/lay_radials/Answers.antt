-- The radials so far are laid, and the others are still to come. Assumes nothing.
use Prim.Native.Nat.{ℕ, ◌+◌, ◌-◌}
use native.Mathlib.Omega.{arith}
use mathlib.Core.Path.{◌≡◌, sym, ap, ◌∙◌}
use lib.ListN.{length, take, drop}
use Rattle.le.proofs.Laws.{length-patch}
use Rattle.pick.proofs.Turns.{RadialTurn, end_at, end-in, radials-first, radials-more, radials-all}
use Rattle.pick.proofs.lay.lay_radials.Goals as goal

pub loop-init : goal.loop-init
loop-init c = radials-first _ _ _ c.requires.file_in_bounds _ _ c.first_radial-at.ensures (omega arith)

turn : (c : goal.After-u32_at) → let a = c.args in
    RadialTurn a.wanted a.file.now a.room.now c.loop.room c.loop.at c.loop.to (c.args.radials - c.loop.counter)
turn c = radials-more _ _ _ c.loop.invariant (omega arith)

-- where the radial ends
ends : (c : goal.After-u32_at) → c.loop.at + 64 + c.u32_at.result ≡ end_at c.args.wanted c.args.file.now c.loop.at
ends c =
    let l = c.loop in
    let a = c.args in
    ap (λ (n : ℕ). l.at + 64 + n) c.u32_at.ensures ∙ sym (end-in a.wanted a.file.now l.at)

pub slice_bounds-lay_radial-end : goal.slice_bounds-lay_radial-end
slice_bounds-lay_radial-end c = let t = (turn c).file in let e = ends c in omega arith

turn-2 : (c : goal.In-loop) → let a = c.args in
    RadialTurn a.wanted a.file.now a.room.now c.loop.room c.loop.at c.loop.to (c.args.radials - c.loop.counter)
turn-2 c = radials-more _ _ _ c.loop.invariant (omega arith)

pub overflow_add-end : goal.overflow_add-end
overflow_add-end c = let t = (turn-2 c).file in omega (arith, c.well_formed)

pub overflow_add-at : goal.overflow_add-at
overflow_add-at c = let t = (turn-2 c).file in omega (arith, c.well_formed)

pub overflow_add-end-in-loop : goal.overflow_add-end-in-loop
overflow_add-end-in-loop c = let t = (turn c).file in let e = ends c in omega (arith, c.well_formed)

turn-3 : (c : goal.After-lay_radial-arg-in-loop-1) → let a = c.args in
    RadialTurn a.wanted a.file.now a.room.now c.loop.room c.loop.at c.loop.to (c.args.radials - c.loop.counter)
turn-3 c = radials-more _ _ _ c.loop.invariant (omega arith)

ends-2 : (c : goal.After-lay_radial-arg-in-loop-1) → c.loop.at + 64 + c.u32_at.result ≡ end_at c.args.wanted c.args.file.now c.loop.at
ends-2 c =
    let l = c.loop in
    let a = c.args in
    ap (λ (n : ℕ). l.at + 64 + n) c.u32_at.ensures ∙ sym (end-in a.wanted a.file.now l.at)

-- its own bytes
own : (c : goal.After-lay_radial-arg-in-loop-1) → let l = c.loop in let a = c.args in
    take (l.at + 64 + c.u32_at.result - l.at) (drop l.at a.file.now) ≡ take (end_at a.wanted a.file.now l.at - l.at) (drop l.at a.file.now)
own c =
    let l = c.loop in
    let f = c.args.file.now in
    ap (λ (n : ℕ). take (n - l.at) (drop l.at f)) (ends-2 c)

pub lay_radial-to-requires : goal.lay_radial-to-requires
lay_radial-to-requires c =
    let t = turn-3 c in record { radial_size_in_bounds = t.header _ (own c); b_in_bounds = t.room_fits _ (own c) }

turn-4 : (c : goal.After-slice_known-in-loop-1) → let a = c.args in
    RadialTurn a.wanted a.file.now a.room.now c.loop.room c.loop.at c.loop.to (c.args.radials - c.loop.counter)
turn-4 c = radials-more _ _ _ c.loop.invariant (omega arith)

ends-3 : (c : goal.After-slice_known-in-loop-1) → c.loop.at + 64 + c.u32_at.result ≡ end_at c.args.wanted c.args.file.now c.loop.at
ends-3 c =
    let l = c.loop in
    let a = c.args in
    ap (λ (n : ℕ). l.at + 64 + n) c.u32_at.ensures ∙ sym (end-in a.wanted a.file.now l.at)

own-2 : (c : goal.After-slice_known-in-loop-1) → let l = c.loop in let a = c.args in
    take (l.at + 64 + c.u32_at.result - l.at) (drop l.at a.file.now) ≡ take (end_at a.wanted a.file.now l.at - l.at) (drop l.at a.file.now)
own-2 c =
    let l = c.loop in
    let f = c.args.file.now in
    ap (λ (n : ℕ). take (n - l.at) (drop l.at f)) (ends-3 c)

pub loop-preserved : goal.loop-preserved
loop-preserved c =
    let r = c.lay_radial-to.ensures in
    let one : c.args.radials - c.loop.counter - 1 ≡ c.args.radials - (c.loop.counter + 1) = omega arith in
    rw (ends-3 c, r.value) (rw one at ((turn-4 c).then _ _ (own-2 c) r.room_after))

pub returns : goal.returns
returns c = radials-all _ _ _ c.loop.invariant (omega arith)

pub shape_of-room : goal.shape_of-room
shape_of-room c =
    ap length (returns c) ∙ length-patch c.args.room.now _ _ c.requires.file_in_bounds

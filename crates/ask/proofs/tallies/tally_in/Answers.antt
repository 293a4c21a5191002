-- The loop's sums, with what the radials still to come add, are the file's. Assumes nothing.
use mathlib.Core.Path.{sym, ap, ap₂, ◌∙◌}
use native.Mathlib.Omega.{arith}
use Rattle.walk.specs.declared.due.Walk.{Walk}
use Rattle.reading.proofs.Loops.{further}
use Rattle.ask.specs.declared.tallies.Sums.{Sums}
use Rattle.ask.specs.Tallies.{cut_accepted, tally_told}
use Rattle.ask.proofs.Tallying.{counting-none, Adds, counting-turn, counting-ends}
use Rattle.ask.proofs.tallies.tally_in.Goals as goal

pub loop-s-init : goal.loop-s-init
loop-s-init c =
    let a = c.args in
    rw (c.none-so_far.ensures, c.begin-w.ensures) (counting-none a.file.now a.cut a.t a.wedge)

-- what a turn that found a further radial has
adds : (c : goal.After-one)
    → Adds c.args.file.now c.args.cut c.args.t c.args.wedge c.loop-s.w c.loop-s.so_far c.loop-s.invariant c.in-Whole.s c.in-Whole.n
adds c =
    counting-turn c.args.file.now c.args.cut c.args.t c.args.wedge c.loop-s.w c.loop-s.so_far c.loop-s.invariant c.in-Whole.s c.in-Whole.n
    (sym c.advance.ensures ∙ c.in-Whole.is)

pub plus-so_far-requires : goal.plus-so_far-requires
plus-so_far-requires c =
    let d = adds c in
    let l = d.next.within in
    rw c.one.ensures (omega (arith, d.radials, l), (omega (arith, d.blanks, l), omega (arith, d.gates, l)))

pub loop-s-smaller : goal.loop-s-smaller
loop-s-smaller c =
    (further c.args.file.now c.loop-s.w c.in-Whole.s c.in-Whole.n (sym c.advance.ensures ∙ c.in-Whole.is)).less

adds-2 : (c : goal.After-plus-so_far)
    → Adds c.args.file.now c.args.cut c.args.t c.args.wedge c.loop-s.w c.loop-s.so_far c.loop-s.invariant c.in-Whole.s c.in-Whole.n
adds-2 c =
    counting-turn c.args.file.now c.args.cut c.args.t c.args.wedge c.loop-s.w c.loop-s.so_far c.loop-s.invariant c.in-Whole.s c.in-Whole.n
    (sym c.advance.ensures ∙ c.in-Whole.is)

pub loop-s-preserved : goal.loop-s-preserved
loop-s-preserved c = rw (c.plus-so_far.ensures, c.one.ensures) (adds-2 c).next

pub returns-in-Stopped : goal.returns-in-Stopped
returns-in-Stopped c =
    let a = c.args in
    let e = counting-ends a.file.now a.cut a.t a.wedge c.loop-s.w c.loop-s.so_far c.loop-s.invariant _ (sym c.advance.ensures ∙ c.in-Stopped.is) in
    c.told.ensures
    ∙ ap₂ tally_told (c.accepted.ensures ∙ ap (λ (v : Walk). cut_accepted v a.cut) e.0) (ap (λ (x : Sums). record { wedge = a.wedge; sums = x }) e.1)

-- The loop's walks are those of the reading. Assumes nothing.
use mathlib.Core.Path.{◌≡◌, refl, sym, ◌∙◌}
use native.Mathlib.Omega.{arith}
use Rattle.reading.specs.Reading.{stop, advance_of}
use Rattle.reading.proofs.Loops.{Further, further}
use Rattle.reading.proofs.read.Goals as goal
use Rattle.reading.proofs.read.Goals.{in-Radial, in_default}

pub loop-next-init : goal.loop-next-init
loop-next-init c = rw c.begin-w.ensures (omega arith, refl)

-- by either way it is an advance
advanced : (c : goal.In-Whole) → c.match-due.next ≡ advance_of c.args.file.now c.loop-next.w
advanced c = elim c.match-due.branch [ in-Radial w ↦ w.next-is ∙ w.radial_from-next.ensures | in_default w ↦ w.next-is ∙ w.by_steps-next.ensures ]

-- what a turn that goes on has
ahead : (c : goal.In-Whole) → Further c.args.file.now c.loop-next.w c.in-Whole.field-0 c.in-Whole.n
ahead c = further _ c.loop-next.w _ _ (sym (advanced c) ∙ c.in-Whole.is)

pub loop-next-smaller : goal.loop-next-smaller
loop-next-smaller c = (ahead c).less

pub loop-next-preserved : goal.loop-next-preserved
loop-next-preserved c = let x = ahead c in (x.within, c.loop-next.invariant.1 ∙ x.stop)

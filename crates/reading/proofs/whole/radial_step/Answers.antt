use Prim.Native.Nat.{◌+◌}
use mathlib.Core.Path.{◌≡◌, refl, ap, sym, ◌∙◌}
use native.Mathlib.Omega.{arith}
use lib.ListN.{take}
use lib.Seq.{length-take-le}
use Rattle.radial.specs.Radial.{radial_at}
use Rattle.walk.specs.declared.due.Due.TheVariants as due
use Rattle.walk.specs.Due.{size_at, is_end}
use Rattle.walk.specs.Hope.{radial_hope}
use Rattle.reading.specs.declared.step.Step.TheVariants.{Open}
use Rattle.reading.specs.Step.{block_at, hope_at, hoping, step_of}
use Rattle.reading.proofs.Masks.{by-masks}
use Rattle.reading.proofs.Run.{untaken}
use Rattle.reading.proofs.Known.{not-took, known-here, known-short}
use Rattle.reading.proofs.whole.radial_step.Goals as goal

pub returns-then-here-lt-SIZE : goal.returns-then-here-lt-SIZE
unfolding size_at is_end
returns-then-here-lt-SIZE c =
    ap Open (omega arith) ∙ sym (known-short c.args.file.now c.args.w due.Radial c.requires.due_value refl (omega arith))

pub slice_bounds-p-end : goal.slice_bounds-p-end
slice_bounds-p-end c =
    sym (length-take-le (c.args.w.at + 64) c.args.file.now (omega arith))

pub settle-says-requires : goal.settle-says-requires
settle-says-requires c =
    omega (arith, c.requires.at_in_bounds, c.well_formed)

-- what is said of the header, hope asked, is what the step says
says : (d : goal.In_default)
    → hoping (radial_hope d.radial-next.result) d.args.w.at d.settle-says.result ≡ step_of d.args.file.now d.args.w
unfolding size_at is_end block_at hope_at
says d =
    let f = d.args.file.now in
    let w = d.args.w in
    let p = take (w.at + 64) f in
    rw (
      d.settle-says.ensures,
      d.check.ensures,
      d.radial_due.ensures,
      d.radial-next.ensures,
      d.u64_at-sizes.ensures,
      d.u64_at-mask.ensures,
      d.cut_place-place.ensures,
      d.read-r.ensures,
    )
    (by-masks p w (radial_at p w.at) ∙ sym (known-here f w due.Radial d.requires.due_value refl (omega (arith, d.requires.at_in_bounds, d.if-here-lt-SIZE.false))))

pub returns-in_default : goal.returns-in_default
returns-in_default c = sym (untaken _ _ _ (not-took _ c.in_default.not-Took)) ∙ says c

says-2 : (d : goal.After-hoping)
    → hoping (radial_hope d.radial-next.result) d.args.w.at d.settle-says.result ≡ step_of d.args.file.now d.args.w
unfolding size_at is_end block_at hope_at
says-2 d =
    let f = d.args.file.now in
    let w = d.args.w in
    let p = take (w.at + 64) f in
    rw (
      d.settle-says.ensures,
      d.check.ensures,
      d.radial_due.ensures,
      d.radial-next.ensures,
      d.u64_at-sizes.ensures,
      d.u64_at-mask.ensures,
      d.cut_place-place.ensures,
      d.read-r.ensures,
    )
    (by-masks p w (radial_at p w.at) ∙ sym (known-here f w due.Radial d.requires.due_value refl (omega (arith, d.requires.at_in_bounds, d.if-here-lt-SIZE.false))))

pub returns : goal.returns
returns c = c.hoping.ensures ∙ rw c.radial.ensures (says-2 c)

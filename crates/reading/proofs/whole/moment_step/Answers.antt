use Prim.Native.Nat.{◌+◌}
use mathlib.Core.Path.{◌≡◌, refl, ap, sym, ◌∙◌}
use native.Mathlib.Omega.{arith}
use lib.Seq.{length-take-le}
use Rattle.walk.specs.declared.due.Due.TheVariants as due
use Rattle.walk.specs.Due.{size_at, is_end}
use Rattle.walk.specs.Hope.{moments_hope}
use Rattle.reading.specs.declared.step.Step.TheVariants.{Open}
use Rattle.reading.specs.Step.{block_at, take_moment, hope_at, hope_after_moment, hoping, step_of}
use Rattle.reading.proofs.Run.{untaken}
use Rattle.reading.proofs.Known.{not-took, known-here, known-short}
use Rattle.reading.proofs.whole.moment_step.Goals as goal

pub returns-then-here-lt-SIZE : goal.returns-then-here-lt-SIZE
unfolding size_at is_end
returns-then-here-lt-SIZE c =
    ap Open (omega arith) ∙ sym (known-short c.args.file.now c.args.w due.Moment c.requires.due_value refl (omega arith))

pub slice_bounds-read-end : goal.slice_bounds-read-end
slice_bounds-read-end c =
    sym (length-take-le (c.args.w.at + 32) c.args.file.now (omega arith))

-- what is said of the header, hope asked, is what the step says
says : (d : goal.In_default)
    → hoping (moments_hope d.moment-next.result) d.args.w.at d.settle-says.result ≡ step_of d.args.file.now d.args.w
unfolding size_at is_end block_at take_moment hope_at hope_after_moment
says d =
    rw (
      d.settle-says.ensures,
      d.check.ensures,
      d.moment_due.ensures,
      d.moment-next.ensures,
      d.read-r.ensures,
    )
    (sym (known-here d.args.file.now d.args.w due.Moment d.requires.due_value refl (omega arith)))

pub returns-in_default : goal.returns-in_default
returns-in_default c = sym (untaken _ _ _ (not-took _ c.in_default.not-Took)) ∙ says c

says-2 : (d : goal.After-hoping)
    → hoping (moments_hope d.moment-next.result) d.args.w.at d.settle-says.result ≡ step_of d.args.file.now d.args.w
unfolding size_at is_end block_at take_moment hope_at hope_after_moment
says-2 d =
    rw (
      d.settle-says.ensures,
      d.check.ensures,
      d.moment_due.ensures,
      d.moment-next.ensures,
      d.read-r.ensures,
    )
    (sym (known-here d.args.file.now d.args.w due.Moment d.requires.due_value refl (omega arith)))

pub returns : goal.returns
returns c = c.hoping.ensures ∙ rw c.moments.ensures (says-2 c)

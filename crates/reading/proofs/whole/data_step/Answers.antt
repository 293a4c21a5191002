use mathlib.Core.Path.{refl, ap, sym, ◌∙◌}
use native.Mathlib.Omega.{arith}
use Rattle.walk.specs.declared.due.Due.TheVariants as due
use Rattle.walk.specs.Due.{size_at, is_end}
use Rattle.reading.specs.declared.step.Step.TheVariants.{Took, Open}
use Rattle.reading.specs.Step.{block_at, take_data, hope_at, hoping}
use Rattle.reading.proofs.Known.{known-here, known-short}
use Rattle.reading.proofs.whole.data_step.Goals as goal

pub returns-then-here-length : goal.returns-then-here-length
unfolding size_at is_end
returns-then-here-length c =
    ap Open (omega arith) ∙ sym (known-short c.args.file.now c.args.w due.Data c.requires.due_value refl (omega arith))

pub returns : goal.returns
unfolding size_at is_end block_at take_data hope_at hoping
returns c =
    ap Took c.data.ensures ∙ sym (known-here c.args.file.now c.args.w due.Data c.requires.due_value refl (omega arith))

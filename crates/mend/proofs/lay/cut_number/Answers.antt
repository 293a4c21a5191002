-- The field of the task's block, where the block stands. Assumes nothing.
use mathlib.Core.Path.{◌∙◌}
use Rattle.mend.proofs.Fields.{number_in}
use Rattle.mend.proofs.lay.cut_number.Goals as goal

pub returns : goal.returns
returns c = c.u32_at.ensures ∙ number_in _

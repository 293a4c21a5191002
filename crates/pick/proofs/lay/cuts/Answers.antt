-- The cut number stands in the task's block. Assumes nothing.
use mathlib.Core.Path.{◌∙◌}
use Rattle.mend.proofs.Fields.{number_in}
use Rattle.pick.proofs.lay.cuts.Goals as goal

pub returns : goal.returns
returns c = c.u32_at.ensures ∙ number_in c.args.file.now

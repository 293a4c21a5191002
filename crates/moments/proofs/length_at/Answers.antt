use mathlib.Core.Path.{sym, ◌∙◌}
use Rattle.moments.proofs.Laws.{length-is}
use Rattle.moments.proofs.length_at.Goals as goal

pub returns : goal.returns
returns c = c.u32_at.ensures ∙ sym (length-is c.args.b.now c.args.at)

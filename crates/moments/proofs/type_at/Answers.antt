use mathlib.Core.Path.{sym, ◌∙◌}
use Rattle.moments.proofs.Laws.{type-is}
use Rattle.moments.proofs.type_at.Goals as goal

pub returns : goal.returns
returns c = c.u32_at.ensures ∙ sym (type-is c.args.b.now c.args.at)

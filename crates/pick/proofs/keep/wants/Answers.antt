-- The type stands first in the header. Assumes nothing.
use mathlib.Core.Path.{sym, ap, ◌∙◌}
use Rattle.rules.specs.Masks.{bit}
use Rattle.moments.proofs.Laws.{type-is}
use Rattle.pick.proofs.keep.wants.Goals as goal

pub returns : goal.returns
returns c =
    let a = c.args in
    c.bit.ensures ∙ ap (bit a.wanted) (c.u32_at.ensures ∙ sym (type-is a.b.now a.at))

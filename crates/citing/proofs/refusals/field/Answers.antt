use mathlib.Core.Logic.{⊎_elim}
use mathlib.Core.Path.{sym, ap, ◌∙◌}
use Prim.Native.Nat.{◌+◌}
use Rattle.citing.specs.Fields.{field_at}
use Rattle.citing.proofs.refusals.field.Goals as goal

pub returns-in-2 : goal.returns-in-2
returns-in-2 c = let a = c.args in c.two.ensures ∙ ap (field_at a.file.now (a.at + a.c.place)) (sym c.in-2.is)

pub returns-in_default : goal.returns-in_default
returns-in_default c = let a = c.args in c.four.ensures ∙ ap (field_at a.file.now (a.at + a.c.place)) (⊎_elim (λ e. absurd (c.in_default.in_default-own.rest.1 e)) (λ e. sym e) c.requires.fact)

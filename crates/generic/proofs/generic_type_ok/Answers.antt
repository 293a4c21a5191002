use mathlib.Core.Path.{sym, ◌∙◌}
use borrow.Author.Tests.{eq-eqb, ne_eqb}
use lib.Dec.{lit<}
use mir.Syntax.{w32}
use Rattle.rules.proofs.Numbers.{exactly}
use Rattle.generic.proofs.generic_type_ok.Goals as goal

pub returns-in-1 : goal.returns-in-1
returns-in-1 c = let x = c.args.x in sym (exactly w32 1 x (lit< tt) ∙ eq-eqb x 1 c.in-1.is)

pub returns-in_default : goal.returns-in_default
returns-in_default c = let x = c.args.x in sym (exactly w32 1 x (lit< tt) ∙ ne_eqb x 1 c.in_default.in_default-own.rest.1)

use mathlib.Core.Path.{sym, ◌∙◌}
use borrow.Author.Tests.{lt-ltb, le-ltb}
use mir.Syntax.{w32}
use Rattle.rules.proofs.Numbers.{zero-by-bits}
use Rattle.rules.proofs.ranges.not_below_zero.Goals as goal

pub returns-in-0-to-2147483647 : goal.returns-in-0-to-2147483647
returns-in-0-to-2147483647 c = let x = c.args.x in sym (zero-by-bits w32 x ∙ lt-ltb x 2147483648 c.in-0-to-2147483647.if-x-lt2147483648-own.true)

pub returns-in_default : goal.returns-in_default
returns-in_default c = let x = c.args.x in sym (zero-by-bits w32 x ∙ le-ltb x 2147483648 c.in_default.if-x-lt2147483648-own.false)

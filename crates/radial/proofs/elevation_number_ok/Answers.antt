use mathlib.Core.Path.{sym}
use mir.Syntax.{w32}
use Rattle.rules.proofs.Numbers.{exactly-clear, exactly-set}
use Rattle.radial.proofs.elevation_number_ok.Goals as goal

pub returns-in-0-to-2147483647 : goal.returns-in-0-to-2147483647
returns-in-0-to-2147483647 c = sym (exactly-clear w32 c.args.cut c.args.x c.in-0-to-2147483647.if-x-lt2147483648-own.true)

pub returns-in_default : goal.returns-in_default
returns-in_default c = sym (exactly-set w32 c.args.cut c.args.x c.in_default.if-x-lt2147483648-own.false)

use native.Mathlib.Omega.{arith}
use lib.Dec.{lit<}
use mir.Syntax.{w32}
use Rattle.rules.proofs.Numbers.{inside, above}
use Rattle.radial.proofs.microseconds_ok.Goals as goal

pub returns-in-0-to-999999 : goal.returns-in-0-to-999999
returns-in-0-to-999999 c = inside w32 0 999999 c.args.x (lit< tt) (omega arith) c.in-0-to-999999.if-x-lt1000000-own.true

pub returns-in_default : goal.returns-in_default
returns-in_default c = above w32 0 999999 c.args.x (lit< tt) c.in_default.if-x-lt1000000-own.false

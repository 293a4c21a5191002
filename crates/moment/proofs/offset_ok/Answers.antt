use native.Mathlib.Omega.{arith}
use lib.Dec.{lit<}
use mir.Syntax.{w32}
use Rattle.rules.proofs.Numbers.{inside, above}
use Rattle.moment.proofs.offset_ok.Goals as goal

pub returns-in-0-to-32768 : goal.returns-in-0-to-32768
returns-in-0-to-32768 c = inside w32 0 32768 c.args.x (lit< tt) (omega arith) c.in-0-to-32768.if-x-lt32769-own.true

pub returns-in_default : goal.returns-in_default
returns-in_default c = above w32 0 32768 c.args.x (lit< tt) c.in_default.if-x-lt32769-own.false

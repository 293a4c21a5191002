use native.Mathlib.Omega.{arith}
use lib.Dec.{lit<}
use mir.Syntax.{w32}
use Rattle.rules.proofs.Numbers.{inside, above}
use Rattle.radial.proofs.spot_blank_ok.Goals as goal

pub returns-in-0-to-1 : goal.returns-in-0-to-1
returns-in-0-to-1 c = inside w32 0 1 c.args.x (lit< tt) (omega arith) c.in-0-to-1.if-x-lt2-own.true

pub returns-in_default : goal.returns-in_default
returns-in_default c = above w32 0 1 c.args.x (lit< tt) c.in_default.if-x-lt2-own.false

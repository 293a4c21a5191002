use lib.Dec.{lit<}
use mir.Syntax.{w32}
use Rattle.rules.proofs.Numbers.{inside, below, above}
use Rattle.moment.proofs.scale_ok.Goals as goal

pub returns-in-1-to-32768 : goal.returns-in-1-to-32768
returns-in-1-to-32768 c = inside w32 1 32768 c.args.x (lit< tt) c.in-1-to-32768.if-x-lt1-own.false c.in-1-to-32768.if-x-lt32769-own.true

pub returns-in_default : goal.returns-in_default
returns-in_default c = below w32 1 32768 c.args.x (lit< tt) c.in_default.if-x-lt1-own.true

pub returns-in_default-2 : goal.returns-in_default-2
returns-in_default-2 c = above w32 1 32768 c.args.x (lit< tt) c.in_default.if-x-lt32769-own.false

use lib.Dec.{lit<}
use mir.Syntax.{w32}
use borrow.Author.Tests.{le-leb, lt-leb}
use Rattle.rules.specs.Tiling.{moment_number_clauses}
use Rattle.rules.proofs.Numbers.{inside, below, above}
use Rattle.rules.proofs.tiling.moment_number_breaks.Goals as goal

pub returns-then-x-left : goal.returns-then-x-left
unfolding moment_number_clauses
returns-then-x-left c = rw (← inside w32 1 64 c.args.x (lit< tt) c.in-1-to-64.if-x-lt1-own.false c.in-1-to-64.if-x-lt65-own.true, le-leb _ _ c.if-x-left.true)

pub returns-else-x-left : goal.returns-else-x-left
unfolding moment_number_clauses
returns-else-x-left c = rw (← inside w32 1 64 c.args.x (lit< tt) c.in-1-to-64.if-x-lt1-own.false c.in-1-to-64.if-x-lt65-own.true, lt-leb _ _ c.if-x-left.false)

pub returns-in_default : goal.returns-in_default
unfolding moment_number_clauses
returns-in_default c = rw (← below w32 1 64 c.args.x (lit< tt) c.in_default.if-x-lt1-own.true)

pub returns-in_default-2 : goal.returns-in_default-2
unfolding moment_number_clauses
returns-in_default-2 c = rw (← above w32 1 64 c.args.x (lit< tt) c.in_default.if-x-lt65-own.false)

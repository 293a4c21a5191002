use native.Mathlib.Omega.{arith}
use lib.Dec.{lit<}
use mir.Syntax.{w32}
use borrow.Author.Tests.{ne_eqb}
use Rattle.rules.specs.States.{cut_number_clauses}
use Rattle.rules.proofs.Numbers.{inside, below, above, exactly, one-cut, many-cuts, most_cuts-small, most_cuts-some}
use Rattle.rules.proofs.states.cut_number_breaks.Goals as goal

pub returns-in-1 : goal.returns-in-1
unfolding cut_number_clauses
returns-in-1 c = let x = c.args.x in let s = c.args.scan in let e = c.in-1.is in let m = most_cuts-some s in rw (← inside w32 1 256 x (lit< tt) (omega arith) (omega arith), ← inside w32 1 _ x (most_cuts-small s) (omega arith) (omega arith))

pub returns-in-2 : goal.returns-in-2
unfolding cut_number_clauses
returns-in-2 c = let x = c.args.x in let s = c.args.scan in rw (← inside w32 1 256 x (lit< tt) (omega arith) (omega arith), one-cut s c.in-2.is, exactly w32 1 x (lit< tt), ne_eqb x 1 (λ e. omega arith))

pub returns-in_default-scan : goal.returns-in_default-scan
unfolding cut_number_clauses
returns-in_default-scan c = let x = c.args.x in let s = c.args.scan in rw (many-cuts s c.in_default-scan.in_default-scan-own.rest.1, ← inside w32 1 256 x (lit< tt) (omega arith) (omega arith))

pub returns-in_default : goal.returns-in_default
unfolding cut_number_clauses
returns-in_default c = let x = c.args.x in let h = c.in_default.if-x-lt1-own.true in let k = c.in_default.in_default-own.rest in rw (← below w32 1 256 x (lit< tt) (omega arith))

pub returns-in_default-2 : goal.returns-in_default-2
unfolding cut_number_clauses
returns-in_default-2 c = rw (← above w32 1 256 c.args.x (lit< tt) c.in_default.if-x-lt257-own.false)

use mathlib.Core.Path.{sym}
use native.Mathlib.Omega.{arith}
use Rattle.rules.specs.Ranges.{most_sequence}
use Rattle.rules.proofs.Numbers.{right-count, far-count, wrong-count}
use Rattle.radial.proofs.sequence_breaks.Goals as goal

pub returns-then-x-before : goal.returns-then-x-before
returns-then-x-before c = let a = c.args in sym (right-count most_sequence a.before a.x (let h = c.in-1-to-65536.if-x-lt65537-own.true in omega arith) c.in-1-to-65536.if-x-lt1-own.false (let h = c.in-1-to-65536.if-x-lt65537-own.true in omega arith) c.if-x-before.true)

pub returns-else-x-before : goal.returns-else-x-before
returns-else-x-before c = let a = c.args in sym (wrong-count most_sequence a.before a.x (λ h k e. c.if-x-before.false e))

pub returns-then-x-before-2 : goal.returns-then-x-before-2
returns-then-x-before-2 c = let a = c.args in sym (far-count most_sequence a.before a.x (let h = c.in-65537-to-2147483647.if-x-lt2147483648-own.true in omega arith) (let h = c.in-65537-to-2147483647.if-x-lt65537-own.false in omega arith) c.if-x-before-2.true)

pub returns-else-x-before-2 : goal.returns-else-x-before-2
returns-else-x-before-2 c = let a = c.args in sym (wrong-count most_sequence a.before a.x (λ h k e. c.if-x-before-2.false e))

pub returns-in_default : goal.returns-in_default
returns-in_default c = let a = c.args in sym (wrong-count most_sequence a.before a.x (λ h k e. let z = c.in_default.if-x-lt1-own.true in omega arith))

pub returns-in_default-2 : goal.returns-in_default-2
returns-in_default-2 c = let a = c.args in sym (wrong-count most_sequence a.before a.x (λ h k e. let z = c.in_default.if-x-lt2147483648-own.false in omega arith))

use native.Mathlib.Nat.{mod-zero, mod-one}
use Rattle.rules.proofs.tiling.multiple.Goals as goal

pub returns-in-0 : goal.returns-in-0
returns-in-0 c = rw (c.in-0.is, mod-zero c.args.x)

pub returns-in-1 : goal.returns-in-1
returns-in-1 c = rw (c.in-1.is, mod-one c.args.x)

pub returns-in-2 : goal.returns-in-2
returns-in-2 c = rw c.in-2.is

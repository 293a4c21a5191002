use mathlib.Core.Bool.{Bool, true, false, cond}
use mathlib.Core.Path.{◌≡◌, refl}
use lib.Dec.{eqb}
use mir.Val.{bool_byte}
use Rattle.ask.proofs.Tallying.{blank-is}
use Rattle.ask.proofs.tallies.blank.Goals as goal

bit : (b : Bool) → bool_byte b ≡ cond b 1 0
bit true = refl
bit false = refl

pub returns : goal.returns
returns c = rw (blank-is c.args.b.now, ← c.u32_at.ensures) (bit (eqb c.u32_at.result 1))

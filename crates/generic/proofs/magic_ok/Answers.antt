use mathlib.Core.Path.{sym}
use lib.Dec.{lit<}
use mir.Syntax.{w32}
use Rattle.rules.proofs.Numbers.{exactly}
use Rattle.generic.proofs.magic_ok.Goals as goal

pub returns : goal.returns
returns c = sym (exactly w32 0x4D545352 c.args.x (lit< tt))

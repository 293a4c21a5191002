use native.Mathlib.Omega.{arith}
use Rattle.writer.proofs.Putting.{settled-in}
use Rattle.writer.proofs.settle.site.Goals as goal

pub returns : goal.returns
returns c =
    let a = c.args in
    settled-in _ _ _ _ a.w _ c.site-says.ensures (omega arith) c.settled.ensures

-- The pieces say how long the volume is. Assumes nothing.
use Prim.Native.Nat.{ℕ, ◌-◌}
use mathlib.Core.Path.{sym, ap, ◌∙◌}
use lib.ListN.{length}
use Rattle.mend.proofs.Pieces.{pieces, mended-is, long}
use Rattle.mend.proofs.lay.size_of.Goals as goal

pub returns : goal.returns
returns c =
    let f = c.args.file.now in
    let s = c.args.s in
    let p = pieces f s c.requires in
    ap (λ (n : ℕ). s.end - n) c.dropped_bytes.ensures ∙ sym (ap length (mended-is f s p) ∙ long f s p)

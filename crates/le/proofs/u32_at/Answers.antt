use mathlib.Core.Path.{◌∙◌}
use Rattle.le.specs.Le.{part}
use Rattle.le.proofs.Laws.{from32, le-own}
use Rattle.le.proofs.u32_at.Goals as goal

pub returns : goal.returns
returns c =
    let f = c.args.s.now in
    let at = c.args.at in
    rw (c.from_le_bytes.ensures, c.bytes_at.ensures) (from32 (part 4 f at) ∙ le-own 4 f at)

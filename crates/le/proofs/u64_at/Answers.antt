use mathlib.Core.Path.{◌∙◌}
use Rattle.le.specs.Le.{part}
use Rattle.le.proofs.Laws.{from64, le-own}
use Rattle.le.proofs.u64_at.Goals as goal

pub returns : goal.returns
returns c =
    let f = c.args.s.now in
    let at = c.args.at in
    rw (c.from_le_bytes.ensures, c.bytes_at.ensures) (from64 (part 8 f at) ∙ le-own 8 f at)

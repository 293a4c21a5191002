use mathlib.Core.Path.{◌∙◌}
use Rattle.le.specs.Le.{part}
use Rattle.le.proofs.Laws.{from16, le-own}
use Rattle.le.proofs.u16_at.Goals as goal

pub returns : goal.returns
returns c =
    let f = c.args.s.now in
    let at = c.args.at in
    rw (c.from_le_bytes.ensures, c.bytes_at.ensures) (from16 (part 2 f at) ∙ le-own 2 f at)

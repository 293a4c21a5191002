use mathlib.Core.Path.{sym, ◌∙◌}
use lib.Ieee.{binary32, of_bits}
use Rattle.rules.proofs.Four.{azimuth}
use Rattle.wedge.specs.Wedge.{turned, in_wedge}
use Rattle.wedge.proofs.Wedge.holds.Goals as goal

pub hundredths-requires : goal.hundredths-requires
hundredths-requires c = sym c.azimuth_ok.ensures ∙ c.if-azimuth_ok.true

pub returns-then-azimuth_ok : goal.returns-then-azimuth_ok
unfolding in_wedge
returns-then-azimuth_ok c =
    let b = c.args.bits in
    rw (azimuth b c.ranges.bits.fits, ← c.azimuth_ok.ensures, c.if-azimuth_ok.true)
    (c.spans.ensures (turned (of_bits binary32 b)) c.hundredths.ensures)

pub returns-else-azimuth_ok : goal.returns-else-azimuth_ok
unfolding in_wedge
returns-else-azimuth_ok c =
    rw (azimuth c.args.bits c.ranges.bits.fits, ← c.azimuth_ok.ensures, c.if-azimuth_ok.false)

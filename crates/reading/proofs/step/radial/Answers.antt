use Rattle.radial.specs.Radial.{radial_at}
use Rattle.reading.proofs.Masks.{by-masks}
use Rattle.reading.proofs.step.radial.Goals as goal

pub returns : goal.returns
returns c =
    let p = c.args.p.now in
    let w = c.args.w in
    rw (
      c.hoping.ensures,
      c.radial.ensures,
      c.settle-says.ensures,
      c.check.ensures,
      c.radial_due.ensures,
      c.radial-next.ensures,
      c.u64_at-sizes.ensures,
      c.u64_at-mask.ensures,
      c.cut_place-place.ensures,
      c.read-r.ensures,
      c.requires,
    )
    (by-masks p w (radial_at p w.at))

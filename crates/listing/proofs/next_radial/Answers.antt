use mathlib.Core.Path.{sym, ap, ◌∙◌}
use Rattle.listing.specs.Listing.{radial_or}
use Rattle.listing.proofs.next_radial.Goals as goal

pub returns-in-Whole : goal.returns-in-Whole
unfolding radial_or
returns-in-Whole c =
    let f = c.args.file.now in
    rw (c.first-place.ensures, c.radial_line.ensures, c.own-b.ensures)
    (ap (radial_or f) (sym c.in-Whole.is ∙ c.advance.ensures))

pub returns-in-Stopped : goal.returns-in-Stopped
unfolding radial_or
returns-in-Stopped c =
    let f = c.args.file.now in
    ap (radial_or f) (sym c.in-Stopped.is ∙ c.advance.ensures)

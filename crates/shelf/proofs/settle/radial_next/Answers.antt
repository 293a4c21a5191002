-- `radial_next` meets its promise: the header from the old radial and the two counts, each counted by one. Assumes nothing.
use Rattle.shelf.proofs.settle.radial_next.Goals as goal

pub returns : goal.returns
returns c = rw (c.radial_from.ensures, c.counted-2.ensures, c.counted.ensures)

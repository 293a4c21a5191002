-- `settle_moments` meets its promise: the three moments, one after the other. Assumes nothing.
use Rattle.shelf.proofs.settle.settle_moments.Goals as goal

pub returns : goal.returns
returns c = rw (c.settle_moment.ensures, c.settle_moment-p-2.ensures, c.settle_moment-p.ensures)

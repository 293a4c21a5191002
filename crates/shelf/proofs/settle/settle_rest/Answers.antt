-- `settle_rest` meets its promise: nothing to settle where no byte is left, else data of so many bytes. Assumes nothing.
use Rattle.std.proofs.Common.{eq-eqb, ne_eqb, rules}
use Rattle.shelf.specs.Settled.{settle_rest}
use Rattle.shelf.proofs.Unless.{goes}
use Rattle.shelf.proofs.settle.settle_rest.Goals as goal

pub returns-then-size-eq0 : goal.returns-then-size-eq0
unfolding settle_rest
returns-then-size-eq0 c = rw (eq-eqb _ 0 c.if-size-eq0.true)

pub returns-else-size-eq0 : goal.returns-else-size-eq0
unfolding settle_rest
returns-else-size-eq0 c = rw (ne_eqb _ 0 c.if-size-eq0.false) (goes _ _ _ _ _ c.next.ensures (λ y h. search rules))

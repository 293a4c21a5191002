-- `settle_all` meets its promise. The loop's invariant: the first k old radials are settled. Assumes nothing.
use Rattle.std.proofs.Common.{◌≡◌, length}
use Rattle.shelf.specs.Settled.{settle_first}
use Rattle.shelf.proofs.settle.settle_all.Given as goal

abbrev pub invariant-loop-k : goal.invariant-loop-k
invariant-loop-k l = l.q ≡ settle_first l.k l.cuts l.old (length l.room) l.initial.q

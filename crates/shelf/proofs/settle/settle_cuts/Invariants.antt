-- `settle_cuts` meets its promise. The loop's invariant: the first k cut records are settled. Assumes nothing.
use Rattle.std.proofs.Common.{◌≡◌, length}
use Rattle.shelf.specs.Settled.{settle_cuts}
use Rattle.shelf.proofs.settle.settle_cuts.Given as goal

abbrev pub invariant-loop-k : goal.invariant-loop-k
invariant-loop-k l = l.q ≡ settle_cuts l.k l.cuts (length l.room) l.initial.q

-- The loop's invariant: the first k radials are laid down. Assumes nothing.
use Rattle.std.proofs.Common.{◌≡◌, length}
use Rattle.shelf.specs.Settled.{Lay, lay_first}
use Rattle.shelf.proofs.lay.lay_all.Given as goal

abbrev pub invariant-loop-k : goal.invariant-loop-k
invariant-loop-k l =
    (length l.room ≡ length l.initial.room)
    × (◌≡◌ {A = Lay} (record { walk = l.w; room = l.room }) (lay_first l.k l.cuts l.old (record { walk = l.initial.w; room = l.initial.room })))

-- The loop's invariant: the entries so far stand in the room, and the rest is still to come. Assumes nothing.
use Rattle.reading.specs.Reading.{stretches}
use Rattle.index.specs.Index.{index_for}
use Rattle.index.specs.Making.{second_at}
use Rattle.index.proofs.Filled.{Filled}
use Rattle.index.proofs.Entries.{entries, Made}
use Rattle.index.proofs.making.put.Given as goal

abbrev pub invariant-loop-room : goal.invariant-loop-room
invariant-loop-room l =
    Made l.file l.cuts l.first l.second l.cut l.count l.at l.left × Filled (index_for l.cuts (stretches l.file)) l.initial.room (second_at l.cuts) l.first l.second l.room

abbrev pub decreases-loop-room : goal.decreases-loop-room
decreases-loop-room l = entries l.cuts l.cut l.left

-- The loop's invariant: the entries so far stand in the index, and the rest is still to come. Assumes nothing.
use mathlib.Core.Path.{◌≡◌}
use lib.ListN.{length}
use Rattle.le.specs.Le.{Bytes}
use Rattle.reading.specs.Reading.{stretches}
use Rattle.index.specs.Index.{index_for}
use Rattle.index.specs.Making.{second_at}
use Rattle.index.proofs.Agree.{Agree}
use Rattle.index.proofs.Entries.{entries, Made}
use Rattle.index.proofs.making.stands.Given as goal

abbrev pub invariant-loop-first : goal.invariant-loop-first
invariant-loop-first l =
    Made l.file l.cuts l.first l.second l.cut l.count l.at l.left
    × Agree (index_for l.cuts (stretches l.file)) l.index (second_at l.cuts) l.first l.second
    × Bytes l.index
    × (length l.index ≡ length (index_for l.cuts (stretches l.file)))

abbrev pub decreases-loop-first : goal.decreases-loop-first
decreases-loop-first l = entries l.cuts l.cut l.left

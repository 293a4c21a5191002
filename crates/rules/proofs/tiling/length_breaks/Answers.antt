use Rattle.rules.specs.Tiling.{length_clauses}
use Rattle.rules.proofs.tiling.length_breaks.Goals as goal

pub returns-then-tiles_ok : goal.returns-then-tiles_ok
unfolding length_clauses
returns-then-tiles_ok c = rw (← c.length_in_range.ensures, c.if-length_in_range.true, ← c.multiple.ensures, c.if-multiple.true, ← c.tiles_ok.ensures, c.if-tiles_ok.true)

pub returns-else-tiles_ok : goal.returns-else-tiles_ok
unfolding length_clauses
returns-else-tiles_ok c = rw (← c.length_in_range.ensures, c.if-length_in_range.true, ← c.multiple.ensures, c.if-multiple.true, ← c.tiles_ok.ensures, c.if-tiles_ok.false)

pub returns-else-multiple : goal.returns-else-multiple
unfolding length_clauses
returns-else-multiple c = rw (← c.length_in_range.ensures, c.if-length_in_range.true, ← c.multiple.ensures, c.if-multiple.false)

pub returns-else-length_in_range : goal.returns-else-length_in_range
unfolding length_clauses
returns-else-length_in_range c = rw (← c.length_in_range.ensures, c.if-length_in_range.false)

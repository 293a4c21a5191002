use Rattle.rules.specs.Masks.{type_clauses}
use Rattle.rules.proofs.masks.type_breaks.Goals as goal

pub returns-then-bit : goal.returns-then-bit
unfolding type_clauses
returns-then-bit c = rw (← c.type_in_range.ensures, c.if-type_in_range.true, ← c.bit.ensures, c.if-bit.true)

pub returns-then-bit-2 : goal.returns-then-bit-2
unfolding type_clauses
returns-then-bit-2 c = rw (← c.type_in_range.ensures, c.if-type_in_range.true, ← c.bit.ensures, c.if-bit.false, ← c.bit-then-type_in_range.ensures, c.if-bit-2.true)

pub returns-else-bit-2 : goal.returns-else-bit-2
unfolding type_clauses
returns-else-bit-2 c = rw (← c.type_in_range.ensures, c.if-type_in_range.true, ← c.bit.ensures, c.if-bit.false, ← c.bit-then-type_in_range.ensures, c.if-bit-2.false)

pub returns-else-type_in_range : goal.returns-else-type_in_range
unfolding type_clauses
returns-else-type_in_range c = rw (← c.type_in_range.ensures, c.if-type_in_range.false)

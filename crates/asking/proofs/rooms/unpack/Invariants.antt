-- The entries before the present one are as they were read. Assumes nothing.
use Rattle.std.proofs.Common.{ℕ, ◌*◌, ◌<◌, slice_index_or}
use Rattle.asking.proofs.rooms.unpack.Given as goal

abbrev pub invariant-loop-i : goal.invariant-loop-i
invariant-loop-i g l = (k : ℕ) (d : _) → k < l.i → goal.F-post g l.read (l.size * k) (slice_index_or l.room k d)

-- The array that is lent has as many bytes as its type says. Assumes nothing.
use Rattle.std.proofs.Common.{ℕ, sym}
use lib.ListN.{length-replicate}
use Rattle.asking.proofs.write.Goals as goal

pub slice_bounds-write_in-end : goal.slice_bounds-write_in-end
slice_bounds-write_in-end g c = sym (length-replicate {0} {A = ℕ} 524807 0)

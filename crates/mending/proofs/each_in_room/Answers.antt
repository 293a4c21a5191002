-- The array that is lent has as many bytes as its type says. Assumes nothing.
use Rattle.std.proofs.Common.{ℕ, sym}
use lib.ListN.{length-replicate}
use Rattle.mending.proofs.each_in_room.Goals as goal

pub slice_bounds-each-end : goal.slice_bounds-each-end
slice_bounds-each-end g c = sym (length-replicate {0} {A = ℕ} 2097152 0)

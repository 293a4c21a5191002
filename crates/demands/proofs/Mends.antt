-- A broken volume closed, by citing the crate `mend`, and the tables by computing. Assumes nothing.
use borrow.Author.Tests.{le-ltb}
use native.Mathlib.Omega.{arith}
use mathlib.Core.List.{map}
use mathlib.Core.Path.{◌≡◌, refl}
use Rattle.rules.specs.Ranges.{among}
use Rattle.rules.specs.States.{closing, rhi}
use Rattle.mend.specs.Kept.{kept_after}
use Rattle.mend.proofs.Handed.{handed-back}
use Rattle.mend.proofs.Mending.{mending}
use Rattle.demands.specs.Mends.{computed, table, Closes, Mends}

worked : map computed table ≡ table
unfolding table kept_after
worked = refl

closes : Closes
unfolding closing rhi among
closes k = rw (le-ltb k k (omega arith))

pub mends : Mends
mends = record { any = mending; complete = handed-back; worked = worked; closes = closes }

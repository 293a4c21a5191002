-- A walk that counts as many bytes as a room can have, and one that counts more. Assumes nothing.
use Prim.Native.Nat.{ℕ, ◌<◌, ◌≤◌, ◌^◌}
use mathlib.Core.Path.{◌≡◌}
use borrow.Author.Tests.{lt-ltb, le-ltb}
use Rattle.reading.specs.declared.step.Step.{Step}
use Rattle.reading.specs.declared.step.Step.TheVariants.{Refused}
use Rattle.reading.specs.Step.{pick}
use Rattle.reading.specs.Take.{in_room}

pub fits-room : (count : ℕ) (says : Step) → count < 2 ^ 63 → says ≡ in_room count says
unfolding in_room pick
fits-room count says h = rw (lt-ltb count (2 ^ 63) h)

pub past_room : (count : ℕ) (says : Step) → 2 ^ 63 ≤ count → Refused 37 0 ≡ in_room count says
unfolding in_room pick
past_room count says h = rw (le-ltb count (2 ^ 63) h)

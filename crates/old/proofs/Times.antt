-- The seconds and microseconds of an accepted time give back its day and milliseconds, and our header holds them whole. Assumes
-- nothing.
use mathlib.Core.Path.{◌≡◌}
use mathlib.Core.Bool.{true, ◌&&◌}
use Prim.Native.Nat.{ℕ, ◌+◌, ◌*◌, ◌/◌, ◌%◌, ◌^◌, ◌≤◌, ◌<◌}
use native.Mathlib.Nat.{mod-eq_of_lt}
use native.Mathlib.Omega.{arith}
use lib.Dec.{leb, ltb}
use borrow.Author.Tests.{leb-true, ltb-true}
use Rattle.le.proofs.Tests.{both}
use Rattle.old.specs.Clock.{seconds_of, micros_of, time_clauses, time_ok}

-- what number 62 lets through
module _ (day ms : ℕ) (ok : time_ok day ms ≡ true) where
  pub accepted : (1 ≤ day) × (ms < 86400000) × (seconds_of day ms ≤ 2147483647)
  unfolding time_clauses
  accepted =
      let a = both (leb 1 day && ltb ms 86400000) (leb (seconds_of day ms) 2147483647) ok in
      let b = both (leb 1 day) (ltb ms 86400000) a.0 in
      (leb-true 1 day b.0, ltb-true ms 86400000 b.1, leb-true (seconds_of day ms) 2147483647 a.1)

  -- the day from the seconds, the milliseconds from what is left of them and the microseconds
  pub time-back : (seconds_of day ms / 86400 + 1 ≡ day) × (seconds_of day ms % 86400 * 1000 + micros_of ms / 1000 ≡ ms)
  time-back = let a = accepted.0 in let b = accepted.1 in (omega arith, omega arith)

  -- all bits of the seconds are in the header
  pub seconds-whole : seconds_of day ms % 2 ^ 32 ≡ seconds_of day ms
  seconds-whole = let h = accepted.2 in mod-eq_of_lt (omega arith)

pub micros-small : (ms : ℕ) → micros_of ms < 1000000
micros-small ms = omega arith

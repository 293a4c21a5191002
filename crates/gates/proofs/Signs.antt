-- Signed differences of numbers below half a width's power, one law for every width. `diff-ge` and `diff-lt` say what the
-- difference is; `sub-fits` and `sub_back` answer the needs of `(a as i32) - (b as i32)`, of which `0 - (m as i32)` is one.
-- Assumes nothing.
use mathlib.Core.Path.{◌≡◌, ap}
use mathlib.Core.Logic.{dite}
use Prim.Native.Nat.{ℕ, zero, suc, ◌-◌, ◌^◌, ◌≤◌, ◌<◌}
use native.Mathlib.Decide.{dec_lt}
use native.Mathlib.Omega.{arith}
use lib.IntN.{pos, negsuc, ◌-ℤ◌}
use borrow.Author.Tests.{lt-ltb, le-ltb}
use mir.Syntax.{Width}
use mir.Val.{SFits, hbits, to_z, of_z}
use mir.Facts.{to_z_pos, to_z-of_z}

pub diff-ge : (a b : ℕ) → b ≤ a → pos a -ℤ pos b ≡ pos (a - b)
diff-ge a zero h = ap pos (omega arith)
diff-ge a (suc b) h = rw (le-ltb a (suc b) h)

pub diff-lt : (a b : ℕ) → a < b → pos a -ℤ pos b ≡ negsuc (b - suc a)
diff-lt a zero h = absurd (omega arith)
diff-lt a (suc b) h = rw (lt-ltb a (suc b) h)

-- at any width
module _ (w : Width) (a b : ℕ) (ha : a < 2 ^ hbits w) (hb : b < 2 ^ hbits w) where
  pub diff-fits : SFits w (pos a -ℤ pos b)
  diff-fits =
      dite (dec_lt a b) (λ h. rw (diff-lt a b h) (record { sfits = omega arith })) (λ h. rw (diff-ge a b (omega arith)) (record { sfits = omega arith }))

  same : to_z w a -ℤ to_z w b ≡ pos a -ℤ pos b
  same = rw (to_z_pos w ha, to_z_pos w hb)

  pub sub-fits : SFits w (to_z w a -ℤ to_z w b)
  sub-fits = rw same diff-fits

  pub sub_back : to_z w (of_z w (to_z w a -ℤ to_z w b)) ≡ pos a -ℤ pos b
  sub_back = rw same (to_z-of_z diff-fits)

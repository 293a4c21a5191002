-- What is told of a pick is one-to-one, so its promise leaves no choice. Assumes nothing.
use Prim.Native.Nat.{ℕ}
use native.Mathlib.Omega.{arith}
use mathlib.Core.Path.{◌≡◌}
use Rattle.pick.specs.declared.Picked.{Picked}
use Rattle.pick.specs.declared.Picked.TheVariants.{Written, Refused}
use Rattle.pick.specs.Pick.{told_picked}

-- two answers that tell the same are one
pub told-picked-one : (a b : Picked) → told_picked a ≡ told_picked b → a ≡ b
told-picked-one (Written n) (Written m) e = cc
told-picked-one (Written n) (Refused k p) e = absurd (let z : ◌≡◌ {A = ℕ} 0 1 = cc in omega arith)
told-picked-one (Refused k p) (Written n) e = absurd (let z : ◌≡◌ {A = ℕ} 0 1 = cc in omega arith)
told-picked-one (Refused k p) (Refused j q) e = cc

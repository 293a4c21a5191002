use mathlib.Core.Bool.{Bool, true, false}
use mathlib.Core.Path.{◌≡◌, sym, ap, ◌∙◌}
use Prim.Native.Nat.{◌*◌, ◌≤◌}
use native.Mathlib.Nat.{mul-le-mul}
use native.Mathlib.Omega.{arith}
use borrow.Author.Tests.{lt-leb}
use lib.Dec.{ltb}
use lib.IntN.{ℤ, pos, ◌+ℤ◌}
use mir.Val.{bool_byte}
use mir.Facts.{to_z-of_z}
use Rattle.gates.proofs.Gates.{by_zero}
use Rattle.decoded.specs.Decoded.{eqℤ}
use Rattle.decoded.proofs.Bounds.{too-low, told}
use Rattle.decoded.proofs.Signs.{is_zero, raised-small}
use Rattle.decoded.proofs.is_hundredths.Goals as goal

pub returns-then-c-eq0 : goal.returns-then-c-eq0
returns-then-c-eq0 c =
    let a = c.args in
    is_zero a.h c.ranges.h ∙ ap (λ (x : ℤ). eqℤ x a.h) (sym (by_zero a.c a.code c.if-c-eq0.true).1)

bit : (b : Bool) → bool_byte b ≤ 1
bit true = omega arith
bit false = omega arith

pub overflow_add-least : goal.overflow_add-least
overflow_add-least c =
    let a = c.args in
    let b = bit (ltb a.code a.c.offset) in
    record { fits = omega arith }

-- the raised hundredths are those of the number that was lent
up : (c : goal.After-raised) → pos c.raised.result ≡ c.args.h +ℤ pos 2147483648
up c = c.raised.ensures ∙ ap (λ (x : ℤ). x +ℤ pos 2147483648) (to_z-of_z c.ranges.h)

few : (c : goal.After-raised) → 2 * c.args.c.scale * c.raised.result ≤ 131070 * 4294967295
few c =
    let r = raised-small c.args.h c.ranges.h c.raised.result (up c) in
    mul-le-mul {n₂ = 131070} {m₂ = 4294967295} (omega arith) (omega arith)

pub overflow_mul-least-2 : goal.overflow_mul-least-2
overflow_mul-least-2 c = let f = few c in record { fits = omega arith }

pub overflow_add-least-2 : goal.overflow_add-least-2
overflow_add-least-2 c =
    let a = c.args in
    let f = few c in
    let b = bit (ltb a.code a.c.offset) in
    record { fits = omega arith }

up-2 : (c : goal.Then-least-value) → pos c.raised.result ≡ c.args.h +ℤ pos 2147483648
up-2 c = c.raised.ensures ∙ ap (λ (x : ℤ). x +ℤ pos 2147483648) (to_z-of_z c.ranges.h)

pub returns-then-least-value : goal.returns-then-least-value
returns-then-least-value c =
    told c.args.c c.args.code c.raised.result c.args.h c.ranges.h (up-2 c) (omega arith) c.if-least-value.true

up-3 : (c : goal.Else-least-value) → pos c.raised.result ≡ c.args.h +ℤ pos 2147483648
up-3 c = c.raised.ensures ∙ ap (λ (x : ℤ). x +ℤ pos 2147483648) (to_z-of_z c.ranges.h)

pub returns-else-least-value : goal.returns-else-least-value
returns-else-least-value c =
    lt-leb _ _ c.if-least-value.false
    ∙ sym (too-low c.args.c c.args.code c.raised.result c.args.h c.ranges.h (up-3 c) (omega arith) c.if-least-value.false)

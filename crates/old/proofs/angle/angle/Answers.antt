-- The shifted number has 24 digits, and its value with x is that of 45 * n with 136. Assumes nothing.
use mathlib.Core.Path.{◌≡◌}
use Prim.Native.Nat.{◌-◌, ◌*◌, ◌%◌, ◌^◌}
use native.Mathlib.Omega.{arith}
use lib.Count.{count_leading_zeros}
use Rattle.old.proofs.Angles.{bits_are, no-angle, shifted, same-value}
use Rattle.old.proofs.angle.angle.Goals as goal

pub returns-then-n-eq0 : goal.returns-then-n-eq0
returns-then-n-eq0 c = let e : c.args.n ≡ 0 = omega arith in rw (e, no-angle)

pub overflow_sub-shift : goal.overflow_sub-shift
overflow_sub-shift c = let s = shifted (45 * c.args.n) (omega arith) (omega arith) in omega arith

pub overflow_add-result : goal.overflow_add-result
overflow_add-result c =
    let m = 45 * c.args.n in
    let s = shifted m (omega arith) (omega arith) in
    let z = count_leading_zeros 32 m - 8 in
    let whole : m * 2 ^ z % 4294967296 ≡ m * 2 ^ z = omega arith in
    rw whole (record { fits = omega arith })

pub returns : goal.returns
returns c =
    let n = c.args.n in
    let m = 45 * n in
    let s = shifted m (omega arith) (omega arith) in
    let z = count_leading_zeros 32 m - 8 in
    let whole : m * 2 ^ z % 4294967296 ≡ m * 2 ^ z = omega arith in
    rw whole (bits_are n (m * 2 ^ z) (136 - z) (omega arith) s.low s.high (same-value m z (omega arith)))

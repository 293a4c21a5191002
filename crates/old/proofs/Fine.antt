-- What of our rules the header of an accepted old radial meets by itself: azimuth (15) always, elevation (16) exactly up to 90
-- degrees. Assumes nothing.
use mathlib.Core.Path.{◌≡◌}
use mathlib.Core.Bool.{true, false, and-eq-true_iff}
use mathlib.Core.Logic.{dite}
use Prim.Native.Nat.{ℕ, ◌+◌, ◌*◌, ◌≤◌, ◌<◌}
use native.Mathlib.Decide.{dec_lt}
use native.Mathlib.Omega.{arith}
use lib.Dec.{leb, lit<, lit≤}
use lib.IntN.{pos, negsuc}
use lib.Ieee.{Float, nan, inf, fin, binary32, up, down, of_int, of_bits, le, lt, eq}
use lib.Ieee.Back.{round_whole}
use lib.Ieee.Bits.{is_true}
use lib.Ieee.Exact.{HasValue}
use lib.Ieee.Fits.{down_pos}
use lib.Ieee.Order.{round_mono}
use lib.Ieee.Positive.{positive_of_value, values_of_le}
use borrow.Author.Tests.{le-leb, lt-leb, lt-ltb}
use Rattle.le.proofs.Tests.{fails}
use Rattle.rules.specs.Ranges.{between, angle, is_azimuth}
use Rattle.old.specs.Angle.{angle_bits}
use Rattle.old.proofs.Angles.{of-angle, angle-exact}

at_most : (n k : ℕ) → n * 180 ≤ k * 32768 → le (of_bits binary32 (angle_bits n)) (of_int binary32 (pos k)) ≡ true
unfolding of_int
at_most n k h = rw (of-angle n) (is_true _ (round_mono binary32 (n * 180) 32768 k 1 (lit< tt) (lit< tt) (omega arith)))

at_least : (n : ℕ) → le (of_int binary32 (pos 0)) (of_bits binary32 (angle_bits n)) ≡ true
unfolding of_int
at_least n = rw (of-angle n) (is_true _ (round_mono binary32 0 1 (n * 180) 32768 (lit< tt) (lit< tt) (omega arith)))

pub azimuth-fine : (n : ℕ) → n < 65536 → is_azimuth (angle_bits n) ≡ true
unfolding angle between
azimuth-fine n h = (and-eq-true_iff _ _).1 (at_least n, at_most n 360 (omega arith))

-- ---- elevation: -2 to 90 is 0 to 90 here, so exactly up to n = 16,384
above-two : (x : Float) (a c : ℕ) → HasValue x false a c → le (of_int binary32 (negsuc 1)) x ≡ true
unfolding of_int le lt eq
above-two nan a c v = absurd v
above-two (inf s) a c v = absurd v
above-two (fin s m e) a c v = rw (v.0, lt-ltb 0 (2 * down e + m * up e * 1) (omega (arith, down_pos e)))

ninety : HasValue (of_int binary32 (pos 90)) false 90 1
unfolding of_int
ninety = round_whole binary32 false 90 (lit≤ tt)

over-ninety : (n : ℕ) → n < 65536 → 16384 < n → le (of_bits binary32 (angle_bits n)) (of_int binary32 (pos 90)) ≡ false
over-ninety n small h =
    let x = of_bits binary32 (angle_bits n) in
    let y = of_int binary32 (pos 90) in
    let v : HasValue x false (n * 180) 32768 = angle-exact n small in
    let px = positive_of_value x (n * 180) 32768 v (omega arith) in
    let py = positive_of_value y 90 1 ninety (lit< tt) in
    fails (le x y) (λ e. let k = values_of_le x y (n * 180) 32768 90 1 px py v ninety (rw e tt) in omega arith)

pub elevation-is : (n : ℕ) → n < 65536 → angle (negsuc 1) (pos 90) (angle_bits n) ≡ leb n 16384
unfolding angle between
elevation-is n small =
    let x = of_bits binary32 (angle_bits n) in
    dite (dec_lt 16384 n)
    (λ h. rw (above-two x (n * 180) 32768 (angle-exact n small), over-ninety n small h, lt-leb n 16384 h))
    (λ h. rw (above-two x (n * 180) 32768 (angle-exact n small), at_most n 90 (omega arith), le-leb n 16384 (omega arith)))

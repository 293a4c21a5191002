-- Each of the four tests on the bits answers what the range of the value answers, for every pattern of 32 bits. antt computes each
-- end's value. Assumes nothing.
use mathlib.Core.Path.{◌≡◌, refl}
use mathlib.Core.Bool.{true, false}
use Prim.Native.Nat.{ℕ, ◌<◌, ◌^◌}
use lib.Dec.{lit<}
use lib.IntN.{pos, negsuc}
use lib.Ieee.{binary32, of_int}
use Rattle.rules.specs.Ranges.{between, angle, latitude_bits, longitude_bits, azimuth_bits, elevation_bits}
use Rattle.rules.proofs.Order.{mag, by_bits}

pub latitude : (b : ℕ) → b < 2 ^ 32 → angle (negsuc 89) (pos 90) b ≡ latitude_bits b
unfolding angle between of_int mag
latitude = by_bits (of_int binary32 (negsuc 89)) (of_int binary32 (pos 90)) true 0x42B4_0000 0x42B4_0000 (lit< tt) (lit< tt) (refl, refl) tt (refl, refl)

pub longitude : (b : ℕ) → b < 2 ^ 32 → angle (negsuc 179) (pos 180) b ≡ longitude_bits b
unfolding angle between of_int mag
longitude = by_bits (of_int binary32 (negsuc 179)) (of_int binary32 (pos 180)) true 0x4334_0000 0x4334_0000 (lit< tt) (lit< tt) (refl, refl) tt (refl, refl)

pub azimuth : (b : ℕ) → b < 2 ^ 32 → angle (pos 0) (pos 360) b ≡ azimuth_bits b
unfolding angle between of_int mag
azimuth = by_bits (of_int binary32 (pos 0)) (of_int binary32 (pos 360)) false 0 0x43B4_0000 (lit< tt) (lit< tt) (refl, refl) refl (refl, refl)

pub elevation : (b : ℕ) → b < 2 ^ 32 → angle (negsuc 1) (pos 90) b ≡ elevation_bits b
unfolding angle between of_int mag
elevation = by_bits (of_int binary32 (negsuc 1)) (of_int binary32 (pos 90)) true 0x4000_0000 0x42B4_0000 (lit< tt) (lit< tt) (refl, refl) tt (refl, refl)

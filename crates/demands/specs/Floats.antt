-- Floats (document 02, #105). The four angles of a volume are tested on the bits of the number, with no float operation, and each
-- test answers what the range of the IEEE value answers; a table has the bits at which they turn. The one float operation there is
-- stands behind a value that is answered, and flags nothing but that it is inexact.
use Rattle.std.specs.Prelude.{ℕ, ◌/◌, ◌%◌, ◌^◌, ◌<◌, Bool, true, false, cond, ◌&&◌, List, [], ◌∷◌, map, ◌↔◌, ◌≡◌, leb, ltb, eqb, ℤ, pos, negsuc, neg_ℤ, Float}
use Rattle.std.specs.Float.{nan, inf, fin, binary32}
use Rattle.std.specs.Float.Ieee.{of_bits, of_int, le, eq}
use Rattle.le.specs.Le.{Bytes}
use Rattle.rules.specs.Check.{Rule, rule}
use Rattle.rules.specs.Ranges.{latitude_bits, longitude_bits, azimuth_bits, elevation_bits}
use Rattle.radial.specs.declared.Radial.{Radial}
use Rattle.radial.specs.declared.RadialDue.{RadialDue}
use Rattle.radial.specs.Radial.{radial_rules}
use Rattle.site.specs.declared.Site.{Site}
use Rattle.site.specs.Site.{site_rules}
use Rattle.gates.specs.declared.Coding.{Coding}
use Rattle.gates.specs.Exact.{Finite}
use Rattle.gates.specs.Gates.{float_of, hundredths_of, Values}
use Rattle.gates.specs.Telling.{answered}
use Rattle.ask.specs.Divided.{Divided}
use Rattle.ask.specs.Growth.{gate_asked}

-- an angle: the whole degrees from which to which it goes, the bits of its upper and of its lower end, and its test on the bits,
-- which a function of `rules::angles` promises
pub record Angle : Type 0 where
  pub from : ℤ
  pub to : ℤ
  pub upper : ℕ
  pub lower : ℕ
  pub test : ℕ → Bool

abbrev pub latitude : Angle
latitude = record { from = neg_ℤ (pos 90); to = pos 90; upper = 0x42B4_0000; lower = 0xC2B4_0000; test = latitude_bits }

abbrev pub longitude : Angle
longitude = record { from = neg_ℤ (pos 180); to = pos 180; upper = 0x4334_0000; lower = 0xC334_0000; test = longitude_bits }

abbrev pub azimuth : Angle
azimuth = record { from = pos 0; to = pos 360; upper = 0x43B4_0000; lower = 0x8000_0000; test = azimuth_bits }

abbrev pub elevation : Angle
elevation = record { from = neg_ℤ (pos 2); to = pos 90; upper = 0x42B4_0000; lower = 0xC000_0000; test = elevation_bits }

-- whether the value lies in the range, by the comparisons of IEEE 754
abbrev pub in_range : Angle → ℕ → Bool
in_range a b = le (of_int binary32 a.from) (of_bits binary32 b) && le (of_bits binary32 b) (of_int binary32 a.to)

-- the bits of a NaN, of either sign: the eight of the exponent are ones, and at least one of the 23 below them is. It is quiet where
-- the first of these is 1, and signalling where it is 0
pub record Nan (b : ℕ) : Type 0 where
  pub exponent : b / 2 ^ 23 % 256 ≡ 255
  pub digits : b % 2 ^ 23 ≡ 0 → ⊥

pub record OnBits (a : Angle) : Type 0 where
  -- for every pattern of 32 bits the test answers what the range answers
  pub same : (b : ℕ) → b < 2 ^ 32 → a.test b ≡ in_range a b
  -- it goes by two numbers: past which bits, the sign clear or set, it says no; and these are the bits of the ends
  pub turns : (b : ℕ) → b < 2 ^ 32 → a.test b ≡ cond (ltb b (2 ^ 31)) (leb b a.upper) (leb b a.lower)
  pub ends : (eq (of_bits binary32 a.upper) (of_int binary32 a.to) ≡ true) × (eq (of_bits binary32 a.lower) (of_int binary32 a.from) ≡ true)
  -- a NaN is in no range
  pub nan : (b : ℕ) → b < 2 ^ 32 → Nan b → a.test b ≡ false

-- a line: bits, the value that they are, and whether that is a latitude, a longitude, an azimuth and an elevation
pub data Line : Type 0 where
  line : ℕ → Float → Bool → Bool → Bool → Bool → Line

-- a line by the ranges of the value, and by the tests on the bits
abbrev pub by_ranges : Line → Line
by_ranges (line b x p q r s) = line b (of_bits binary32 b) (in_range latitude b) (in_range longitude b) (in_range azimuth b) (in_range elevation b)

abbrev pub by_tests : Line → Line
by_tests (line b x p q r s) = line b (of_bits binary32 b) (latitude.test b) (longitude.test b) (azimuth.test b) (elevation.test b)

-- both zeros and the smallest numbers of both signs; each end of a range between its two neighbours; the infinities; the first and
-- the last NaN of each kind, signalling and quiet, of both signs
unfoldable pub table : List Line
table =
    line 0x0000_0000 (fin false 0 (pos 0)) true true true true
    ∷ line 0x8000_0000 (fin true 0 (pos 0)) true true true true
    ∷ line 0x0000_0001 (fin false 1 (negsuc 148)) true true true true
    ∷ line 0x8000_0001 (fin true 1 (negsuc 148)) true true false true
    -- -2
    ∷ line 0xBFFF_FFFF (fin true 16777215 (negsuc 22)) true true false true
    ∷ line 0xC000_0000 (fin true 1 (pos 1)) true true false true
    ∷ line 0xC000_0001 (fin true 8388609 (negsuc 21)) true true false false
    -- 90 and -90
    ∷ line 0x42B3_FFFF (fin false 11796479 (negsuc 16)) true true true true
    ∷ line 0x42B4_0000 (fin false 45 (pos 1)) true true true true
    ∷ line 0x42B4_0001 (fin false 11796481 (negsuc 16)) false true true false
    ∷ line 0xC2B3_FFFF (fin true 11796479 (negsuc 16)) true true false false
    ∷ line 0xC2B4_0000 (fin true 45 (pos 1)) true true false false
    ∷ line 0xC2B4_0001 (fin true 11796481 (negsuc 16)) false true false false
    -- 180 and -180
    ∷ line 0x4333_FFFF (fin false 11796479 (negsuc 15)) false true true false
    ∷ line 0x4334_0000 (fin false 45 (pos 2)) false true true false
    ∷ line 0x4334_0001 (fin false 11796481 (negsuc 15)) false false true false
    ∷ line 0xC333_FFFF (fin true 11796479 (negsuc 15)) false true false false
    ∷ line 0xC334_0000 (fin true 45 (pos 2)) false true false false
    ∷ line 0xC334_0001 (fin true 11796481 (negsuc 15)) false false false false
    -- 360
    ∷ line 0x43B3_FFFF (fin false 11796479 (negsuc 14)) false false true false
    ∷ line 0x43B4_0000 (fin false 45 (pos 3)) false false true false
    ∷ line 0x43B4_0001 (fin false 11796481 (negsuc 14)) false false false false
    ∷ line 0x7F80_0000 (inf false) false false false false
    ∷ line 0xFF80_0000 (inf true) false false false false
    -- signalling, then quiet
    ∷ line 0x7F80_0001 nan false false false false
    ∷ line 0x7FBF_FFFF nan false false false false
    ∷ line 0xFF80_0001 nan false false false false
    ∷ line 0xFFBF_FFFF nan false false false false
    ∷ line 0x7FC0_0000 nan false false false false
    ∷ line 0x7FFF_FFFF nan false false false false
    ∷ line 0xFFC0_0000 nan false false false false
    ∷ line 0xFFFF_FFFF nan false false false false
    ∷ []

-- the rules of a number in a block's list
abbrev pub numbered : ℕ → List Rule → List Rule
numbered n [] = []
numbered n (r ∷ rs) = cond (eqb r.number n) (r ∷ numbered n rs) (numbered n rs)

-- the rules by these numbers are these tests and no other, each at its field's place
pub record Ruled : Type 0 where
  pub number-3 : (r : Site) → r.latitude < 2 ^ 32 → numbered 3 (site_rules r) ≡ rule 40 4 3 (latitude.test r.latitude ∷ []) ∷ []
  pub number-4 : (r : Site) → r.longitude < 2 ^ 32 → numbered 4 (site_rules r) ≡ rule 44 4 4 (longitude.test r.longitude ∷ []) ∷ []
  pub number-15 : (r : Radial) (d : RadialDue) → r.azimuth < 2 ^ 32 → numbered 15 (radial_rules r d) ≡ rule 20 4 15 (azimuth.test r.azimuth ∷ []) ∷ []
  pub number-16 : (r : Radial) (d : RadialDue) → r.elevation < 2 ^ 32 → numbered 16 (radial_rules r d) ≡ rule 24 4 16 (elevation.test r.elevation ∷ []) ∷ []

pub record Floats : Type 0 where
  pub latitude : OnBits latitude
  pub longitude : OnBits longitude
  pub azimuth : OnBits azimuth
  pub elevation : OnBits elevation
  -- these bits, and no others, are a NaN
  pub nans : (b : ℕ) → b < 2 ^ 32 → (of_bits binary32 b ≡ nan) ↔ Nan b
  pub by-ranges : map by_ranges table ≡ table
  pub by_tests : map by_tests table ≡ table
  pub rules : Ruled
  -- a value that is answered of a file is one division of two whole numbers, by a scale of 1 to 32,768
  pub division : (f : List ℕ) → Bytes f → (n t i : ℕ) (v : Values) → gate_asked f n t i ≡ answered v → v.gate.0 ≡ 5 → Divided v
  -- a caller of `gates` may have a scale of 0, which no file has: nothing is divided then
  pub by_zero : (c : Coding) (code : ℕ) → c.scale ≡ 0 → (float_of c code ≡ fin false 0 (pos 0)) × (hundredths_of c code ≡ pos 0)
  -- so no gate's float is a NaN or an infinity, whatever 16 bits hold
  pub finite : (c : Coding) (code : ℕ) → code < 65536 → c.offset < 65536 → c.scale < 65536 → Finite (float_of c code)

-- Tallies by wedge (document 02, #114): what lies in a wedge, by the exact value of the azimuth, and that a wedge and the wedge back
-- add up to the full tally. How far 61, 30 and 31 go is in `One`, what a tally counts in `ask/Counted`, what growth keeps in `Three`.
use Rattle.std.specs.Prelude.{ℕ, ◌+◌, ◌*◌, ◌^◌, ◌≤◌, ◌<◌, Bool, true, false, not, List, [], ◌∷◌, map, ◌↔◌, ◌⊎◌, ◌≡◌, pos, negsuc, Float}
use Rattle.std.specs.Float.{fin, inf, nan, binary32}
use Rattle.std.specs.Float.Ieee.{of_bits}
use Rattle.std.specs.Float.Ieee.Exact.{HasValue}
use Rattle.std.specs.Prelude.{Ok}
use Rattle.rules.specs.Ranges.{is_azimuth}
use Rattle.radial.specs.declared.Radial.{Radial}
use Rattle.radial.specs.declared.RadialDue.{RadialDue}
use Rattle.radial.specs.Radial.{radial_check}
use Rattle.wedge.specs.declared.Wedge.{Wedge}
use Rattle.wedge.specs.Wedge.{in_wedge}
use Rattle.gates.specs.Telling.{Telling, refused, answered}
use Rattle.reading.specs.Reading.{stop}
use Rattle.ask.specs.declared.tallies.Sums.{Sums}
use Rattle.ask.specs.declared.tallies.Tally.{Tally}
use Rattle.ask.specs.Tallies.{no_sums, cut_accepted, tally_answer}

abbrev pub wedge : ℕ → ℕ → Wedge
wedge a b = record { start = a; end = b }

-- ---- azimuths

-- an azimuth whose exact value is the fraction a / c: a hundred times it lies from the start, counted in, to the end, left out, or
-- through north where the end is not above the start; 360 lies where 0 does
pub record Lies (w : Wedge) (bits a c : ℕ) : Type 0 where
  pub upwards : w.start < w.end → a < 360 * c → (in_wedge w bits ≡ true) ↔ ((w.start * c ≤ 100 * a) × (100 * a < w.end * c))
  pub through : w.end ≤ w.start → a < 360 * c → (in_wedge w bits ≡ true) ↔ ((w.start * c ≤ 100 * a) ⊎ (100 * a < w.end * c))
  pub full : 360 * c ≤ a → in_wedge w bits ≡ in_wedge w 0

-- every azimuth that an accepted header can have: it lies in exactly one of the wedges between two different angles, and in the full
-- circle between equal ones
pub record Parted (r : Radial) : Type 0 where
  pub one_of : (a b : ℕ) → (a ≡ b → ⊥) → in_wedge (wedge a b) r.azimuth ≡ not (in_wedge (wedge b a) r.azimuth)
  pub all-round : (a : ℕ) → in_wedge (wedge a a) r.azimuth ≡ true

-- a line: start, end, the bits of an azimuth, the value that they are, and whether it lies in the wedge
pub data Line : Type 0 where
  line : ℕ → ℕ → ℕ → Float → Bool → Line

abbrev pub computed : Line → Line
computed (line a b bits x y) = line a b bits (of_bits binary32 bits) (in_wedge (wedge a b) bits)

unfoldable pub table : List Line
table =
    -- zero, minus zero and 360 lie where the wedge goes over north, and not where it ends there; so does the smallest above zero
    line 0 1 0x0000_0000 (fin false 0 (pos 0)) true
    ∷ line 0 1 0x8000_0000 (fin true 0 (pos 0)) true
    ∷ line 0 1 0x43B4_0000 (fin false 45 (pos 3)) true
    ∷ line 35999 1 0x43B4_0000 (fin false 45 (pos 3)) true
    ∷ line 35999 0 0x0000_0000 (fin false 0 (pos 0)) false
    ∷ line 35999 0 0x43B4_0000 (fin false 45 (pos 3)) false
    ∷ line 0 1 0x0000_0001 (fin false 1 (negsuc 148)) true
    ∷ line 1 0 0x0000_0001 (fin false 1 (negsuc 148)) false
    -- the singles next to 12.34 on both sides, and a start and an end there
    ∷ line 1234 1235 0x4145_70A3 (fin false 12939427 (negsuc 19)) false
    ∷ line 1234 1235 0x4145_70A4 (fin false 3234857 (negsuc 17)) true
    ∷ line 1233 1234 0x4145_70A3 (fin false 12939427 (negsuc 19)) true
    ∷ line 1233 1234 0x4145_70A4 (fin false 3234857 (negsuc 17)) false
    -- 90 at a start and at an end
    ∷ line 9000 18000 0x42B4_0000 (fin false 45 (pos 1)) true
    ∷ line 0 9000 0x42B4_0000 (fin false 45 (pos 1)) false
    -- the single at 359.99 is below it, and the next above; 359.995 is not rounded up to 360
    ∷ line 35999 0 0x43B3_FEB8 (fin false 1474519 (negsuc 11)) false
    ∷ line 35999 0 0x43B3_FEB9 (fin false 11796153 (negsuc 14)) true
    ∷ line 35999 0 0x43B3_FF5C (fin false 2949079 (negsuc 12)) true
    ∷ line 0 35999 0x43B3_FF5C (fin false 2949079 (negsuc 12)) false
    -- equal ends; the last single below 360, and what is no azimuth
    ∷ line 1234 1234 0x4145_70A3 (fin false 12939427 (negsuc 19)) true
    ∷ line 0 0 0x43B3_FFFF (fin false 11796479 (negsuc 14)) true
    ∷ line 0 0 0x43B4_0001 (fin false 11796481 (negsuc 14)) false
    ∷ line 0 0 0x8000_0001 (fin true 1 (negsuc 148)) false
    ∷ line 0 0 0x7F80_0000 (inf false) false
    ∷ line 0 0 0x7FC0_0000 nan false
    ∷ []

-- ---- tallies

-- what a tally's answer counts as: its sums; and zeros where it is refused by 31. No other answer counts
pub data CountsAs : Telling Tally → Sums → Type 0 where
  counted : (t : Tally) → CountsAs (answered t) t.sums
  none : CountsAs (refused 31 0) no_sums

-- the wedge from a to b and the wedge back against the full tally, the circle from 0 to 0: field by field
pub record AddUp (f : List ℕ) (cut t a b : ℕ) : Type 0 where
  pub there : Sums
  pub back : Sums
  pub full : Sums
  pub there-counts : CountsAs (tally_answer f cut t (wedge a b)) there
  pub back-counts : CountsAs (tally_answer f cut t (wedge b a)) back
  pub full-counts : CountsAs (tally_answer f cut t (wedge 0 0)) full
  pub radials : there.radials + back.radials ≡ full.radials
  pub blanks : there.blanks + back.blanks ≡ full.blanks
  pub below : there.counts.below + back.counts.below ≡ full.counts.below
  pub folded : there.counts.folded + back.counts.folded ≡ full.counts.folded
  pub not_scanned : there.counts.not_scanned + back.counts.not_scanned ≡ full.counts.not_scanned
  pub unknown : there.counts.unknown + back.counts.unknown ≡ full.counts.unknown
  pub reserved : there.counts.reserved + back.counts.reserved ≡ full.counts.reserved
  pub value : there.counts.value + back.counts.value ≡ full.counts.value
  pub class : there.counts.class + back.counts.class ≡ full.counts.class

-- where the cut is not accepted all three are refused by 30
pub record Nothing (f : List ℕ) (cut t a b : ℕ) : Type 0 where
  pub there : tally_answer f cut t (wedge a b) ≡ refused 30 0
  pub back : tally_answer f cut t (wedge b a) ≡ refused 30 0
  pub full : tally_answer f cut t (wedge 0 0) ≡ refused 30 0

-- two different angles of 0 to 35,999
pub record Apart (a b : ℕ) : Type 0 where
  pub first : a ≤ 35999
  pub second : b ≤ 35999
  pub differ : a ≡ b → ⊥

pub record Wedges : Type 0 where
  pub lies : (w : Wedge) (bits a c : ℕ) (s : Bool) → bits < 2 ^ 32 → is_azimuth bits ≡ true → 0 < c → HasValue (of_bits binary32 bits) s a c → Lies w bits a c
  pub no-azimuth : (w : Wedge) (bits : ℕ) → is_azimuth bits ≡ false → in_wedge w bits ≡ false
  pub parted : (r : Radial) (d : RadialDue) → radial_check r d ≡ (Ok tt) → Parted r
  pub numbers : map computed table ≡ table
  pub add-up : (f : List ℕ) (cut t a b : ℕ) → Apart a b → cut_accepted (stop f) cut ≡ true → AddUp f cut t a b
  pub nothing : (f : List ℕ) (cut t a b : ℕ) → Apart a b → cut_accepted (stop f) cut ≡ false → Nothing f cut t a b
  -- the record has the wedge as it was asked
  pub asked : (f : List ℕ) (cut t : ℕ) (w : Wedge) (x : Tally) → tally_answer f cut t w ≡ answered x → x.wedge ≡ w

-- The import of an old shelf (document 02, #102): what it reads of an old file, in which order it is refused, and what it has brought
-- over where it is taken. That a refusal leaves everything as it was, and that its promise leaves no choice, is in `One`.
use Rattle.std.specs.Prelude.{ℕ, ◌+◌, ◌*◌, ◌<◌, true, false, List, [], ◌∷◌, ◌++◌, map, ◌≡◌, ℤ, pos, negsuc, get_or}
use Rattle.le.specs.Le.{Bytes}
use Rattle.generic.specs.declared.Generic.{Generic}
use Rattle.generic.specs.Generic.{GenericFits}
use Rattle.site.specs.declared.Site.{Site}
use Rattle.site.specs.Site.{SiteFits}
use Rattle.task.specs.declared.Task.{Task}
use Rattle.task.specs.Task.{TaskFits}
use Rattle.gates.specs.Gates.{kind_of, told_of}
use Rattle.writer.specs.declared.order.Answer.TheVariants.{Taken}
use Rattle.old.specs.declared.codes.Quantity.{Quantity}
use Rattle.old.specs.declared.codes.Quantity.TheVariants.{Reflectivity, Velocity, Width}
use Rattle.old.specs.declared.record.OldRadial.{OldRadial}
use Rattle.old.specs.Angle.{angle_bits}
use Rattle.old.specs.Clock.{time_ok}
use Rattle.old.specs.Codes.{over, Same, formula, new_code, coding_of}
use Rattle.old.specs.Old.{old_at}
use Rattle.shelf.specs.Brought.{old_code, Brought}
use Rattle.shelf.specs.Growth.{ImportGrows}
use Rattle.shelf.specs.Import.{moments_of, import_of}
use Rattle.shelf.specs.Order.{Radials, Ordered}

-- ---- what is read of an old radial

-- an unsigned number of two bytes and of four, the low byte first
abbrev pub two : List ℕ → ℕ → ℕ
two f at = get_or f at 0 + 256 * get_or f (at + 1) 0

abbrev pub four : List ℕ → ℕ → ℕ
four f at = two f at + 65536 * two f (at + 2)

-- each field of the radial at a place by its own bytes, and each code by its place behind the header: reflectivity, velocity and width back
-- to back, by the counts of gates
pub record Fields (f : List ℕ) (at : ℕ) : Type 0 where
  pub mark : (old_at f at).mark ≡ two f (at + 14)
  pub milliseconds : (old_at f at).milliseconds ≡ four f (at + 28)
  pub day : (old_at f at).day ≡ two f (at + 32)
  pub azimuth : (old_at f at).azimuth ≡ two f (at + 36)
  pub state : (old_at f at).state ≡ two f (at + 40)
  pub elevation : (old_at f at).elevation ≡ two f (at + 42)
  pub elevation-number : (old_at f at).elevation_number ≡ two f (at + 44)
  pub reflectivity : (old_at f at).reflectivity ≡ two f (at + 54)
  pub doppler : (old_at f at).doppler ≡ two f (at + 56)
  pub resolution : (old_at f at).resolution ≡ two f (at + 70)
  pub first-codes : (i : ℕ) → old_code Reflectivity f at i ≡ get_or f (at + 128 + i) 0
  pub second-codes : (i : ℕ) → old_code Velocity f at i ≡ get_or f (at + 128 + two f (at + 54) + i) 0
  pub third-codes : (i : ℕ) → old_code Width f at i ≡ get_or f (at + 128 + two f (at + 54) + two f (at + 56) + i) 0

-- the moments that are put of it, by their types, in this order; one of 0 gates is left out
abbrev pub types_of : OldRadial → List ℕ → ℕ → List ℕ
types_of o f at = map (λ p. p.header.data_type) (moments_of o f at)

pub record InOrder (o : OldRadial) (f : List ℕ) (at : ℕ) : Type 0 where
  pub all : 0 < o.reflectivity → 0 < o.doppler → types_of o f at ≡ 2 ∷ 3 ∷ 4 ∷ []
  pub reflectivity-alone : 0 < o.reflectivity → o.doppler ≡ 0 → types_of o f at ≡ 2 ∷ []
  pub doppler-alone : o.reflectivity ≡ 0 → 0 < o.doppler → types_of o f at ≡ 3 ∷ 4 ∷ []

-- ---- what a code is worth, worked out by hand from document 003

pub record Worth : Type 0 where
  -- reflectivity: -32, 0, 94.5
  pub least-reflectivity : Same (formula Reflectivity 2 2) (over (negsuc 31) 1)
  pub no-reflectivity : Same (formula Reflectivity 2 66) (over (pos 0) 1)
  pub most-reflectivity : Same (formula Reflectivity 4 255) (over (pos 189) 2)
  -- velocity in steps of a half: -63.5, 0, 63
  pub least-halves : Same (formula Velocity 2 2) (over (negsuc 126) 2)
  pub no-halves : Same (formula Velocity 2 129) (over (pos 0) 1)
  pub most-halves : Same (formula Velocity 2 255) (over (pos 63) 1)
  -- and in whole steps: -127, 0, 126
  pub least-wholes : Same (formula Velocity 4 2) (over (negsuc 126) 1)
  pub no-wholes : Same (formula Velocity 4 129) (over (pos 0) 1)
  pub most-wholes : Same (formula Velocity 4 255) (over (pos 126) 1)
  -- width, whatever the resolution of velocity: -63.5, 0, 63
  pub least-width : Same (formula Width 4 2) (over (negsuc 126) 2)
  pub no-width : Same (formula Width 2 129) (over (pos 0) 1)
  pub most-width : Same (formula Width 4 255) (over (pos 63) 1)

-- ---- what we write for a code

-- a line: moment, resolution and old code; our code, its kind, the code less the offset, the scale, the hundredths
pub data Line : Type 0 where
  line : Quantity → ℕ → ℕ → ℕ → ℕ → ℤ → ℕ → ℤ → Line

abbrev pub computed : Line → Line
computed (line q r v n k d s h) =
    let c = coding_of q r in
    line q r v (new_code v) (kind_of c (new_code v)) (told_of c (new_code v)).difference (told_of c (new_code v)).scale (told_of c (new_code v)).hundredths

unfoldable pub table : List Line
table =
    -- no echo and range folded stay, for each moment
    line Reflectivity 2 0 0 0 (pos 0) 0 (pos 0)
    ∷ line Reflectivity 2 1 1 1 (pos 0) 0 (pos 0)
    ∷ line Velocity 2 0 0 0 (pos 0) 0 (pos 0)
    ∷ line Velocity 4 1 1 1 (pos 0) 0 (pos 0)
    ∷ line Width 2 0 0 0 (pos 0) 0 (pos 0)
    ∷ line Width 4 1 1 1 (pos 0) 0 (pos 0)
    -- reflectivity: scale 2, offset 69
    ∷ line Reflectivity 2 2 5 5 (negsuc 63) 2 (negsuc 3199)
    ∷ line Reflectivity 4 66 69 5 (pos 0) 2 (pos 0)
    ∷ line Reflectivity 2 67 70 5 (pos 1) 2 (pos 50)
    ∷ line Reflectivity 2 254 257 5 (pos 188) 2 (pos 9400)
    ∷ line Reflectivity 4 255 258 5 (pos 189) 2 (pos 9450)
    -- velocity: scale 2, offset 132, and scale 1 where the resolution is 4
    ∷ line Velocity 2 2 5 5 (negsuc 126) 2 (negsuc 6349)
    ∷ line Velocity 2 129 132 5 (pos 0) 2 (pos 0)
    ∷ line Velocity 2 255 258 5 (pos 126) 2 (pos 6300)
    ∷ line Velocity 4 2 5 5 (negsuc 126) 1 (negsuc 12699)
    ∷ line Velocity 4 129 132 5 (pos 0) 1 (pos 0)
    ∷ line Velocity 4 255 258 5 (pos 126) 1 (pos 12600)
    -- width: scale 2, offset 132
    ∷ line Width 2 2 5 5 (negsuc 126) 2 (negsuc 6349)
    ∷ line Width 4 129 132 5 (pos 0) 2 (pos 0)
    ∷ line Width 4 255 258 5 (pos 126) 2 (pos 6300)
    ∷ []

-- 0 degrees; the least angle, 180 / 32,768; 45, 90, 180 and 270 degrees; the largest, under 360
abbrev pub Angles : Type 0
Angles =
    map angle_bits (0 ∷ 1 ∷ 8192 ∷ 16384 ∷ 32768 ∷ 49152 ∷ 65535 ∷ [])
    ≡ 0 ∷ 0x3BB4_0000 ∷ 0x4234_0000 ∷ 0x42B4_0000 ∷ 0x4334_0000 ∷ 0x4387_0000 ∷ 0x43B3_FF4C ∷ []

-- which times 62 lets through, from both sides of each end: day 0; day 1, from its first millisecond to its last; the last day that fits
-- whole; the next one up to 03:14:07.999, and not a millisecond more; the one after it
abbrev pub Times : Type 0
Times =
    time_ok 0 0
    ∷ time_ok 1 0
    ∷ time_ok 1 86399999
    ∷ time_ok 1 86400000
    ∷ time_ok 24855 86399999
    ∷ time_ok 24856 11647999
    ∷ time_ok 24856 11648000
    ∷ time_ok 24857 0
    ∷ []
    ≡ false ∷ true ∷ true ∷ false ∷ true ∷ true ∷ false ∷ false ∷ []

-- ---- the import

pub record Imports : Type 0 where
  pub fields : (f : List ℕ) (at : ℕ) → Fields f at
  pub in_order : (o : OldRadial) (f : List ℕ) (at : ℕ) → InOrder o f at
  pub worth : Worth
  pub worked : map computed table ≡ table
  pub angles : Angles
  pub times : Times
  -- 50, then the writer's on our records, then radial by radial 51, 62, 52, 53 at the radial's place in the old file and the writer's
  pub ordered : (g : Generic) (s : Site) (t : Task) (c f room : List ℕ) → Ordered g s t c f room
  -- taken, it is what the writer makes of its blocks one by one, read to its last byte, complete or open; every radial is there, with its
  -- header kept, and every gate with its kind and exact value
  pub brought : (g : Generic) (s : Site) (t : Task) (c f room : List ℕ) → GenericFits g → SiteFits s → TaskFits t → Bytes c → Bytes f
      → (import_of g s t c f room).answer ≡ Taken → Brought g s t c f room (import_of g s t c f room)
  -- an old file that grows by radials is refused as before, and what was written begins what is written
  pub grows : (g : Generic) (s : Site) (t : Task) (c A C room : List ℕ) (m n : ℕ) → Radials A m → Radials C n
      → GenericFits g → SiteFits s → TaskFits t → Bytes c → Bytes (A ++ C) → ImportGrows g s t c A C room

-- The radial header block (table 3-1): record to bytes to record, bytes to record to bytes, and how many
-- bytes there are. Assumes nothing.
use mathlib.Core.Path.{◌≡◌, refl, ◌∙◌}
use mathlib.Core.List.{List, []}
use Prim.Native.Nat.{ℕ}
use native.Mathlib.Omega.{arith}
use lib.ListN.{length, length-append}
use Rattle.le.specs.Le.{le, bytes, part, run, items, Bytes}
use Rattle.le.proofs.Laws.{length-bytes, le_bytes, part-all, join, run-numbers, length_part, le-lt}
use Rattle.le.proofs.Coded.{Coded}
use Rattle.radial.specs.Radial.{radial_of, radial_bytes, radial_size, RadialFits}
use Rattle.radial.specs.declared.Radial.{Radial}

pub there_and_back : (r : Radial) → RadialFits r → radial_of (radial_bytes r) ≡ r
unfolding radial_of radial_bytes le bytes run part
there_and_back r h =
    λ i. record {
      state = le_bytes 4 r.state [] h.state i;
      spot_blank = le_bytes 4 r.spot_blank [] h.spot_blank i;
      sequence = le_bytes 4 r.sequence [] h.sequence i;
      radial_number = le_bytes 4 r.radial_number [] h.radial_number i;
      elevation_number = le_bytes 4 r.elevation_number [] h.elevation_number i;
      azimuth = le_bytes 4 r.azimuth [] h.azimuth i;
      elevation = le_bytes 4 r.elevation [] h.elevation i;
      seconds = le_bytes 4 r.seconds [] h.seconds i;
      microseconds = le_bytes 4 r.microseconds [] h.microseconds i;
      length_of_data = le_bytes 4 r.length_of_data [] h.length_of_data i;
      moment_number = le_bytes 4 r.moment_number [] h.moment_number i;
      reserved = part-all 20 r.reserved h.reserved i;
    }

pub back-and-there : (b : List ℕ) → Bytes b → length b ≡ radial_size → radial_bytes (radial_of b) ≡ b
unfolding radial_of radial_bytes items
back-and-there b bs n =
    (join b 44 20 (run-numbers 4 11 b 0 bs)
    refl)
    ∙ part-all 64 b n

-- how long a record's bytes are
pub length-is : (r : Radial) → RadialFits r → length (radial_bytes r) ≡ radial_size
unfolding radial_bytes run
length-is r h = simp (length-append, length-bytes) (omega arith)

-- what bytes hold fits the record
pub fits-of : (b : List ℕ) → Bytes b → RadialFits (radial_of b)
unfolding radial_of
fits-of b bs = search (le-lt, length_part)

abbrev pub coded : Coded Radial
coded =
    record { size = radial_size; enc = radial_bytes; dec = radial_of; Fits = RadialFits; back = there_and_back; there = back-and-there; long = length-is; fits = fits-of }

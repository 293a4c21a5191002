-- The moment header block (table 3-2): record to bytes to record, bytes to record to bytes, and how many
-- bytes there are. Assumes nothing.
use mathlib.Core.Path.{◌≡◌, refl, ◌∙◌}
use mathlib.Core.List.{List, []}
use Prim.Native.Nat.{ℕ}
use native.Mathlib.Omega.{arith}
use lib.ListN.{length, length-append}
use Rattle.le.specs.Le.{le, bytes, part, run, items, Bytes}
use Rattle.le.proofs.Laws.{length-bytes, le_bytes, bytes_le, part-all, join, run-numbers, length_part, le-lt}
use Rattle.le.proofs.Coded.{Coded}
use Rattle.moment.specs.Moment.{moment_of, moment_bytes, moment_size, MomentFits}
use Rattle.moment.specs.declared.Moment.{Moment}

pub there_and_back : (r : Moment) → MomentFits r → moment_of (moment_bytes r) ≡ r
unfolding moment_of moment_bytes le bytes run part
there_and_back r h =
    λ i. record {
      data_type = le_bytes 4 r.data_type [] h.data_type i;
      scale = le_bytes 4 r.scale [] h.scale i;
      offset = le_bytes 4 r.offset [] h.offset i;
      bin_length = le_bytes 2 r.bin_length [] h.bin_length i;
      flags = le_bytes 2 r.flags [] h.flags i;
      length = le_bytes 4 r.length [] h.length i;
      reserved = part-all 12 r.reserved h.reserved i;
    }

pub back-and-there : (b : List ℕ) → Bytes b → length b ≡ moment_size → moment_bytes (moment_of b) ≡ b
unfolding moment_of moment_bytes items
back-and-there b bs n =
    (join b 20 12 (join b 16 4 (join b 12 4 (run-numbers 4 3 b 0 bs)
    (run-numbers 2 2 b 12 bs))
    (bytes_le 4 b 16 bs))
    refl)
    ∙ part-all 32 b n

-- how long a record's bytes are
pub length-is : (r : Moment) → MomentFits r → length (moment_bytes r) ≡ moment_size
unfolding moment_bytes run
length-is r h = simp (length-append, length-bytes) (omega arith)

-- what bytes hold fits the record
pub fits-of : (b : List ℕ) → Bytes b → MomentFits (moment_of b)
unfolding moment_of
fits-of b bs = search (le-lt, length_part)

abbrev pub coded : Coded Moment
coded =
    record { size = moment_size; enc = moment_bytes; dec = moment_of; Fits = MomentFits; back = there_and_back; there = back-and-there; long = length-is; fits = fits-of }

-- The generic header block (table 2-2): record to bytes to record, bytes to record to bytes, and how many
-- bytes there are. Assumes nothing.
use mathlib.Core.Path.{◌≡◌, refl, ◌∙◌}
use mathlib.Core.List.{List, []}
use Prim.Native.Nat.{ℕ}
use native.Mathlib.Omega.{arith}
use lib.ListN.{length, length-append}
use Rattle.le.specs.Le.{le, bytes, part, run, items, Bytes}
use Rattle.le.proofs.Laws.{length-bytes, le_bytes, bytes_le, part-all, join, run-numbers, length_part, le-lt}
use Rattle.le.proofs.Coded.{Coded}
use Rattle.generic.specs.Generic.{generic_of, generic_bytes, generic_size, GenericFits}
use Rattle.generic.specs.declared.Generic.{Generic}

pub there_and_back : (r : Generic) → GenericFits r → generic_of (generic_bytes r) ≡ r
unfolding generic_of generic_bytes le bytes run part
there_and_back r h =
    λ i. record {
      magic = le_bytes 4 r.magic [] h.magic i;
      major = le_bytes 2 r.major [] h.major i;
      minor = le_bytes 2 r.minor [] h.minor i;
      generic_type = le_bytes 4 r.generic_type [] h.generic_type i;
      product_type = le_bytes 4 r.product_type [] h.product_type i;
      reserved = part-all 16 r.reserved h.reserved i;
    }

pub back-and-there : (b : List ℕ) → Bytes b → length b ≡ generic_size → generic_bytes (generic_of b) ≡ b
unfolding generic_of generic_bytes items
back-and-there b bs n =
    (join b 16 16 (join b 8 8 (join b 4 4 (bytes_le 4 b 0 bs)
    (run-numbers 2 2 b 4 bs))
    (run-numbers 4 2 b 8 bs))
    refl)
    ∙ part-all 32 b n

-- how long a record's bytes are
pub length-is : (r : Generic) → GenericFits r → length (generic_bytes r) ≡ generic_size
unfolding generic_bytes run
length-is r h = simp (length-append, length-bytes) (omega arith)

-- what bytes hold fits the record
pub fits-of : (b : List ℕ) → Bytes b → GenericFits (generic_of b)
unfolding generic_of
fits-of b bs = search (le-lt, length_part)

abbrev pub coded : Coded Generic
coded =
    record { size = generic_size; enc = generic_bytes; dec = generic_of; Fits = GenericFits; back = there_and_back; there = back-and-there; long = length-is; fits = fits-of }

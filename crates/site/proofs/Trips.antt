-- The site block (table 2-3): record to bytes to record, bytes to record to bytes, and how many
-- bytes there are. Assumes nothing.
use mathlib.Core.Path.{◌≡◌, refl, sym, ap, ◌∙◌}
use mathlib.Core.List.{List, [], ◌∷◌, ◌++◌}
use Prim.Native.Nat.{ℕ}
use native.Mathlib.Omega.{arith}
use lib.ListN.{length, length-append}
use Rattle.le.specs.Le.{le, bytes, part, run, items, Bytes}
use Rattle.le.proofs.Laws.{length-bytes, le_bytes, bytes_le, part-all, join, run-numbers, length_part, le-lt}
use Rattle.le.proofs.Coded.{Coded}
use Rattle.site.specs.Site.{site_of, site_bytes, site_size, SiteFits}
use Rattle.site.specs.declared.Site.{Site}

-- the record's bytes, with other lists for those that stand before its end
abbrev bytes_with : Site → List ℕ → List ℕ → List ℕ
bytes_with r l0 l1 =
    l0
    ++ l1
    ++ run (bytes 4) (r.latitude ∷ r.longitude ∷ r.antenna_height ∷ r.ground_height ∷ r.frequency ∷ r.beam_width_h ∷ r.beam_width_v ∷ r.rda_version ∷ [])
    ++ bytes 2 r.radar_type
    ++ r.reserved

pub there_and_back : (r : Site) → SiteFits r → site_of (site_bytes r) ≡ r
unfolding site_of site_bytes le bytes run part
there_and_back r h =
    let m0 = sym (part-all 8 r.code h.code) in
    let m1 = sym (part-all 32 r.name h.name) in
    let e0 = ap (λ (l : List ℕ). site_of (bytes_with r l r.name)) m0 in
    let e1 = ap (λ (l : List ℕ). site_of (bytes_with r (part 8 r.code 0) l)) m1 in
    e0 ∙ e1 ∙ (λ i. record {
      code = sym m0 i;
      name = sym m1 i;
      latitude = le_bytes 4 r.latitude [] h.latitude i;
      longitude = le_bytes 4 r.longitude [] h.longitude i;
      antenna_height = le_bytes 4 r.antenna_height [] h.antenna_height i;
      ground_height = le_bytes 4 r.ground_height [] h.ground_height i;
      frequency = le_bytes 4 r.frequency [] h.frequency i;
      beam_width_h = le_bytes 4 r.beam_width_h [] h.beam_width_h i;
      beam_width_v = le_bytes 4 r.beam_width_v [] h.beam_width_v i;
      rda_version = le_bytes 4 r.rda_version [] h.rda_version i;
      radar_type = le_bytes 2 r.radar_type [] h.radar_type i;
      reserved = part-all 54 r.reserved h.reserved i;
    })

pub back-and-there : (b : List ℕ) → Bytes b → length b ≡ site_size → site_bytes (site_of b) ≡ b
unfolding site_of site_bytes items
back-and-there b bs n =
    (join b 74 54 (join b 72 2 (join b 40 32 (join b 8 32 refl
    refl)
    (run-numbers 4 8 b 40 bs))
    (bytes_le 2 b 72 bs))
    refl)
    ∙ part-all 128 b n

-- how long a record's bytes are
pub length-is : (r : Site) → SiteFits r → length (site_bytes r) ≡ site_size
unfolding site_bytes run
length-is r h = simp (length-append, length-bytes) (omega arith)

-- what bytes hold fits the record
pub fits-of : (b : List ℕ) → Bytes b → SiteFits (site_of b)
unfolding site_of
fits-of b bs = search (le-lt, length_part)

abbrev pub coded : Coded Site
coded =
    record { size = site_size; enc = site_bytes; dec = site_of; Fits = SiteFits; back = there_and_back; there = back-and-there; long = length-is; fits = fits-of }

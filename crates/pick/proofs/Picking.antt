-- What a pick makes of a complete volume, and which masks give it back: the statements of specs/Picked on one mask, by the volume that the
-- file is. Assumes nothing.
use Prim.Native.Nat.{ℕ, ◌+◌, ◌≤◌}
use native.Mathlib.Omega.{arith}
use borrow.Author.Tests.{le-leb, leb-true}
use mathlib.Core.Bool.{Bool, true, false, cond, ◌&&◌}
use mathlib.Core.List.{List, map}
use mathlib.Core.Path.{◌≡◌, refl, sym, ap, ap₂, subst, ◌∙◌}
use lib.Dec.{leb}
use lib.ListN.{length, length-map}
use Rattle.le.specs.Le.{Bytes}
use Rattle.le.proofs.Tests.{both}
use Rattle.rules.specs.Masks.{bit}
use Rattle.rules.specs.Ranges.{within}
use Rattle.wedge.specs.declared.Wedge.{Wedge}
use Rattle.wedge.specs.Wedge.{wedge_ok}
use Rattle.gates.specs.Telling.{refused}
use Rattle.walk.specs.Due.{cut_place}
use Rattle.reading.specs.declared.Stretch.{Stretch}
use Rattle.reading.specs.Reading.{ending, stop, stretches, told}
use Rattle.reading.proofs.Exactly.{step-done}
use Rattle.reading.proofs.Run.{ended}
use Rattle.volume.specs.Volume.{VolumeRadial, Volume, IsVolume, bytes_of_volume}
use Rattle.hope.proofs.Meaning.{means}
use Rattle.hope.proofs.Was.{bytes-narrow}
use Rattle.index.proofs.Walked.{cuts-read}
use Rattle.ask.specs.declared.tallies.Sums.{Sums}
use Rattle.ask.specs.declared.tallies.Tally.{Tally}
use Rattle.ask.specs.Tallies.{cut_accepted, tally_answer, tally_told}
use Rattle.mend.proofs.Behind.{volume-long}
use Rattle.mend.proofs.Fields.{number_in}
use Rattle.pick.specs.Only.{only_cut, only_radial, only_volume}
use Rattle.pick.specs.Pick.{Complete, picked}
use Rattle.pick.specs.Picked.{CutsIn, Fronted, GivenBack, Kept, Picking, Taken}
use Rattle.pick.proofs.Answers.{kept, same-many, tally-none, tally-same}
use Rattle.pick.proofs.Bits.{and-ones}
use Rattle.pick.proofs.Bytes.{cuts-lie, fronted, left_is, number_is, volume-picked}
use Rattle.pick.proofs.Lies.{left-same, only_same}
use Rattle.pick.proofs.Only.{only-is}
use Rattle.pick.proofs.Owned.{Owned, flat, flat_map, owned}
use Rattle.pick.proofs.Standing.{stands}
use Rattle.pick.proofs.Turns.{picked-short}

-- ---- a complete file is a volume's bytes

-- what holds of every volume's bytes holds of it
pub by-volume : (P : List ℕ → Type 0) (f : List ℕ) → Bytes f → Complete f → ((v : Volume) → IsVolume v → P (bytes_of_volume v)) → P f
by-volume P f bs e each = let h = means.holds f bs e in subst P h.bytes (each h.volume h.is)

-- its whole radials are the volume's
pub own : (v : Volume) → IsVolume v → Owned (bytes_of_volume v) (stretches (bytes_of_volume v)) (flat v.layers)
own v is = subst (λ (ss : List Stretch). Owned (bytes_of_volume v) ss (flat v.layers)) (sym (means.reads v is).radials) (owned v is)

-- and those of the volume with the wanted moments only are what a pick makes of each
pub own-only : (wanted : ℕ) (v : Volume) → IsVolume (only_volume wanted v)
    → Owned (bytes_of_volume (only_volume wanted v)) (stretches (bytes_of_volume (only_volume wanted v))) (map (only_radial wanted) (flat v.layers))
own-only wanted v only =
    let g = bytes_of_volume (only_volume wanted v) in
    subst (λ (bs : List VolumeRadial). Owned g (stretches g) bs) (flat_map (only_radial wanted) v.layers) (own (only_volume wanted v) only)

-- a cut's block is accepted there where the volume has the cut
accepted : (v : Volume) → IsVolume v → (cut : ℕ) → cut_accepted (stop (bytes_of_volume v)) cut ≡ within 1 (length v.cuts) cut
unfolding cut_accepted within
accepted v is cut =
    let f = bytes_of_volume v in
    let complete = (means.reads v is).complete in
    let cuts : (stop f).plan.cuts ≡ length v.cuts = cuts-read f complete ∙ number_in f ∙ number_is 0 v is in
    let end = (ended true f (stop f) (step-done (ending f) complete)).1 in
    let long = volume-long v is.headed in
    rw cuts
    (go (leb 1 cut && leb cut (length v.cuts)) (cut_place cut + 256) (stop f).at
    (λ e. let x = both (leb 1 cut) (leb cut (length v.cuts)) e in let low = leb-true 1 cut x.0 in let high = leb-true cut (length v.cuts) x.1 in omega arith))
  where
    go : (b : Bool) (n at : ℕ) → (b ≡ true → n ≤ at) → (b && leb n at) ≡ b
    go true n at h = le-leb n at (h refl)
    go false n at h = refl

-- ---- what is written

module _ (wanted : ℕ) (v : Volume) (is : IsVolume v) where
  abbrev file : List ℕ
  file = bytes_of_volume v

  abbrev only : Volume
  only = only_volume wanted v

  -- the same cuts are accepted in both
  accepted-same : IsVolume only → (cut : ℕ) → cut_accepted (stop (bytes_of_volume only)) cut ≡ cut_accepted (stop file) cut
  accepted-same ok cut = accepted only ok cut ∙ ap (λ (n : ℕ). within 1 n cut) (length-map v.cuts (only_cut wanted)) ∙ sym (accepted v is cut)

  -- a tally of a wanted type is answered as in the file
  answered-same : IsVolume only → (cut t : ℕ) (w : Wedge) → bit wanted t ≡ true → tally_answer (bytes_of_volume only) cut t w ≡ tally_answer file cut t w
  unfolding tally_answer
  answered-same ok cut t w e =
      ap₂ (λ (a : Bool) (x : Tally). cond (wedge_ok w) (tally_told a x) (refused 61 0)) (accepted-same ok cut)
      (tally-same file (bytes_of_volume only) wanted (flat v.layers) (own v is) (own-only wanted v ok) cut t w e)

  -- and one of another type counts no radial
  answered-31 : IsVolume only → (cut t : ℕ) (w : Wedge) → bit wanted t ≡ false
      → tally_answer (bytes_of_volume only) cut t w ≡ cond (wedge_ok w) (cond (cut_accepted (stop file) cut) (refused 31 0) (refused 30 0)) (refused 61 0)
  unfolding tally_answer tally_told
  answered-31 ok cut t w e =
      ap₂ (λ (a : Bool) (x : Sums). cond (wedge_ok w) (tally_told a (record { wedge = w; sums = x })) (refused 61 0)) (accepted-same ok cut)
      (tally-none file (bytes_of_volume only) wanted (flat v.layers) (own v is) (own-only wanted v ok) cut t w e)

  -- the statement, of a volume's bytes
  volume-picking : Bytes file → Taken wanted file → Picking wanted file
  volume-picking bytes taken =
      let bs = flat v.layers in
      let g = bytes_of_volume only in
      let left = (left_is wanted v is).0 taken.left in
      let ok = only-is wanted v is left in
      let mine = own v is in
      let new = own-only wanted v ok in
      let e = volume-picked wanted v is in
      record {
        records = record { volume = v; is = is; file = refl; left = left; only = ok; written = sym e };
        complete = ap told e ∙ (means.reads only ok).complete;
        radials = ap (λ (h : List ℕ). length (stretches h)) e ∙ same-many file g wanted bs mine new;
        no_longer = picked-short wanted file (stands file bytes taken.complete);
        fronted = subst (λ (h : List ℕ). Fronted file h wanted) (sym e) (fronted wanted v is ok);
        answers = λ n. subst (λ (h : List ℕ). Kept file h wanted n) (sym e) (kept file g wanted bs mine new n);
        tally = λ cut t w b. ap (λ (h : List ℕ). tally_answer h cut t w) e ∙ answered-same ok cut t w b;
        tally-31 = λ cut t w b. ap (λ (h : List ℕ). tally_answer h cut t w) e ∙ answered-31 ok cut t w b;
      }

  -- where the cuts' masks lie in the mask, all is left and the same bytes are written
  volume-back : CutsIn wanted file → Taken wanted file × (picked wanted file ≡ file)
  volume-back lie =
      let x = cuts-lie wanted v is lie in (
        record { complete = (means.reads v is).complete; left = (left_is wanted v is).1 (left-same wanted v is x) },
        volume-picked wanted v is ∙ ap bytes_of_volume (only_same wanted v is x),
      )

-- ---- the theorems

-- what is written of a complete volume whose radials each have a moment left
pub picking : (wanted : ℕ) (f : List ℕ) → Bytes f → Taken wanted f → Picking wanted f
picking wanted f bs t = by-volume (λ (g : List ℕ). Bytes g → Taken wanted g → Picking wanted g) f bs t.complete (volume-picking wanted) bs t

-- a mask in which every cut's mask lies gives a complete volume back
pub given_back : (f : List ℕ) → Bytes f → Complete f → GivenBack f
given_back f bs e =
    record {
      same = λ wanted. by-volume (λ (g : List ℕ). CutsIn wanted g → Taken wanted g × (picked wanted g ≡ g)) f bs e (volume-back wanted);
      all_ones = λ k low high. and-ones _ (bytes-narrow f bs k low high);
    }

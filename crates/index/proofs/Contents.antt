-- What an index says of a volume, by its structure: a count for each layer, which is the layer's radials, and the place of each
-- radial; and that each of these numbers fits its bytes. Assumes nothing.
use Prim.Native.Nat.{ℕ, suc, ◌+◌, ◌*◌, ◌^◌, ◌<◌, ◌≤◌}
use native.Mathlib.Nat.{add-zero, zero-add}
use native.Mathlib.Omega.{arith}
use mathlib.Core.List.{List, [], ◌∷◌, ◌++◌, map}
use mathlib.Core.Path.{◌≡◌, refl, sym, ap, ap₂, ◌∙◌}
use borrow.Author.Tests.{eq-eqb, ne_eqb}
use lib.ListN.{length, length-append}
use Rattle.cut.specs.declared.Cut.{Cut}
use Rattle.task.specs.declared.Task.{Task}
use Rattle.reading.specs.declared.Stretch.{Stretch}
use Rattle.volume.specs.Accepted as accepted
use Rattle.volume.specs.Meaning.{layer_stretches, layers_stretches, volume_stretches, end_of, first_place}
use Rattle.volume.specs.Sense.{Few}
use Rattle.volume.specs.Volume.{VolumeRadial, Volume, IsVolume, LayersOk, bytes_of_radial}
use Rattle.volume.proofs.Each.{Each, each-closed}
use Rattle.volume.proofs.Long.{radial-long, layer-long}
use Rattle.volume.proofs.Sense.{sense}
use Rattle.volume.proofs.Tells.{same_number}
use Rattle.index.specs.Index.{radials_in, per_cut}
use Rattle.index.specs.Forms.{Below, Fit}
use Rattle.index.proofs.Sections.{per-cut-skip}

-- ---- counts

-- a layer's radials count for its own cut, and for no other
own : (k at : ℕ) (l : List VolumeRadial) (ss : List Stretch) → radials_in k (layer_stretches k at l ++ ss) ≡ length l + radials_in k ss
unfolding radials_in
own k at [] ss = sym (zero-add (radials_in k ss))
own k at (b ∷ bs) ss = rw (eq-eqb k k refl, own k (at + length (bytes_of_radial b)) bs ss) (omega arith)

other : (c k at : ℕ) (l : List VolumeRadial) (ss : List Stretch) → (k ≡ c → ⊥) → radials_in c (layer_stretches k at l ++ ss) ≡ radials_in c ss
unfolding radials_in
other c k at [] ss n = refl
other c k at (b ∷ bs) ss n = rw (ne_eqb k c n, other c k (at + length (bytes_of_radial b)) bs ss n) (zero-add (radials_in c ss))

later : (c k at : ℕ) (ls : List (List VolumeRadial)) → c < k → radials_in c (layers_stretches k at ls) ≡ 0
unfolding radials_in
later c k at [] h = refl
later c k at (l ∷ ls) h = other c k at l _ (λ e. omega arith) ∙ later c (suc k) (end_of at l) ls (omega arith)

others : (n c k at : ℕ) (l : List VolumeRadial) (ss : List Stretch) → k < c → per_cut n c (layer_stretches k at l ++ ss) ≡ per_cut n c ss
others n c k at [] ss h = refl
others n c k at (b ∷ bs) ss h = per-cut-skip n c _ _ h ∙ others n c k (at + length (bytes_of_radial b)) bs ss h

per-layer : (k at : ℕ) (ls : List (List VolumeRadial)) → per_cut (length ls) k (layers_stretches k at ls) ≡ map (λ (l : List VolumeRadial). length l) ls
unfolding per_cut
per-layer k at [] = refl
per-layer k at (l ∷ ls) =
    let rest = layers_stretches (suc k) (end_of at l) ls in
    ap₂ (λ (m : ℕ) (ms : List ℕ). m ∷ ms)
    (own k at l rest ∙ ap (λ (m : ℕ). length l + m) (later k (suc k) (end_of at l) ls (omega arith)) ∙ add-zero (length l))
    (others (length ls) (suc k) k at l rest (omega arith) ∙ per-layer (suc k) (end_of at l) ls)

pub counts_of : (v : Volume) → per_cut (length v.layers) 1 (volume_stretches v) ≡ map (λ (l : List VolumeRadial). length l) v.layers
counts_of v = per-layer 1 (first_place v) v.layers

few-fit : (ls : List (List VolumeRadial)) → Few ls → Below (λ (n : ℕ). n) (256 ^ 2) (map (λ (l : List VolumeRadial). length l) ls)
few-fit [] h = tt
few-fit (l ∷ ls) h = let n = h.0 in (omega arith, few-fit ls h.1)

-- ---- places

below-join : (n : ℕ) (ss ts : List Stretch) → Below (λ (s : Stretch). s.start) n ss → Below (λ (s : Stretch). s.start) n ts → Below (λ (s : Stretch). s.start) n (ss ++ ts)
below-join n [] ts h k = k
below-join n (s ∷ ss) ts h k = (h.0, below-join n ss ts h.1 k)

module _ (t : Task) (limit : ℕ) where
  layer-places : (c : Cut) (k before in_cut at : ℕ) (l : List VolumeRadial) → Each t c k before in_cut l → at + 100064 * length l ≤ limit → Below (λ (s : Stretch). s.start) limit (layer_stretches k at l)
  layer-places c k before in_cut at [] ok h = tt
  layer-places c k before in_cut at (b ∷ bs) ok h =
      let one = radial-long t c k before in_cut b ok.0 in
      (omega arith, layer-places c k (suc before) (suc in_cut) (at + length (bytes_of_radial b)) bs ok.1 (omega arith))

  layers-places : (k before at : ℕ) (cs : List Cut) (ls : List (List VolumeRadial)) → LayersOk t k before cs ls → at + 100064 * accepted.radials_in ls ≤ limit
      → Below (λ (s : Stretch). s.start) limit (layers_stretches k at ls)
  layers-places k before at cs [] ok h = tt
  layers-places k before at [] (l ∷ ls) ok h = absurd ok
  layers-places k before at (c ∷ cs) (l ∷ ls) ok h =
      let each = each-closed t c k before 0 l ok.0 in
      let end = layer-long t c k before 0 at l each in
      below-join limit (layer_stretches k at l) (layers_stretches (suc k) (end_of at l) ls)
      (layer-places c k before 0 at l each (omega arith))
      (layers-places (suc k) (before + length l) (end_of at l) cs ls ok.1 (omega arith))

-- ---- all numbers fit

stretched : (k at : ℕ) (l : List VolumeRadial) → length (layer_stretches k at l) ≡ length l
stretched k at [] = refl
stretched k at (b ∷ bs) = ap suc (stretched k (at + length (bytes_of_radial b)) bs)

all-stretched : (k at : ℕ) (ls : List (List VolumeRadial)) → length (layers_stretches k at ls) ≡ accepted.radials_in ls
all-stretched k at [] = refl
all-stretched k at (l ∷ ls) =
    length-append (layer_stretches k at l) (layers_stretches (suc k) (end_of at l) ls) ∙ ap₂ (λ (m n : ℕ). m + n) (stretched k at l) (all-stretched (suc k) (end_of at l) ls)

pub fit : (v : Volume) → IsVolume v → Fit (length v.layers) (volume_stretches v)
fit v is =
    let m = sense.most v is in
    let cuts = m.cuts in
    let radials = m.radials in
    let n = same_number v.task 1 0 v.cuts v.layers is.layers in
    let all = all-stretched 1 (first_place v) v.layers in
    record {
      some = m.some;
      old = λ h. omega arith;
      new = omega arith;
      counts = rw (counts_of v) (few-fit v.layers m.layers);
      radials = omega arith;
      places = layers-places v.task (256 ^ 8) 1 0 (first_place v) v.cuts v.layers is.layers (omega arith);
    }

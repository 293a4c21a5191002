-- A volume's radials in one list, each with its own bytes in the file, in its cut, and with its rules kept. Assumes nothing.
use Prim.Native.Nat.{ℕ, suc, ◌+◌, ◌-◌}
use native.Mathlib.Omega.{arith}
use mathlib.Core.List.{List, [], ◌∷◌, ◌++◌, append_assoc, append-nil, flatten, map, map-append}
use mathlib.Core.Path.{◌≡◌, refl, sym, ap, subst, ◌∙◌}
use lib.ListN.{length, take}
use lib.Seq.{take_at}
use Rattle.le.specs.Le.{run}
use Rattle.le.proofs.Here.{At, here}
use Rattle.le.proofs.Laws.{run-append}
use Rattle.cut.specs.declared.Cut.{Cut}
use Rattle.task.specs.declared.Task.{Task}
use Rattle.radial.proofs.Header.{header}
use Rattle.reading.specs.declared.Stretch.{Stretch}
use Rattle.reading.specs.Reading.{bytes_of}
use Rattle.volume.specs.Volume.{VolumeRadial, Volume, RadialOk, LayersOk, IsVolume, bytes_of_radial, bytes_of_volume}
use Rattle.volume.specs.Meaning.{layer_stretches, end_of, layers_stretches, first_place, volume_stretches}
use Rattle.volume.proofs.Each.{Each, each-closed}
use Rattle.volume.proofs.Placed.{front}

-- a radial with its rules kept, somewhere in a volume
pub record Ok (b : VolumeRadial) : Type 0 where
  pub task : Task
  pub cut : Cut
  pub number : ℕ
  pub before : ℕ
  pub in_cut : ℕ
  pub ok : RadialOk task cut number before in_cut b

-- stretch s of f is radial b, and in the cut that b says (number 14)
pub record Owns (f : List ℕ) (s : Stretch) (b : VolumeRadial) : Type 0 where
  pub own : bytes_of f s ≡ bytes_of_radial b
  pub cut : s.cut ≡ b.header.elevation_number
  pub is : Ok b

-- some stretches are these radials, one by one
pub data Owned (f : List ℕ) : List Stretch → List VolumeRadial → Type 0 where
  none : Owned f [] []
  more : {s : Stretch} {ss : List Stretch} {b : VolumeRadial} {bs : List VolumeRadial} → Owns f s b → Owned f ss bs → Owned f (s ∷ ss) (b ∷ bs)

-- ---- all radials of some layers, in one list

abbrev pub flat : List (List VolumeRadial) → List VolumeRadial
flat ls = flatten ls

-- what is done to each radial is done to each of the list
pub flat_map : (g : VolumeRadial → VolumeRadial) (ls : List (List VolumeRadial)) → flat (map (map g) ls) ≡ map g (flat ls)
unfolding flatten
flat_map g [] = refl
flat_map g (l ∷ ls) = ap (λ (x : List VolumeRadial). map g l ++ x) (flat_map g ls) ∙ sym (map-append g l (flat ls))

-- their bytes, layer by layer, are those of the list
pub run-flat : (ls : List (List VolumeRadial)) → run (run bytes_of_radial) ls ≡ run bytes_of_radial (flat ls)
unfolding run flatten
run-flat [] = refl
run-flat (l ∷ ls) = ap (λ (x : List ℕ). run bytes_of_radial l ++ x) (run-flat ls) ∙ sym (run-append bytes_of_radial l (flat ls))

-- ---- where they stand

module _ (f : List ℕ) (t : Task) where
  -- the rest of a layer, and what stands behind it
  layer : (c : Cut) (k before in_cut at : ℕ) (l : List VolumeRadial) (x : List ℕ) (ss : List Stretch) (bs : List VolumeRadial) → Each t c k before in_cut l → At f at (run bytes_of_radial l ++ x)
      → (At f (end_of at l) x → Owned f ss bs) → Owned f (layer_stretches k at l ++ ss) (l ++ bs)
  unfolding run
  layer c k before in_cut at [] x ss bs ok a next = next a
  layer c k before in_cut at (b ∷ l) x ss bs ok a next =
      let long = length (bytes_of_radial b) in
      let later = run bytes_of_radial l ++ x in
      let a' = subst (At f at) (append_assoc (bytes_of_radial b) (run bytes_of_radial l) x) a in
      let n = at + long - at in
      let own = ap (take n) a'.rest ∙ take_at (bytes_of_radial b) later n (omega arith) in
      let is : Ok b = record { task = t; cut = c; number = k; before = before; in_cut = in_cut; ok = ok.0 } in
      more (record { own = own; cut = sym (header b.header _ ok.0.rules).elevation; is = is })
      (layer c k (suc before) (suc in_cut) (at + long) l x ss bs ok.1 (here f at long (bytes_of_radial b) later refl a').next next)

  -- the layers from cut k on
  layers : (k before at : ℕ) (cs : List Cut) (ls : List (List VolumeRadial)) (x : List ℕ) → LayersOk t k before cs ls → At f at (run (run bytes_of_radial) ls ++ x)
      → Owned f (layers_stretches k at ls) (flat ls)
  unfolding run flatten
  layers k before at cs [] x ok a = none
  layers k before at [] (l ∷ ls) x ok a = absurd ok
  layers k before at (c ∷ cs) (l ∷ ls) x ok a =
      layer c k before 0 at l (run (run bytes_of_radial) ls ++ x) (layers_stretches (suc k) (end_of at l) ls) (flat ls) (each-closed t c k before 0 l ok.0)
      (subst (At f at) (append_assoc (run bytes_of_radial l) (run (run bytes_of_radial) ls) x) a)
      (λ i. layers (suc k) (before + length l) (end_of at l) cs ls x ok.1 i)

-- a volume's radials, each where it stands in the volume's bytes
pub owned : (v : Volume) → IsVolume v → Owned (bytes_of_volume v) (volume_stretches v) (flat v.layers)
owned v is =
    let f = bytes_of_volume v in
    layers f v.task 1 0 (first_place v) v.cuts v.layers [] is.layers (front f v [] is.headed (append-nil f)).radials

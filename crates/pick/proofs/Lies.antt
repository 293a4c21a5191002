-- A volume whose cuts have only wanted types is the volume with the wanted moments only, and each radial has one. Assumes nothing.
use Prim.Native.Nat.{ℕ, suc, ◌+◌}
use native.Mathlib.Omega.{arith}
use mathlib.Core.Path.{◌≡◌, refl, sym, ap, ap₂, ◌∙◌}
use mathlib.Core.Bool.{true}
use mathlib.Core.List.{List, [], ◌∷◌, map}
use lib.Bits.{bit_and}
use lib.ListN.{length}
use Rattle.le.proofs.Tests.{both}
use Rattle.rules.specs.Masks.{bit}
use Rattle.cut.specs.declared.Cut.{Cut}
use Rattle.task.specs.declared.Task.{Task}
use Rattle.volume.specs.Volume.{VolumeMoment, VolumeRadial, Volume, IsVolume, tiled, RadialOk, LayerOk, LayersOk}
use Rattle.volume.specs.Sense.{InMask}
use Rattle.volume.proofs.Sense.{sense}
use Rattle.pick.specs.Only.{only_moments, only_radial, only_cut, only_volume, with_mask, SomeLeft, AllLeft}
use Rattle.pick.proofs.Bits.{bit-and}
use Rattle.pick.proofs.Twice.{radial_with, volume_with}

-- each cut's moments mask has wanted bits only
abbrev pub CutsLie : ℕ → List Cut → Type 0
CutsLie wanted [] = Unit {0}
CutsLie wanted (c ∷ cs) = (bit_and c.moments_mask wanted ≡ c.moments_mask) × CutsLie wanted cs

module _ (wanted : ℕ) where
  -- of such a cut each type is wanted
  wants : (c : Cut) (t : ℕ) → bit_and c.moments_mask wanted ≡ c.moments_mask → bit c.moments_mask t ≡ true → bit wanted t ≡ true
  wants c t lies h =
      (both (bit c.moments_mask t) (bit wanted t) (sym (bit-and c.moments_mask wanted t) ∙ ap (λ (x : ℕ). bit x t) lies ∙ h)).1

  -- so all moments of its types are left
  moments-same : (c : Cut) (ps : List VolumeMoment) → bit_and c.moments_mask wanted ≡ c.moments_mask → InMask c ps → only_moments wanted ps ≡ ps
  moments-same c [] lies h = refl
  moments-same c (p ∷ ps) lies h = rw (wants c p.header.data_type lies h.0) (ap (λ (qs : List VolumeMoment). p ∷ qs) (moments-same c ps lies h.1))

  module _ (t : Task) (c : Cut) (k : ℕ) (lies : bit_and c.moments_mask wanted ≡ c.moments_mask) where
    -- a radial's own moments are all left
    own : (before in_cut : ℕ) (b : VolumeRadial) → RadialOk t c k before in_cut b → only_moments wanted b.moments ≡ b.moments
    own before in_cut b ok = moments-same c b.moments lies (sense.masked t c k before in_cut b ok)

    -- so it is the same, as its numbers are theirs already
    radial-same : (before in_cut : ℕ) (b : VolumeRadial) → RadialOk t c k before in_cut b → only_radial wanted b ≡ b
    radial-same before in_cut b ok =
        ap (λ (ms : List VolumeMoment). radial_with b (tiled ms) (length ms) ms) (own before in_cut b ok)
        ∙ ap₂ (λ (n m : ℕ). radial_with b n m b.moments) (sense.filled t c k before in_cut b ok) ok.count

    -- and has one left
    radial-some : (before in_cut : ℕ) (b : VolumeRadial) → RadialOk t c k before in_cut b → only_moments wanted b.moments ≡ [] → ⊥
    radial-some before in_cut b ok e =
        let h = sense.some t c k before in_cut b ok in
        let n = ap length (sym (own before in_cut b ok) ∙ e) in omega arith

    -- a layer is the same
    layer-same : (before in_cut : ℕ) (l : List VolumeRadial) → LayerOk t c k before in_cut l → map (only_radial wanted) l ≡ l
    layer-same before in_cut [] ok = absurd ok
    layer-same before in_cut (b ∷ []) ok = ap (λ (x : VolumeRadial). x ∷ []) (radial-same before in_cut b ok.0)
    layer-same before in_cut (b ∷ (n ∷ ns)) ok = ap₂ (λ (x : VolumeRadial) (xs : List VolumeRadial). x ∷ xs) (radial-same before in_cut b ok.0) (layer-same (suc before) (suc in_cut) (n ∷ ns) ok.2)

    -- and its radials have one left
    layer-some : (before in_cut : ℕ) (l : List VolumeRadial) → LayerOk t c k before in_cut l → SomeLeft wanted l
    layer-some before in_cut [] ok = absurd ok
    layer-some before in_cut (b ∷ []) ok = (radial-some before in_cut b ok.0, tt)
    layer-some before in_cut (b ∷ (n ∷ ns)) ok = (radial-some before in_cut b ok.0, layer-some (suc before) (suc in_cut) (n ∷ ns) ok.2)

  -- the layers are the same
  layers-same : (t : Task) (k before : ℕ) (cs : List Cut) (ls : List (List VolumeRadial)) → CutsLie wanted cs → LayersOk t k before cs ls → map (map (only_radial wanted)) ls ≡ ls
  layers-same t k before [] [] lie ok = refl
  layers-same t k before [] (l ∷ ls) lie ok = absurd ok
  layers-same t k before (c ∷ cs) [] lie ok = absurd ok
  layers-same t k before (c ∷ cs) (l ∷ ls) lie ok =
      ap₂ (λ (x : List VolumeRadial) (xs : List (List VolumeRadial)). x ∷ xs) (layer-same t c k lie.0 before 0 l ok.0) (layers-same t (suc k) (before + length l) cs ls lie.1 ok.1)

  -- and their radials have one left
  layers-some : (t : Task) (k before : ℕ) (cs : List Cut) (ls : List (List VolumeRadial)) → CutsLie wanted cs → LayersOk t k before cs ls → AllLeft wanted ls
  layers-some t k before [] [] lie ok = tt
  layers-some t k before [] (l ∷ ls) lie ok = absurd ok
  layers-some t k before (c ∷ cs) [] lie ok = absurd ok
  layers-some t k before (c ∷ cs) (l ∷ ls) lie ok = (layer-some t c k lie.0 before 0 l ok.0, layers-some t (suc k) (before + length l) cs ls lie.1 ok.1)

  -- the cuts are the same
  cuts-same : (cs : List Cut) → CutsLie wanted cs → map (only_cut wanted) cs ≡ cs
  cuts-same [] lie = refl
  cuts-same (c ∷ cs) lie = ap₂ (λ (x : Cut) (xs : List Cut). x ∷ xs) (ap (with_mask c) lie.0) (cuts-same cs lie.1)

  -- nothing is taken out of it
  pub only_same : (v : Volume) → IsVolume v → CutsLie wanted v.cuts → only_volume wanted v ≡ v
  only_same v ok lie = ap₂ (volume_with v) (cuts-same v.cuts lie) (layers-same v.task 1 0 v.cuts v.layers lie ok.layers)

  -- each radial has a wanted moment
  pub left-same : (v : Volume) → IsVolume v → CutsLie wanted v.cuts → AllLeft wanted v.layers
  left-same v ok lie = layers-some v.task 1 0 v.cuts v.layers lie ok.layers

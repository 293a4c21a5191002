-- Wanted moments taken out of a volume, and of those again some, are those that both want. Assumes nothing.
use Prim.Native.Nat.{ℕ}
use mathlib.Core.Path.{◌≡◌, refl, sym, ap, ap₂, ◌∙◌}
use mathlib.Core.Bool.{Bool, true, false, ◌&&◌, cond}
use mathlib.Core.List.{List, [], ◌∷◌, map}
use mathlib.Core.Logic.{◌↔◌}
use lib.Bits.{bit_and}
use lib.ListN.{length}
use Rattle.rules.specs.Masks.{bit}
use Rattle.cut.specs.declared.Cut.{Cut}
use Rattle.volume.specs.Volume.{VolumeMoment, VolumeRadial, Volume, tiled}
use Rattle.pick.specs.Only.{only_moments, only_radial, only_cut, only_volume, with_mask, with_moments, SomeLeft, AllLeft}
use Rattle.pick.proofs.Bits.{bit-and, and_assoc}

-- a radial with other numbers and moments, a volume with other cuts and layers
abbrev pub radial_with : VolumeRadial → ℕ → ℕ → List VolumeMoment → VolumeRadial
radial_with b n k ms = record { header = with_moments b.header n k; moments = ms }

abbrev pub volume_with : Volume → List Cut → List (List VolumeRadial) → Volume
volume_with v cs ls = record { generic = v.generic; site = v.site; task = v.task; cuts = cs; layers = ls }

-- a list's elements changed twice, where that is one change of each
map-twice : {A : Type 0} (f g h : A → A) → ((x : A) → g (f x) ≡ h x) → (l : List A) → map g (map f l) ≡ map h l
map-twice f g h e [] = refl
map-twice f g h e (x ∷ xs) = ap₂ (λ y ys. y ∷ ys) (e x) (map-twice f g h e xs)

module _ (m w : ℕ) where
  -- the moments
  pub moments-twice : (ps : List VolumeMoment) → only_moments w (only_moments m ps) ≡ only_moments (bit_and m w) ps
  moments-twice [] = refl
  moments-twice (p ∷ ps) =
      let t = p.header.data_type in
      go (bit m t) (moments-twice ps) ∙ ap (λ (x : Bool). cond x (p ∷ only_moments (bit_and m w) ps) (only_moments (bit_and m w) ps)) (sym (bit-and m w t))
    where
      go : (a : Bool) → only_moments w (only_moments m ps) ≡ only_moments (bit_and m w) ps
          → only_moments w (cond a (p ∷ only_moments m ps) (only_moments m ps)) ≡ cond (a && bit w p.header.data_type) (p ∷ only_moments (bit_and m w) ps) (only_moments (bit_and m w) ps)
      go true e = ap (λ (qs : List VolumeMoment). cond (bit w p.header.data_type) (p ∷ qs) qs) e
      go false e = e

  -- a radial, by its moments
  radial-twice : (b : VolumeRadial) → only_radial w (only_radial m b) ≡ only_radial (bit_and m w) b
  radial-twice b = ap (λ (ms : List VolumeMoment). radial_with b (tiled ms) (length ms) ms) (moments-twice b.moments)

  -- a cut, by its mask
  cut_twice : (c : Cut) → only_cut w (only_cut m c) ≡ only_cut (bit_and m w) c
  cut_twice c = ap (with_mask c) (and_assoc c.moments_mask m w)

  -- the volume with what is wanted first and then is the volume with what is wanted both times
  pub only-twice : (v : Volume) → only_volume w (only_volume m v) ≡ only_volume (bit_and m w) v
  only-twice v =
      ap₂ (volume_with v) (map-twice (only_cut m) (only_cut w) (only_cut (bit_and m w)) cut_twice v.cuts)
      (map-twice (map (only_radial m)) (map (only_radial w)) (map (only_radial (bit_and m w))) (map-twice (only_radial m) (only_radial w) (only_radial (bit_and m w)) radial-twice) v.layers)

  -- the radials of a layer each have a moment left, and then again, where each has one that is wanted both times
  some-twice : (l : List VolumeRadial) → (SomeLeft m l × SomeLeft w (map (only_radial m) l)) ↔ SomeLeft (bit_and m w) l
  some-twice [] = (λ x. tt, λ x. (tt, tt))
  some-twice (b ∷ bs) =
      let e = moments-twice b.moments in (
        λ x. (λ z. x.1.0 (e ∙ z), (some-twice bs).0 (x.0.1, x.1.1)),
        λ x. ((λ z. x.0 (sym e ∙ ap (only_moments w) z), ((some-twice bs).1 x.1).0), (λ z. x.0 (sym e ∙ z), ((some-twice bs).1 x.1).1)),
      )

  -- and so those of every layer
  pub left-twice : (ls : List (List VolumeRadial)) → (AllLeft m ls × AllLeft w (map (map (only_radial m)) ls)) ↔ AllLeft (bit_and m w) ls
  left-twice [] = (λ x. tt, λ x. (tt, tt))
  left-twice (l ∷ ls) = (
    λ x. ((some-twice l).0 (x.0.0, x.1.0), (left-twice ls).0 (x.0.1, x.1.1)),
    λ x. ((((some-twice l).1 x.0).0, ((left-twice ls).1 x.1).0), (((some-twice l).1 x.0).1, ((left-twice ls).1 x.1).1)),
  )

-- What documents 01 and 02 say of radials and moments in other words than the rules (numbers 8, 12 to 14, 19, 20 and 24, "Tiling",
-- "Masks" and "States"; document 02, #106), and what therefore has to follow from the definition of a volume.
use Rattle.std.specs.Prelude.{ℕ, suc, ◌+◌, ◌*◌, ◌≤◌, true, List, [], ◌∷◌, ◌≡◌, length}
use Rattle.rules.specs.Masks.{bit}
use Rattle.cut.specs.declared.Cut.{Cut}
use Rattle.task.specs.declared.Task.{Task}
use Rattle.volume.specs.Volume.{VolumeMoment, VolumeRadial, Volume, IsVolume, tiled, RadialOk, LayerOk}
use Rattle.volume.specs.Accepted.{Begun, BegunOk, radials_in, due_radial}

-- no moment of a list has type t (number 20)
abbrev pub Unlike : ℕ → List VolumeMoment → Type 0
Unlike t [] = Unit {0}
Unlike t (p ∷ ps) = (p.header.data_type ≡ t → ⊥) × Unlike t ps

-- no two of them have one type (number 20)
abbrev pub Differ : List VolumeMoment → Type 0
Differ [] = Unit {0}
Differ (p ∷ ps) = Unlike p.header.data_type ps × Differ ps

-- each has a type that the cut's moments mask has (number 20, "Masks")
abbrev pub InMask : Cut → List VolumeMoment → Type 0
InMask c [] = Unit {0}
InMask c (p ∷ ps) = (bit c.moments_mask p.header.data_type ≡ true) × InMask c ps

-- a layer's radials by their numbers, where the layer is cut k, `before` radials stand before them in the volume and `in_cut` in the
-- layer (numbers 12 to 14)
abbrev pub Numbered : ℕ → ℕ → ℕ → List VolumeRadial → Type 0
Numbered k before in_cut [] = Unit {0}
Numbered k before in_cut (b ∷ bs) =
    (b.header.sequence ≡ suc before)
    × (b.header.radial_number ≡ suc in_cut)
    × (b.header.elevation_number ≡ k)
    × Numbered k (suc before) (suc in_cut) bs

-- those of the layers from cut k on
abbrev pub LayersNumbered : ℕ → ℕ → List (List VolumeRadial) → Type 0
LayersNumbered k before [] = Unit {0}
LayersNumbered k before (l ∷ ls) = Numbered k before 0 l × LayersNumbered (suc k) (before + length l) ls

-- no layer has more than 1000 radials (number 13)
abbrev pub Few : List (List VolumeRadial) → Type 0
Few [] = Unit {0}
Few (l ∷ ls) = (length l ≤ 1000) × Few ls

-- how far a volume goes (numbers 8, 12 and 13)
pub record Most (v : Volume) : Type 0 where
  pub some : 1 ≤ length v.layers
  pub cuts : length v.layers ≤ 256
  pub layers : Few v.layers
  pub radials : radials_in v.layers ≤ 65536

pub record Sense : Type 0 where
  -- the length of data is the sum over the moments of 32 plus length ("Tiling")
  pub filled : (t : Task) (c : Cut) (k before in_cut : ℕ) (r : VolumeRadial) → RadialOk t c k before in_cut r → tiled r.moments ≡ r.header.length_of_data
  -- a radial has at least one moment, each of another type, and each of its own cut (numbers 19 and 20)
  pub some : (t : Task) (c : Cut) (k before in_cut : ℕ) (r : VolumeRadial) → RadialOk t c k before in_cut r → 1 ≤ length r.moments
  pub differ : (t : Task) (c : Cut) (k before in_cut : ℕ) (r : VolumeRadial) → RadialOk t c k before in_cut r → Differ r.moments
  pub masked : (t : Task) (c : Cut) (k before in_cut : ℕ) (r : VolumeRadial) → RadialOk t c k before in_cut r → InMask c r.moments
  -- a cut has at least two radials ("States")
  pub two : (t : Task) (c : Cut) (k before : ℕ) (l : List VolumeRadial) → LayerOk t c k before 0 l → 2 ≤ length l
  -- radials are counted from 1 in the volume and in their cut, and cuts from 1 (numbers 12 to 14)
  pub numbered : (v : Volume) → IsVolume v → LayersNumbered 1 0 v.layers
  -- there are no more than 256 cuts, 1000 radials in a cut, and 65,536 in a volume (numbers 8, 12 and 13; document 02, #106)
  pub most : (v : Volume) → IsVolume v → Most v
  -- of a volume's beginning: where a radial is due, no more than 1000 stand before it for each cut of the task
  pub before : (b : Begun) → BegunOk b → (due_radial b).before ≤ 1000 * b.task.cut_number

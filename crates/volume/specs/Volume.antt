-- What a volume is (document 01, "Blocks", "States", "Masks" and "Tiling"): records in a structure, each judged by its own
-- rules against its place in that structure. Nothing here knows how a file is read.
use Rattle.std.specs.Prelude.{ℕ, suc, ◌+◌, ◌-◌, List, [], ◌∷◌, ◌++◌, ◌≡◌, length}
use Rattle.le.specs.Le.{run}
use Rattle.rules.specs.Check.{Hold}
use Rattle.rules.specs.Masks.{with_bit}
use Rattle.rules.specs.States.{closing}
use Rattle.cut.specs.declared.Cut.{Cut}
use Rattle.generic.specs.declared.Generic.{Generic}
use Rattle.moment.specs.declared.Moment.{Moment}
use Rattle.moment.specs.declared.MomentDue.{MomentDue}
use Rattle.radial.specs.declared.Radial.{Radial}
use Rattle.radial.specs.declared.RadialDue.{RadialDue}
use Rattle.site.specs.declared.Site.{Site}
use Rattle.task.specs.declared.Task.{Task}
use Rattle.cut.specs.Cut.{cut_bytes, cut_rules, CutFits}
use Rattle.generic.specs.Generic.{generic_bytes, generic_rules, GenericFits}
use Rattle.moment.specs.Moment.{moment_bytes, moment_rules, moment_size, MomentFits}
use Rattle.radial.specs.Radial.{radial_bytes, radial_rules, RadialFits}
use Rattle.site.specs.Site.{site_bytes, site_rules, SiteFits}
use Rattle.task.specs.Task.{task_bytes, task_rules, TaskFits}

-- ---- the structure

-- a moment: its header and its data ("Blocks")
pub record VolumeMoment : Type 0 where
  pub header : Moment
  pub bytes : List ℕ

-- a radial: its header and its moments ("Blocks")
pub record VolumeRadial : Type 0 where
  pub header : Radial
  pub moments : List VolumeMoment

-- a volume: generic header, site, task, cuts, and a layer for each cut, that cut's radials ("Blocks")
pub record Volume : Type 0 where
  pub generic : Generic
  pub site : Site
  pub task : Task
  pub cuts : List Cut
  pub layers : List (List VolumeRadial)

-- ---- its bytes: the blocks, one after the other

abbrev pub bytes_of_moment : VolumeMoment → List ℕ
bytes_of_moment p = moment_bytes p.header ++ p.bytes

abbrev pub bytes_of_radial : VolumeRadial → List ℕ
bytes_of_radial b = radial_bytes b.header ++ run bytes_of_moment b.moments

abbrev pub bytes_of_volume : Volume → List ℕ
bytes_of_volume v =
    generic_bytes v.generic
    ++ site_bytes v.site
    ++ task_bytes v.task
    ++ run cut_bytes v.cuts
    ++ run (run bytes_of_radial) v.layers

-- ---- its rules

-- the bytes that some moments take ("Tiling"): 32 plus length for each
abbrev pub tiled : List VolumeMoment → ℕ
tiled [] = 0
tiled (p ∷ ps) = moment_size + p.header.length + tiled ps

-- their types, as a mask ("Masks")
abbrev pub types_of : List VolumeMoment → ℕ
types_of [] = 0
types_of (p ∷ ps) = with_bit (types_of ps) p.header.data_type

-- what a moment is judged against, behind the moments `before` of a radial of cut c (numbers 20, 23 and 24): its own cut's masks,
-- their types, what they leave of the length of data, and how many are still to come
abbrev pub judged : Cut → Radial → List VolumeMoment → MomentDue
judged c r before =
    record { mask = c.moments_mask; sizes = c.size_mask; seen = types_of before; left = r.length_of_data - tiled before; todo = r.moment_number - length before }

-- the moments that follow those `before` (the nearest first), each with its rules kept and its data as long as it says
abbrev pub MomentsOk : Cut → Radial → List VolumeMoment → List VolumeMoment → Type 0
MomentsOk c r before [] = Unit {0}
MomentsOk c r before (p ∷ ps) =
    (MomentFits p.header)
    × Hold (moment_rules p.header (judged c r before))
    × (length p.bytes ≡ p.header.length)
    × MomentsOk c r (p ∷ before) ps

-- what a radial of cut number k is judged against (numbers 10 and 12 to 14): `before` radials stand before it in the volume,
-- `in_cut` in its layer
abbrev pub judged_radial : Task → ℕ → ℕ → ℕ → RadialDue
judged_radial t k before in_cut =
    record { scan_type = t.scan_type; cuts = t.cut_number; cut = k; before = before; in_cut = in_cut }

-- a radial of cut c, which is number k of the task's, with its moments
pub record RadialOk (t : Task) (c : Cut) (k before in_cut : ℕ) (b : VolumeRadial) : Type 0 where
  pub fits : RadialFits b.header
  pub rules : Hold (radial_rules b.header (judged_radial t k before in_cut))
  pub count : length b.moments ≡ b.header.moment_number
  pub moments : MomentsOk c b.header [] b.moments

-- a radial closes its cut ("States")
abbrev pub Closes : Task → ℕ → VolumeRadial → Type 0
Closes t k b = b.header.state ≡ closing t.scan_type t.cut_number k

-- the rest of a layer: its last radial, and no other, closes the cut
abbrev pub LayerOk : Task → Cut → ℕ → ℕ → ℕ → List VolumeRadial → Type 0
LayerOk t c k before in_cut [] = ⊥
LayerOk t c k before in_cut (b ∷ []) = RadialOk t c k before in_cut b × Closes t k b
LayerOk t c k before in_cut (b ∷ (n ∷ ns)) =
    RadialOk t c k before in_cut b × (Closes t k b → ⊥) × LayerOk t c k (suc before) (suc in_cut) (n ∷ ns)

-- a layer for each cut, from number k on, with `before` radials before them
abbrev pub LayersOk : Task → ℕ → ℕ → List Cut → List (List VolumeRadial) → Type 0
LayersOk t k before [] [] = Unit {0}
LayersOk t k before [] (l ∷ ls) = ⊥
LayersOk t k before (c ∷ cs) [] = ⊥
LayersOk t k before (c ∷ cs) (l ∷ ls) = LayerOk t c k before 0 l × LayersOk t (suc k) (before + length l) cs ls

-- the blocks before the radials, each with its rules kept ("Field rules and refusal numbers")
abbrev pub CutsOk : List Cut → Type 0
CutsOk [] = Unit {0}
CutsOk (c ∷ cs) = CutFits c × Hold (cut_rules c) × CutsOk cs

abbrev pub GenericOk : Generic → Type 0
GenericOk r = GenericFits r × Hold (generic_rules r)

abbrev pub SiteOk : Site → Type 0
SiteOk r = SiteFits r × Hold (site_rules r)

abbrev pub TaskOk : Task → Type 0
TaskOk r = TaskFits r × Hold (task_rules r)

-- all of them, and as many cuts as the task says
pub record Headed (v : Volume) : Type 0 where
  pub generic : GenericOk v.generic
  pub site : SiteOk v.site
  pub task : TaskOk v.task
  pub number : length v.cuts ≡ v.task.cut_number
  pub cuts : CutsOk v.cuts

-- a volume, as document 01 has it
pub record IsVolume (v : Volume) : Type 0 where
  pub headed : Headed v
  pub layers : LayersOk v.task 1 0 v.cuts v.layers

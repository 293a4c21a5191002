-- The accepted blocks of a file, as the beginning of a volume that they are; the block that is due behind them; and what is
-- to be told of the bytes that follow (document 01, "What reading tells"), by the blocks' own rules alone: hope is `hope/Meaning`'s. Nothing
-- here knows how a file is read.
use Rattle.std.specs.Prelude.{ℕ, suc, ◌+◌, ◌-◌, ◌<◌, ◌≤◌, List, [], ◌∷◌, ◌++◌, reverse, length}
use Rattle.rules.specs.declared.check.Clause.{Clause}
use Rattle.rules.specs.Check.{Rule, Hold, First}
use Rattle.cut.specs.declared.Cut.{Cut}
use Rattle.generic.specs.declared.Generic.{Generic}
use Rattle.moment.specs.declared.Moment.{Moment}
use Rattle.moment.specs.declared.MomentDue.{MomentDue}
use Rattle.radial.specs.declared.RadialDue.{RadialDue}
use Rattle.site.specs.declared.Site.{Site}
use Rattle.task.specs.declared.Task.{Task}
use Rattle.cut.specs.Cut.{cut_at, cut_rules, cut_size}
use Rattle.generic.specs.Generic.{generic_at, generic_bytes, generic_rules, generic_size}
use Rattle.moment.specs.Moment.{moment_at, moment_bytes, moment_rules, moment_size, MomentFits}
use Rattle.radial.specs.Radial.{radial_at, radial_rules, radial_size, RadialFits}
use Rattle.site.specs.Site.{site_at, site_bytes, site_rules, site_size}
use Rattle.task.specs.Task.{task_at, task_rules, task_size}
use Rattle.volume.specs.Volume.{VolumeRadial, Volume, IsVolume, Headed, GenericOk, SiteOk, TaskOk, CutsOk, LayersOk, RadialOk, MomentsOk, Closes, bytes_of_radial, bytes_of_volume, judged, judged_radial}

-- ---- the structure

-- a volume up to a radial's end ("Blocks", "States"): the cuts with closed layers, those layers, the cut whose radials follow,
-- its radials so far, and the cuts with none yet
pub record Begun : Type 0 where
  pub generic : Generic
  pub site : Site
  pub task : Task
  pub early : List Cut
  pub closed : List (List VolumeRadial)
  pub cut : Cut
  pub now : List VolumeRadial
  pub later : List Cut

-- the accepted blocks, by the block that is due behind them ("What reading tells")
pub data Accepted : Type 0 where
  -- none: the generic header
  nothing : Accepted
  -- the site
  generic : Generic → Accepted
  -- the task
  site : Generic → Site → Accepted
  -- so many cuts of the task's: a further cut
  task : Generic → Site → Task → List Cut → Accepted
  -- all cuts, and some radials: a radial
  radials : Begun → Accepted
  -- and a further radial's header and moments so far: a moment
  radial : Begun → VolumeRadial → Accepted
  -- and a further moment's header: its data
  moment : Begun → VolumeRadial → Moment → Accepted
  -- all of a volume: nothing
  volume : Volume → Accepted

-- as a volume whose last layer is not closed, and which may have fewer layers than cuts
abbrev pub volume_of : Begun → Volume
volume_of b =
    record { generic = b.generic; site = b.site; task = b.task; cuts = b.early ++ (b.cut ∷ b.later); layers = b.closed ++ (b.now ∷ []) }

-- its bytes ("Blocks"): the blocks, one after the other
abbrev pub bytes_of_accepted : Accepted → List ℕ
bytes_of_accepted nothing = []
bytes_of_accepted (generic g) = generic_bytes g
bytes_of_accepted (site g s) = generic_bytes g ++ site_bytes s
bytes_of_accepted (task g s t cs) = bytes_of_volume (record { generic = g; site = s; task = t; cuts = cs; layers = [] })
bytes_of_accepted (radials b) = bytes_of_volume (volume_of b)
bytes_of_accepted (radial b r) = bytes_of_volume (volume_of b) ++ bytes_of_radial r
bytes_of_accepted (moment b r m) = bytes_of_volume (volume_of b) ++ bytes_of_radial r ++ moment_bytes m
bytes_of_accepted (volume v) = bytes_of_volume v

-- ---- what the due block is judged against, by its place in the structure

-- the radials of some layers (number 12 counts them)
abbrev pub radials_in : List (List VolumeRadial) → ℕ
radials_in [] = 0
radials_in (l ∷ ls) = length l + radials_in ls

-- a radial ("States", numbers 10 to 14): its cut's number is one more than the closed layers
abbrev pub due_radial : Begun → RadialDue
due_radial b = judged_radial b.task (suc (length b.closed)) (radials_in b.closed + length b.now) (length b.now)

-- a moment ("Masks", "Tiling"), behind its radial's moments so far, the nearest first
abbrev pub due_moment : Begun → VolumeRadial → MomentDue
due_moment b r = judged b.cut r.header (reverse r.moments)

-- ---- its rules

-- the first radials of the rest of a layer, none of which closes the cut ("States")
abbrev pub UnclosedOk : Task → Cut → ℕ → ℕ → ℕ → List VolumeRadial → Type 0
UnclosedOk t c k before in_cut [] = Unit {0}
UnclosedOk t c k before in_cut (b ∷ bs) = RadialOk t c k before in_cut b × (Closes t k b → ⊥) × UnclosedOk t c k (suc before) (suc in_cut) bs

-- a volume's beginning, as document 01 has it
pub record BegunOk (b : Begun) : Type 0 where
  pub headed : Headed (volume_of b)
  pub closed : LayersOk b.task 1 0 b.early b.closed
  pub now : UnclosedOk b.task b.cut (suc (length b.closed)) (radials_in b.closed) 0 b.now

-- a further radial's header, and fewer moments than it says ("Blocks": K of them)
pub record RadialBegun (b : Begun) (r : VolumeRadial) : Type 0 where
  pub fits : RadialFits r.header
  pub rules : Hold (radial_rules r.header (due_radial b))
  pub fewer : length r.moments < r.header.moment_number
  pub moments : MomentsOk b.cut r.header [] r.moments

-- each block keeps its rules where it stands, and the due one is still to come
abbrev pub AcceptedOk : Accepted → Type 0
AcceptedOk nothing = Unit {0}
AcceptedOk (generic g) = GenericOk g
AcceptedOk (site g s) = GenericOk g × SiteOk s
AcceptedOk (task g s t cs) = GenericOk g × SiteOk s × TaskOk t × (length cs < t.cut_number) × CutsOk cs
AcceptedOk (radials b) = BegunOk b
AcceptedOk (radial b r) = BegunOk b × RadialBegun b r
AcceptedOk (moment b r m) = BegunOk b × RadialBegun b r × MomentFits m × Hold (moment_rules m (due_moment b r))
AcceptedOk (volume v) = IsVolume v

-- ---- the block that is due

-- how many bytes it has ("Blocks"); data has the length that its header said
abbrev pub due_size : Accepted → ℕ
due_size nothing = generic_size
due_size (generic g) = site_size
due_size (site g s) = task_size
due_size (task g s t cs) = cut_size
due_size (radials b) = radial_size
due_size (radial b r) = moment_size
due_size (moment b r m) = m.length
due_size (volume v) = 0

-- its rules ("Field rules and refusal numbers"), of the record that the bytes `rest` behind the accepted blocks begin with; data
-- has none
abbrev pub due_rules : Accepted → List ℕ → List Rule
due_rules nothing rest = generic_rules (generic_at rest 0)
due_rules (generic g) rest = site_rules (site_at rest 0)
due_rules (site g s) rest = task_rules (task_at rest 0)
due_rules (task g s t cs) rest = cut_rules (cut_at rest 0)
due_rules (radials b) rest = radial_rules (radial_at rest 0) (due_radial b)
due_rules (radial b r) rest = moment_rules (moment_at rest 0) (due_moment b r)
due_rules (moment b r m) rest = []
due_rules (volume v) rest = []

-- ---- what is told

-- what the accepted blocks and the bytes `rest` behind them say ("What reading tells"): 0 is complete, 1 open with the missing
-- bytes, 2 refused with number and place
pub data Says : Accepted → List ℕ → List ℕ → Type 0 where
  -- a volume, and nothing behind it
  complete : (v : Volume) → Says (volume v) [] (0 ∷ [])
  -- a volume, and bytes behind it (number 25)
  follow : (v : Volume) (x : ℕ) (xs : List ℕ) → Says (volume v) (x ∷ xs) (2 ∷ 25 ∷ length (bytes_of_volume v) ∷ [])
  -- the due block is not all there
  missing : (a : Accepted) (rest : List ℕ) → length rest < due_size a → Says a rest (1 ∷ (due_size a - length rest) ∷ [])
  -- it is all there, and its first broken clause gives number and place
  broken : (a : Accepted) (rest : List ℕ) (c : Clause) → due_size a ≤ length rest → First (due_rules a rest) c
      → Says a rest (2 ∷ c.number ∷ (length (bytes_of_accepted a) + c.place) ∷ [])

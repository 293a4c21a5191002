-- A whole radial in its own place in the file (document 01, numbers 10 to 24): judged by the file's own task and cut blocks and by
-- the radials before it, as they stand in the file.
use Rattle.std.specs.Prelude.{ℕ, ◌+◌, cond, List, [], ◌∷◌, ◌≡◌, eqb, length}
use Rattle.generic.specs.Generic.{generic_size}
use Rattle.site.specs.Site.{site_size}
use Rattle.task.specs.declared.Task.{Task}
use Rattle.task.specs.Task.{task_at}
use Rattle.cut.specs.declared.Cut.{Cut}
use Rattle.cut.specs.Cut.{cut_at}
use Rattle.radial.specs.Radial.{radial_at, radial_size}
use Rattle.walk.specs.Due.{cut_place}
use Rattle.reading.specs.declared.Stretch.{Stretch}
use Rattle.reading.specs.Tiling.{WholeRadial}

-- the file's task block, and the block of its cut k ("Blocks")
abbrev pub task_block : List ℕ → Task
task_block f = task_at f (generic_size + site_size)

abbrev pub cut_block : List ℕ → ℕ → Cut
cut_block f k = cut_at f (cut_place k)

-- how many of some radials are of cut k
abbrev pub of_cut : ℕ → List Stretch → ℕ
of_cut k [] = 0
of_cut k (s ∷ ss) = cond (eqb s.cut k) 1 0 + of_cut k ss

-- the radial of a stretch, behind the radials `before`: a whole one, judged against the true counts and the masks of its own
-- cut; it ends where its length of data says ("Tiling")
pub record InPlace (f : List ℕ) (before : List Stretch) (s : Stretch) : Type 0 where
  pub whole : WholeRadial f s
  pub against : whole.against
      ≡ record { scan_type = (task_block f).scan_type; cuts = (task_block f).cut_number; cut = s.cut; before = length before; in_cut = of_cut s.cut before }
  pub mask : whole.mask ≡ (cut_block f s.cut).moments_mask
  pub sizes : whole.sizes ≡ (cut_block f s.cut).size_mask
  pub end : s.end ≡ s.start + radial_size + (radial_at f s.start).length_of_data

-- each of some radials, behind those `before` (the nearest first)
abbrev pub AllInPlace : List ℕ → List Stretch → List Stretch → Type 0
AllInPlace f before [] = Unit {0}
AllInPlace f before (s ∷ ss) = InPlace f before s × AllInPlace f (s ∷ before) ss

-- In which order an import is refused, by what number and at which place (document 02, #102): 50, the writer's on our records, then
-- radial by radial its own four numbers and the writer's on it. What is refused leaves the room as it was, and begins no volume.
use Rattle.std.specs.Prelude.{◌≡◌, ℕ, suc, ◌*◌, ◌<◌, ◌≤◌, ◌⊎◌, List, length, ◌≢◌}
use Rattle.generic.specs.declared.Generic.{Generic}
use Rattle.site.specs.declared.Site.{Site}
use Rattle.task.specs.declared.Task.{Task}
use Rattle.writer.specs.declared.order.Answer.TheVariants.{Taken, Refused}
use Rattle.writer.specs.Many.{put_all}
use Rattle.old.specs.declared.record.OldRadial.{OldRadial}
use Rattle.old.specs.Clock.{seconds_of}
use Rattle.old.specs.Old.{old_at}
use Rattle.shelf.specs.Import.{old_blocks, take_first, ours, refused_whole, import_of}

-- ---- an old radial's own numbers, in words of their own

-- 62 asks for a day that is not 0, milliseconds of one day, and seconds that an INT holds
abbrev pub InTime : OldRadial → Type 0
InTime o = (1 ≤ o.day) × (o.milliseconds < 86400000) × (seconds_of o.day o.milliseconds ≤ 2147483647)

abbrev pub OutOfTime : OldRadial → Type 0
OutOfTime o = (o.day ≡ 0) ⊎ (86400000 ≤ o.milliseconds) ⊎ (2147483647 < seconds_of o.day o.milliseconds)

-- 52 asks for at most 460 and 920 gates, and for one at least
abbrev pub Counted : OldRadial → Type 0
Counted o = (o.reflectivity ≤ 460) × (o.doppler ≤ 920) × ((1 ≤ o.reflectivity) ⊎ (1 ≤ o.doppler))

abbrev pub Miscounted : OldRadial → Type 0
Miscounted o = (460 < o.reflectivity) ⊎ (920 < o.doppler) ⊎ ((o.reflectivity ≡ 0) × (o.doppler ≡ 0))

-- 53 asks for a resolution of 2 or 4
abbrev pub Resolved : OldRadial → Type 0
Resolved o = (o.resolution ≡ 2) ⊎ (o.resolution ≡ 4)

-- which number refuses it: 51, 62, 52, 53 in this order
pub data RefusedBy (o : OldRadial) : ℕ → Type 0 where
  mark : (o.mark ≢ 1) → RefusedBy o 51
  time : o.mark ≡ 1 → OutOfTime o → RefusedBy o 62
  counts : o.mark ≡ 1 → InTime o → Miscounted o → RefusedBy o 52
  resolution : o.mark ≡ 1 → InTime o → Counted o → (Resolved o → ⊥) → RefusedBy o 53

-- none of the four does
pub record Unrefused (o : OldRadial) : Type 0 where
  pub mark : o.mark ≡ 1
  pub time : InTime o
  pub counts : Counted o
  pub resolution : Resolved o

-- ---- the order

-- a length that is a positive multiple of 2432, and how many radials that is
pub record Radials (f : List ℕ) (n : ℕ) : Type 0 where
  pub some : 1 ≤ n
  pub length : length f ≡ n * 2432

pub record Ordered (g : Generic) (s : Site) (t : Task) (c f room : List ℕ) : Type 0 where
  -- 50 comes first, at place 0
  pub fifty : ((n : ℕ) → Radials f n → ⊥) → import_of g s t c f room ≡ refused_whole 50 0 room
  -- then what the writer says of our records
  pub records : (m : ℕ) → Radials f m → (n p : ℕ) → (ours g s t c room).answer ≡ Refused n p → import_of g s t c f room ≡ refused_whole n p room
  -- then, of each radial with all before it taken, its own number at its place in the old file, whatever state and room are
  pub own : (m : ℕ) → Radials f m → (k : ℕ) → k < m → (take_first k f (ours g s t c room)).answer ≡ Taken
      → (n : ℕ) → RefusedBy (old_at f (k * 2432)) n → import_of g s t c f room ≡ refused_whole n (k * 2432) room
  -- and, where it has none, what the writer says of its blocks
  pub writer : (m : ℕ) → Radials f m → (k : ℕ) → k < m → (take_first k f (ours g s t c room)).answer ≡ Taken → Unrefused (old_at f (k * 2432))
      → (n p : ℕ) → (put_all (old_blocks f (k * 2432) (take_first k f (ours g s t c room)).walk) (take_first k f (ours g s t c room))).answer ≡ Refused n p
      → import_of g s t c f room ≡ refused_whole n p room
  -- a radial that neither refuses is taken over
  pub on : (m : ℕ) → Radials f m → (k : ℕ) → k < m → (take_first k f (ours g s t c room)).answer ≡ Taken → Unrefused (old_at f (k * 2432))
      → (put_all (old_blocks f (k * 2432) (take_first k f (ours g s t c room)).walk) (take_first k f (ours g s t c room))).answer ≡ Taken
      → (take_first (suc k) f (ours g s t c room)).answer ≡ Taken
  -- what is refused nowhere is taken
  pub taken : (m : ℕ) → Radials f m → (take_first m f (ours g s t c room)).answer ≡ Taken → import_of g s t c f room ≡ take_first m f (ours g s t c room)

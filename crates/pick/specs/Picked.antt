-- What picking makes of a complete volume (document 02, #111): a complete volume, with every answer on a wanted type and none on another.
use Rattle.std.specs.Prelude.{ℕ, ◌-◌, ◌^◌, ◌≤◌, ◌<◌, true, false, cond, List, ◌↔◌, ◌⊎◌, ◌≡◌, ℤ, length, take, Some, None, Result}
use Rattle.refusal.specs.declared.Refusal.{Refusal}
use Rattle.std.specs.Int.Bits.{bit_and}
use Rattle.rules.specs.Masks.{bit}
use Rattle.wedge.specs.declared.Wedge.{Wedge}
use Rattle.wedge.specs.Wedge.{wedge_ok}
use Rattle.gates.specs.Telling.{refused}
use Rattle.walk.specs.Due.{cut_place}
use Rattle.reading.specs.declared.Stretch.{Stretch}
use Rattle.reading.specs.Reading.{nth, stop, stretches}
use Rattle.volume.specs.InPlace.{cut_block, task_block}
use Rattle.mend.specs.Mend.{cut_number}
use Rattle.volume.specs.Volume.{Volume, IsVolume, bytes_of_volume}
use Rattle.ask.specs.declared.places.Where.TheVariants.{NoMoment}
use Rattle.ask.specs.Answers.{radial_of_file, moment_told, data_told, Unfilled}
use Rattle.ask.specs.Growth.{gate_asked, RowAsked}
use Rattle.ask.specs.Places.{where_is}
use Rattle.ask.specs.Tallies.{cut_accepted, tally_answer}
use Rattle.pick.specs.Only.{AllLeft, only_volume, with_mask, with_moments}
use Rattle.pick.specs.Pick.{Complete, empty_in, picked}

-- where a pick is taken, whatever the room: the file is complete, and no radial would have no moment left
pub record Taken (wanted : ℕ) (f : List ℕ) : Type 0 where
  pub complete : Complete f
  pub left : empty_in wanted f ≡ None

-- ---- which radials would have no moment left, by the questions that are asked of f

-- radial n of f has a moment of a wanted type
abbrev pub SomeWanted : ℕ → List ℕ → ℕ → Type 0
SomeWanted wanted f n = (t : ℕ) × ((bit wanted t ≡ true) × ((moment_told f (where_is f n t)).number ≡ 0))

-- s is the first that has none: of each wanted type 31 is told of it, and every radial before it has one; its place is that which is told
-- of the radial
pub record First (wanted : ℕ) (f : List ℕ) (s : Stretch) : Type 0 where
  pub number : ℕ
  pub is : nth (stretches f) number ≡ Some s
  pub place : (radial_of_file f number).place ≡ s.start
  pub none : (t : ℕ) → bit wanted t ≡ true → (moment_told f (where_is f number t)).number ≡ 31
  pub before : (k : ℕ) → 1 ≤ k → k < number → SomeWanted wanted f k

pub record ByQuestions (wanted : ℕ) (f : List ℕ) : Type 0 where
  pub first : (s : Stretch) → empty_in wanted f ≡ Some s → First wanted f s
  pub each : empty_in wanted f ≡ None → (n : ℕ) → (radial_of_file f n).number ≡ 0 → SomeWanted wanted f n

-- ---- one radial; g is the picked volume

-- n is any number, and where f has no such radial, g has none
pub record Kept (f g : List ℕ) (wanted n : ℕ) : Type 0 where
  pub there : (radial_of_file g n).number ≡ (radial_of_file f n).number
  -- its record is the original's but for two fields
  pub header : (radial_of_file g n).header ≡ with_moments (radial_of_file f n).header (radial_of_file g n).header.length_of_data (radial_of_file g n).header.moment_number
  -- a wanted type: the moment, its data, every gate and the row are the original's
  pub moment : (t : ℕ) → bit wanted t ≡ true → moment_told g (where_is g n t) ≡ moment_told f (where_is f n t)
  pub bytes : (t : ℕ) → bit wanted t ≡ true → data_told g (where_is g n t) ≡ data_told f (where_is f n t)
  pub gate : (t i : ℕ) → bit wanted t ≡ true → gate_asked g n t i ≡ gate_asked f n t i
  pub row : (t : ℕ) → bit wanted t ≡ true → (k k' : List ℕ) (h h' : List ℤ) (r : Result ℕ Refusal) → RowAsked g n t k h r k' h' ↔ RowAsked f n t k h r k' h'
  -- any other type: 31, where there is such a radial
  pub no-moment : (t : ℕ) → bit wanted t ≡ false → (radial_of_file f n).number ≡ 0 → where_is g n t ≡ NoMoment
  pub moment-31 : (t : ℕ) → bit wanted t ≡ false → (radial_of_file f n).number ≡ 0 → (moment_told g (where_is g n t)).number ≡ 31
  pub gate-31 : (t i : ℕ) → bit wanted t ≡ false → (radial_of_file f n).number ≡ 0 → gate_asked g n t i ≡ refused 31 0
  pub row-31 : (t : ℕ) → bit wanted t ≡ false → (radial_of_file f n).number ≡ 0 → (k k' : List ℕ) (h h' : List ℤ) (r : Result ℕ Refusal) → RowAsked g n t k h r k' h' ↔ Unfilled 31 k h r k' h'

-- ---- the volume

-- the blocks before the radials, each at its place: those before the cuts as they are, each cut but for its mask
pub record Fronted (f g : List ℕ) (wanted : ℕ) : Type 0 where
  pub same : take (cut_place 1) g ≡ take (cut_place 1) f
  pub task : task_block g ≡ task_block f
  pub cuts : (k : ℕ) → 1 ≤ k → k ≤ cut_number f → cut_block g k ≡ with_mask (cut_block f k) (bit_and (cut_block f k).moments_mask wanted)

-- the file as the volume that it is; what is written is that volume with the wanted moments only, record for record
pub record InRecords (wanted : ℕ) (f : List ℕ) : Type 0 where
  pub volume : Volume
  pub is : IsVolume volume
  pub file : bytes_of_volume volume ≡ f
  pub left : AllLeft wanted volume.layers
  pub only : IsVolume (only_volume wanted volume)
  pub written : bytes_of_volume (only_volume wanted volume) ≡ picked wanted f

pub record Picking (wanted : ℕ) (f : List ℕ) : Type 0 where
  pub records : InRecords wanted f
  -- it is complete, with as many radials, and no longer than the file
  pub complete : Complete (picked wanted f)
  pub radials : length (stretches (picked wanted f)) ≡ length (stretches f)
  pub no_longer : length (picked wanted f) ≤ length f
  pub fronted : Fronted f (picked wanted f) wanted
  pub answers : (n : ℕ) → Kept f (picked wanted f) wanted n
  -- a tally of a wanted type is the original's; one of another is refused by 31, where the original's is not refused by 61 or 30
  pub tally : (cut t : ℕ) (w : Wedge) → bit wanted t ≡ true → tally_answer (picked wanted f) cut t w ≡ tally_answer f cut t w
  pub tally-31 : (cut t : ℕ) (w : Wedge) → bit wanted t ≡ false
      → tally_answer (picked wanted f) cut t w ≡ cond (wedge_ok w) (cond (cut_accepted (stop f) cut) (refused 31 0) (refused 30 0)) (refused 61 0)

-- ---- one mask and then another

-- the second step is refused at the radial that is s in f
pub record SameRadial (m w : ℕ) (f : List ℕ) (s : Stretch) : Type 0 where
  pub number : ℕ
  pub then : Stretch
  pub here : nth (stretches f) number ≡ Some s
  pub there : nth (stretches (picked m f)) number ≡ Some then
  pub second : empty_in w (picked m f) ≡ Some then

pub record Twice (m w : ℕ) (f : List ℕ) : Type 0 where
  -- both steps are taken exactly where the common bits are
  pub both : (Taken m f × Taken w (picked m f)) ↔ Taken (bit_and m w) f
  -- and then the same bytes are written
  pub same : Taken m f → picked w (picked m f) ≡ picked (bit_and m w) f
  -- where the common bits are refused by 60, the first step is, or the second is at the same radial
  pub refused : Complete f → (s : Stretch) → empty_in (bit_and m w) f ≡ Some s → ((u : Stretch) × (empty_in m f ≡ Some u)) ⊎ SameRadial m w f s

-- ---- a mask in which every cut's mask lies

abbrev pub CutsIn : ℕ → List ℕ → Type 0
CutsIn wanted f = (k : ℕ) → 1 ≤ k → k ≤ cut_number f → bit_and (cut_block f k).moments_mask wanted ≡ (cut_block f k).moments_mask

pub record GivenBack (f : List ℕ) : Type 0 where
  pub same : (wanted : ℕ) → CutsIn wanted f → Taken wanted f × (picked wanted f ≡ f)
  -- one of all ones is such a mask
  pub all_ones : CutsIn (2 ^ 64 - 1) f

-- What an import that is taken has brought over (document 02, #102), by what our questions answer of the volume that is then written.
use Rattle.std.specs.Prelude.{◌≡◌, ℕ, suc, ◌+◌, ◌*◌, ◌/◌, ◌%◌, ◌<◌, ◌≤◌, List, ◌++◌, length, drop, replicate, ◌≢◌, slice_index}
use Rattle.moment.specs.declared.Moment.{Moment}
use Rattle.radial.specs.declared.Radial.{Radial}
use Rattle.generic.specs.declared.Generic.{Generic}
use Rattle.generic.specs.Generic.{generic_bytes}
use Rattle.site.specs.declared.Site.{Site}
use Rattle.site.specs.Site.{site_bytes}
use Rattle.task.specs.declared.Task.{Task}
use Rattle.task.specs.Task.{task_bytes}
use Rattle.gates.specs.Gates.{Values}
use Rattle.gates.specs.Telling.{Telling, refused, answered}
use Rattle.reading.specs.Reading.{stretches}
use Rattle.ask.specs.Answers.{radial_of_file}
use Rattle.ask.specs.Growth.{gate_asked}
use Rattle.writer.specs.Block.{Block}
use Rattle.writer.specs.Many.{beginning, put_all}
use Rattle.writer.specs.Put.{Outcome}
use Rattle.writer.specs.Trips.{ReadBack}
use Rattle.retold.specs.Many.{FitsAll, written_in}
use Rattle.retold.specs.Retold.{moment_asked}
use Rattle.old.specs.declared.codes.Quantity.{Quantity}
use Rattle.old.specs.declared.codes.Quantity.TheVariants.{Reflectivity, Velocity, Width}
use Rattle.old.specs.declared.record.OldRadial.{OldRadial}
use Rattle.old.specs.Angle.{IsAngle}
use Rattle.old.specs.Codes.{Meaning, meaning, Says}
use Rattle.old.specs.Headers.{gates_of, place_of}
use Rattle.old.specs.Old.{old_at}
use Rattle.old.specs.Shelf.{radials_in, radial_place}

-- ---- a gate

-- our type of each moment (document 02, #102)
abbrev pub type_of : Quantity → ℕ
type_of Reflectivity = 2
type_of Velocity = 3
type_of Width = 4

-- the old code of a gate, from 0, of a moment of the radial at a place (document 003)
abbrev pub old_code : Quantity → List ℕ → ℕ → ℕ → ℕ
old_code q f at i = slice_index f (at + place_of q (old_at f at) + i)

-- a gate is answered with what the old code means: its kind and, of a value, exactly the same value (document 02, #102)
pub record Means (told : Telling Values) (m : Meaning) : Type 0 where
  pub values : Values
  pub answer : told ≡ answered values
  pub says : Says values.gate.0 values.difference values.scale m

-- ---- a radial

-- what a header says of the old radial that it comes from: state, elevation number, both angles and the time are the old ones, and
-- what the old one has not is 0 (document 02, #102)
pub record HeaderKeeps (o : OldRadial) (r : Radial) : Type 0 where
  pub state : r.state ≡ o.state
  pub elevation-number : r.elevation_number ≡ o.elevation_number
  pub azimuth : IsAngle o.azimuth r.azimuth
  pub elevation : IsAngle o.elevation r.elevation
  pub day : r.seconds / 86400 + 1 ≡ o.day
  pub milliseconds : r.seconds % 86400 * 1000 + r.microseconds / 1000 ≡ o.milliseconds
  pub no-rest : r.microseconds % 1000 ≡ 0
  pub spot-blank : r.spot_blank ≡ 0
  pub reserved : r.reserved ≡ replicate 20 0

-- what the header of a moment has: two bytes a gate, and zeros where the old radial has nothing (document 02, #102)
pub record MomentKeeps (told : Telling Moment) : Type 0 where
  pub header : Moment
  pub answer : told ≡ answered header
  pub bin-length : header.bin_length ≡ 2
  pub flags : header.flags ≡ 0
  pub reserved : header.reserved ≡ replicate 12 0

-- the radial of the old file with k before it, in a volume, by the questions on its sequence number. Each gate of each of its moments is
-- answered, and no other: a moment has as many gates as the old one, one of 0 gates is left out, and there is no other type.
pub record RadialKeeps (f : List ℕ) (k : ℕ) (volume : List ℕ) : Type 0 where
  pub there : (radial_of_file volume (suc k)).number ≡ 0
  pub sequence : (radial_of_file volume (suc k)).header.sequence ≡ suc k
  pub header : HeaderKeeps (old_at f (radial_place k)) (radial_of_file volume (suc k)).header
  pub moment : (q : Quantity) → 0 < gates_of q (old_at f (radial_place k)) → MomentKeeps (moment_asked volume (suc k) (type_of q))
  pub gate : (q : Quantity) (i : ℕ) → i < gates_of q (old_at f (radial_place k))
      → Means (gate_asked volume (suc k) (type_of q) i) (meaning q (old_at f (radial_place k)).resolution (old_code q f (radial_place k) i))
  pub no-gate : (q : Quantity) (i : ℕ) → 0 < gates_of q (old_at f (radial_place k)) → gates_of q (old_at f (radial_place k)) ≤ i
      → gate_asked volume (suc k) (type_of q) i ≡ refused 32 0
  pub left_out : (q : Quantity) (i : ℕ) → gates_of q (old_at f (radial_place k)) ≡ 0 → gate_asked volume (suc k) (type_of q) i ≡ refused 31 0
  pub no_other : (t i : ℕ) → ((q : Quantity) → type_of q ≢ t) → gate_asked volume (suc k) t i ≡ refused 31 0

-- ---- the volume

-- An import that is taken: it is what the writer makes of some blocks put one by one from a fresh state on; what is written begins with our
-- records, is read to its last byte, complete or open, and has the radials of the old file and no other, in their order; behind it the
-- room is as it was (document 02, #102; document 01, "Writing").
pub record Brought (g : Generic) (s : Site) (t : Task) (c f room : List ℕ) (o : Outcome) : Type 0 where
  pub blocks : List Block
  pub fit : FitsAll blocks
  pub one_by_one : o ≡ put_all blocks (beginning room)
  pub back : ReadBack o.walk o.room
  pub radial-bytes : List ℕ
  pub ours : written_in o ≡ generic_bytes g ++ site_bytes s ++ task_bytes t ++ c ++ radial-bytes
  pub behind : drop o.walk.at o.room ≡ drop o.walk.at room
  pub radials : length (stretches (written_in o)) ≡ radials_in (length f)
  pub each : (k : ℕ) → k < radials_in (length f) → RadialKeeps f k (written_in o)

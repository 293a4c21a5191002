-- The headers that an old radial gives (document 02, #102).
use Rattle.std.specs.Prelude.{ℕ, ◌+◌, ◌*◌, ◌%◌, ◌^◌, cond, List, eqb, replicate}
use Rattle.le.specs.Le.{part}
use Rattle.radial.specs.declared.Radial.{Radial}
use Rattle.moment.specs.declared.Moment.{Moment}
use Rattle.moment.specs.Moment.{moment_size}
use Rattle.old.specs.declared.record.OldRadial.{OldRadial}
use Rattle.old.specs.declared.codes.Quantity.{Quantity}
use Rattle.old.specs.declared.codes.Quantity.TheVariants.{Reflectivity, Velocity, Width}
use Rattle.old.specs.Old.{old_header, old_at}
use Rattle.old.specs.Angle.{angle_bits}
use Rattle.old.specs.Clock.{seconds_of, micros_of}
use Rattle.old.specs.Codes.{coding_of}

-- how many gates a moment has (document 003), and where in the old radial its codes begin: reflectivity, velocity, width, back to
-- back, by the counts of gates (document 02, #102)
unfoldable pub gates_of : Quantity → OldRadial → ℕ
gates_of Reflectivity o = o.reflectivity
gates_of Velocity o = o.doppler
gates_of Width o = o.doppler

unfoldable pub place_of : Quantity → OldRadial → ℕ
place_of Reflectivity o = old_header
place_of Velocity o = old_header + o.reflectivity
place_of Width o = old_header + o.reflectivity + o.doppler

-- the old codes of a moment of the radial at place `at` (document 003)
abbrev pub old_codes : Quantity → List ℕ → ℕ → List ℕ
old_codes q f at = part (gates_of q (old_at f at)) f (at + place_of q (old_at f at))

-- a moment of 0 gates is left out; any other has its header and two bytes a gate (document 02, #102)
unfoldable pub moment_length : ℕ → ℕ
moment_length gates = cond (eqb gates 0) 0 (moment_size + 2 * gates)

-- how many moments are not left out; velocity and width go together (document 02, #102)
unfoldable pub moment_count : ℕ → ℕ → ℕ
moment_count r d = cond (eqb r 0) 0 1 + cond (eqb d 0) 0 2

-- the bytes of all moments (document 02, #102)
abbrev pub data_length : OldRadial → ℕ
data_length o = moment_length o.reflectivity + 2 * moment_length o.doppler

-- state and elevation number carried over, the two counts given, zeros where document 02, #102 has them. The low 32 bits of the
-- seconds are all of them where the radial is accepted (number 62).
unfoldable pub radial_from : OldRadial → ℕ → ℕ → Radial
radial_from o sequence number = record {
  state = o.state;
  spot_blank = 0;
  sequence = sequence;
  radial_number = number;
  elevation_number = o.elevation_number;
  azimuth = angle_bits o.azimuth;
  elevation = angle_bits o.elevation;
  seconds = seconds_of o.day o.milliseconds % 2 ^ 32;
  microseconds = micros_of o.milliseconds;
  length_of_data = data_length o;
  moment_number = moment_count o.reflectivity o.doppler;
  reserved = replicate 20 0;
}

-- the coding of a moment, two bytes a gate, zeros where document 02, #102 has them
unfoldable pub moment_from : Quantity → ℕ → ℕ → Moment
moment_from q resolution gates = record {
  data_type = (coding_of q resolution).data_type;
  scale = (coding_of q resolution).scale;
  offset = (coding_of q resolution).offset;
  bin_length = 2;
  flags = 0;
  length = 2 * gates;
  reserved = replicate 12 0;
}

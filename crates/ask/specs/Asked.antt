-- What is answered is what was asked for (document 01, "What reading tells"; document 02, #101).
use Rattle.std.specs.Prelude.{ℕ, true, false, List, ◌≡◌, Some}
use Rattle.moment.specs.Moment.{moment_at}
use Rattle.gates.specs.Gates.{is_measurement, Values}
use Rattle.gates.specs.Telling.{answered}
use Rattle.reading.specs.declared.Stretch.{Stretch}
use Rattle.reading.specs.Reading.{stretches, nth, bytes_of}
use Rattle.ask.specs.declared.places.Where.TheVariants.{At}
use Rattle.ask.specs.Answers.{radial_of_file, gate_told}
use Rattle.ask.specs.Places.{where_is}

-- the radial answered for n has sequence number n in its own header, and the moment answered for t is of type t. A gate
-- answered as a value is of a type that is a measurement, one answered as a class of a type that is none
pub record AsAsked (f : List ℕ) (n t : ℕ) : Type 0 where
  pub sequence : (s : Stretch) → nth (stretches f) n ≡ Some s → (radial_of_file f n).header.sequence ≡ n
  pub data_type : (s : Stretch) (p : ℕ) → where_is f n t ≡ At s p → (moment_at (bytes_of f s) p).data_type ≡ t
  pub value : (i : ℕ) (v : Values) → gate_told f (where_is f n t) i ≡ answered v → v.gate.0 ≡ 5 → is_measurement t ≡ true
  pub class : (i : ℕ) (v : Values) → gate_told f (where_is f n t) i ≡ answered v → v.gate.0 ≡ 6 → is_measurement t ≡ false

-- Why a gate's answer is what it is (document 02, #104): the places in the file of its type, scale, offset, bin length and code, and
-- what stands there; of a refused question, which it is and what there is instead.
use Rattle.std.specs.Prelude.{ℕ, ◌+◌, ◌*◌, ◌%◌, cond, List, ltb, length, Option, Some, None}
use Rattle.le.specs.Le.{le}
use Rattle.gates.specs.declared.Coding.{Coding}
use Rattle.gates.specs.declared.Told.{Told}
use Rattle.gates.specs.Codes.{codes_of, width_of}
use Rattle.gates.specs.Gates.{told_of}
use Rattle.gates.specs.Telling.{Telling, refused, answered}
use Rattle.moment.specs.Moment.{moment_at, moment_size}
use Rattle.moments.specs.Moments.{data_at, moments_of, find_in}
use Rattle.reading.specs.declared.Stretch.{Stretch}
use Rattle.reading.specs.Reading.{stretches, nth, bytes_of}
use Rattle.citing.specs.declared.answers.GateCited.{GateCited}
use Rattle.citing.specs.declared.answers.WhyGate.{WhyGate}
use Rattle.citing.specs.declared.answers.WhyGate.TheVariants.{Answered, NoRadial, NoMoment, NoGate}
use Rattle.citing.specs.Fields.{field_at}

-- the bytes of a code, as the bin length of the header at place m says
abbrev pub width_at : List ℕ → ℕ → ℕ
width_at f m = width_of (le 2 f (m + 12))

-- the fields of gate i of the moment whose header stands at place m of the file (table 3-2); its code is the i-th behind the header
unfoldable pub cited_at : List ℕ → ℕ → ℕ → GateCited
cited_at f m i =
    record {
      data_type = field_at f m 4;
      scale = field_at f (m + 4) 4;
      offset = field_at f (m + 8) 4;
      bin_length = field_at f (m + 12) 2;
      code = field_at f (m + moment_size + width_at f m * i) (width_at f m);
    }

-- how many gates the moment has whose header stands at place p of a radial's own stretch
abbrev pub gates_at : List ℕ → ℕ → ℕ
gates_at b p = length (codes_of (moment_at b p).bin_length (data_at b p))

-- in the radial of a stretch: 31 with the radial's place, or 32 with the number of gates, or the gate's fields
unfoldable pub in_moment : List ℕ → Stretch → ℕ → Option ℕ → WhyGate
in_moment f s i None = NoMoment s.start
in_moment f s i (Some p) =
    cond (ltb i (gates_at (bytes_of f s) p)) (Answered (cited_at f (s.start + p) i)) (NoGate (gates_at (bytes_of f s) p))

abbrev pub in_stretch : List ℕ → ℕ → ℕ → Stretch → WhyGate
in_stretch f t i s = in_moment f s i (find_in (bytes_of f s) t (moments_of (bytes_of f s)))

-- of the whole radial with a sequence number: 30 with the number of whole radials
unfoldable pub in_radial : List ℕ → ℕ → ℕ → Option Stretch → WhyGate
in_radial f t i None = NoRadial (length (stretches f))
in_radial f t i (Some s) = in_stretch f t i s

-- why gate i of the moment of type t in radial n is answered as it is
abbrev pub why_gate : List ℕ → ℕ → ℕ → ℕ → WhyGate
why_gate f n t i = in_radial f t i (nth (stretches f) n)

-- a question's refusal, as the gate question tells it, or the fields that give the answer
abbrev pub told_why_gate : WhyGate → Telling GateCited
told_why_gate (Answered c) = answered c
told_why_gate (NoRadial n) = refused 30 0
told_why_gate (NoMoment p) = refused 31 0
told_why_gate (NoGate n) = refused 32 0

-- what the cited numbers say of the codes. 16 bits hold an accepted header's scale and offset whole, and any code
abbrev pub coding_cited : GateCited → Coding
coding_cited c = record { data_type = c.data_type.found; scale = c.scale.found % 65536; offset = c.offset.found % 65536 }

-- the answer by the formula, from the cited numbers alone
abbrev pub answer_of : GateCited → Told
answer_of c = told_of (coding_cited c) (c.code.found % 65536)

-- The cited bytes alone give a gate's answer (document 02, #104), by the formula of document 01 and #101; and what a refused question has
-- instead.
use Rattle.std.specs.Prelude.{ℕ, ◌≤◌, ◌<◌, List, ◌↔◌, ◌≡◌, length}
use Rattle.le.specs.Le.{le, Bytes}
use Rattle.gates.specs.Codes.{width_of}
use Rattle.gates.specs.Gates.{Values, told_of, values_of}
use Rattle.gates.specs.Telling.{refused, answered}
use Rattle.reading.specs.Reading.{stretches}
use Rattle.ask.specs.Answers.{radial_of_file}
use Rattle.ask.specs.Growth.{gate_asked}
use Rattle.citing.specs.declared.Field.{Field}
use Rattle.citing.specs.declared.answers.GateCited.{GateCited}
use Rattle.citing.specs.declared.answers.WhyGate.TheVariants.{Answered, NoRadial, NoMoment, NoGate}
use Rattle.citing.specs.Answers.{answer_of, told_why_gate, why_gate}
use Rattle.citing.specs.Fields.{bytes_in, InFile, number_of}

-- the formula, from five runs of bytes and nothing else: a type, a scale, an offset, a bin length, which says how many bytes a code has, and
-- a code
abbrev pub formula : List ℕ → List ℕ → List ℕ → List ℕ → List ℕ → Values
formula type scale offset bin code =
    values_of (told_of (record { data_type = number_of type; scale = number_of scale; offset = number_of offset }) (le (width_of (number_of bin)) code 0))

-- over the bytes that a file has at the cited places
abbrev pub by_formula : List ℕ → GateCited → Values
by_formula f c = formula (bytes_in f c.data_type) (bytes_in f c.scale) (bytes_in f c.offset) (bytes_in f c.bin_length) (bytes_in f c.code)

-- file g has at the places of d the bytes that f has at those of c, and as many
pub record SameBytes (f : List ℕ) (c : GateCited) (g : List ℕ) (d : GateCited) : Type 0 where
  pub data_type : bytes_in g d.data_type ≡ bytes_in f c.data_type
  pub scale : bytes_in g d.scale ≡ bytes_in f c.scale
  pub offset : bytes_in g d.offset ≡ bytes_in f c.offset
  pub bin_length : bytes_in g d.bin_length ≡ bytes_in f c.bin_length
  pub code : bytes_in g d.code ≡ bytes_in f c.code

-- a cited field is all there, and its number is that of its bytes
pub record Stands (f : List ℕ) (x : Field) : Type 0 where
  pub there : InFile f x
  pub found : x.found ≡ number_of (bytes_in f x)

-- what c cites for gate i of type t in radial n gives its answer, and nothing else can matter
pub record Alone (f : List ℕ) (n t i : ℕ) (c : GateCited) : Type 0 where
  pub data_type : Stands f c.data_type
  pub scale : Stands f c.scale
  pub offset : Stands f c.offset
  pub bin_length : Stands f c.bin_length
  pub code : Stands f c.code
  -- the code has as many bytes as the bin length says
  pub width : c.code.size ≡ width_of c.bin_length.found
  -- the formula over the cited bytes is the gate question's answer, and so is what is answered from the cited numbers
  pub answer : gate_asked f n t i ≡ answered (by_formula f c)
  pub numbers : Bytes f → values_of (answer_of c) ≡ by_formula f c
  -- any file with the same bytes at the cited places, and as many, gives the same by the formula
  pub alone : (g : List ℕ) → SameBytes f c g c → by_formula g c ≡ by_formula f c
  -- and any question on any file for which the same bytes are cited is answered the same
  pub same : (g : List ℕ) (m u k : ℕ) (d : GateCited) → why_gate g m u k ≡ Answered d → SameBytes f c g d → gate_asked g m u k ≡ gate_asked f n t i

-- a question is refused as the gate question is; of a gate that is answered and of the three refusals: how many whole radials there are; where the radial stands; how many gates there are, of
-- which each is answered and no other
pub record Because (f : List ℕ) (n t i : ℕ) : Type 0 where
  pub refused-so : (k : ℕ) → (gate_asked f n t i ≡ refused k 0) ↔ (told_why_gate (why_gate f n t i) ≡ refused k 0)
  pub answered-by : (c : GateCited) → why_gate f n t i ≡ Answered c → Alone f n t i c
  pub no-radial : (k : ℕ) → why_gate f n t i ≡ NoRadial k → (gate_asked f n t i ≡ refused 30 0) × (k ≡ length (stretches f))
  pub no-moment : (p : ℕ) → why_gate f n t i ≡ NoMoment p → (gate_asked f n t i ≡ refused 31 0) × ((radial_of_file f n).number ≡ 0) × (p ≡ (radial_of_file f n).place)
  pub no-gate : (k : ℕ) → why_gate f n t i ≡ NoGate k
      → (gate_asked f n t i ≡ refused 32 0) × ((j : ℕ) → j < k → (v : Values) × (gate_asked f n t j ≡ answered v)) × ((j : ℕ) → k ≤ j → gate_asked f n t j ≡ refused 32 0)

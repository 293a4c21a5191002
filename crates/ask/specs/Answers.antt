-- What is answered of a radial, a moment, a gate and a row (document 01, "What reading tells"): 30 where there is no such
-- whole radial, then 31 where it has no such moment, then 32 or 33.
use Rattle.std.specs.Prelude.{ℕ, ◌%◌, cond, List, [], ◌≡◌, eqb, ltb, ℤ, length, get_or, Option, Some, None, Result, Ok, Err}
use Rattle.refusal.specs.declared.Refusal.{Refusal}
use Rattle.refusal.specs.Refusal.{number_of}
use Rattle.gates.specs.declared.Told.{Told}
use Rattle.reading.specs.declared.Stretch.{Stretch}
use Rattle.moment.specs.declared.Moment.{Moment}
use Rattle.moment.specs.Moment.{moment_at}
use Rattle.radial.specs.Radial.{radial_at}
use Rattle.gates.specs.declared.Coding.{Coding}
use Rattle.gates.specs.Codes.{codes_of}
use Rattle.gates.specs.Gates.{told_of, Values, values_of}
use Rattle.gates.specs.Rows.{told_row, Rowed}
use Rattle.gates.specs.Telling.{Telling, refused, answered}
use Rattle.moments.specs.Moments.{data_at}
use Rattle.reading.specs.Reading.{stretches, nth, bytes_of}
use Rattle.ask.specs.declared.answers.RadialAnswer.{RadialAnswer}
use Rattle.ask.specs.declared.answers.MomentAnswer.{MomentAnswer}
use Rattle.ask.specs.declared.places.Where.{Where}
use Rattle.ask.specs.declared.places.Where.TheVariants.{At, NoRadial, NoMoment}

-- a radial: its record and its place; refused, zeros
unfoldable pub radial_told : List ℕ → Option Stretch → RadialAnswer
radial_told f None = record { number = 30; place = 0; header = radial_at [] 0 }
radial_told f (Some s) = record { number = 0; place = s.start; header = radial_at f s.start }

abbrev pub radial_of_file : List ℕ → ℕ → RadialAnswer
radial_of_file f n = radial_told f (nth (stretches f) n)

-- a moment: its header; refused, zeros
unfoldable pub moment_told : List ℕ → Where → MomentAnswer
moment_told f NoRadial = record { number = 30; header = moment_at [] 0 }
moment_told f NoMoment = record { number = 31; header = moment_at [] 0 }
moment_told f (At s p) = record { number = 0; header = moment_at (bytes_of f s) p }

-- a moment's answer: its header; or the refusal's number, and place 0
abbrev pub told_moment : MomentAnswer → Telling Moment
told_moment a = cond (eqb a.number 0) (answered a.header) (refused a.number 0)

-- the part of the file that holds a moment's data; refused, it is empty
unfoldable pub data_told : List ℕ → Where → List ℕ
data_told f NoRadial = []
data_told f NoMoment = []
data_told f (At s p) = data_at (bytes_of f s) p

-- what a header says of its codes. An accepted header's scale and offset are at most 32,768, so 16 bits hold them whole
-- (proved of every whole radial)
abbrev pub coding_of : Moment → Coding
coding_of h = record { data_type = h.data_type; scale = h.scale % 65536; offset = h.offset % 65536 }

-- a gate's answer: its values; or the refusal's number, and place 0
abbrev pub told_gate_answer : Result Told Refusal → Telling Values
told_gate_answer (Ok t) = answered (values_of t)
told_gate_answer (Err e) = refused (number_of e) 0

-- a gate of a moment, from 0
unfoldable pub gate_in : Moment → List ℕ → ℕ → Telling Values
gate_in h bytes i =
    cond (ltb i (length (codes_of h.bin_length bytes)))
    (answered (values_of (told_of (coding_of h) (get_or (codes_of h.bin_length bytes) i 0))))
    (refused 32 0)

unfoldable pub gate_told : List ℕ → Where → ℕ → Telling Values
gate_told f NoRadial i = refused 30 0
gate_told f NoMoment i = refused 31 0
gate_told f (At s p) i = gate_in (moment_at (bytes_of f s) p) (data_at (bytes_of f s) p) i

-- a row: refused, both buffers are as they were
pub record Unfilled (n : ℕ) (k : List ℕ) (h : List ℤ) (r : Result ℕ Refusal) (k' : List ℕ) (h' : List ℤ) : Type 0 where
  pub answer : told_row r ≡ refused n 0
  pub kinds : k' ≡ k
  pub hundredths : h' ≡ h

unfoldable pub RowTold : List ℕ → Where → List ℕ → List ℤ → Result ℕ Refusal → List ℕ → List ℤ → Type 0
RowTold f NoRadial k h r k' h' = Unfilled 30 k h r k' h'
RowTold f NoMoment k h r k' h' = Unfilled 31 k h r k' h'
RowTold f (At s p) k h r k' h' =
    Rowed (coding_of (moment_at (bytes_of f s) p)) (codes_of (moment_at (bytes_of f s) p).bin_length (data_at (bytes_of f s) p)) k h r k' h'

-- A radial that is put block by block is what the questions on the written file answer (document 01, "Writing" and "What reading
-- tells"): its header as it was handed over, and each gate as its moment's own header and data say.
use Rattle.std.specs.Prelude.{ℕ, suc, cond, List, [], ◌∷◌, ◌++◌, ◌≡◌, eqb, length}
use Rattle.le.specs.Le.{run}
use Rattle.moment.specs.declared.Moment.{Moment}
use Rattle.moment.specs.Moment.{MomentFits}
use Rattle.radial.specs.declared.Radial.{Radial}
use Rattle.gates.specs.Gates.{Values}
use Rattle.gates.specs.Telling.{Telling, refused, answered}
use Rattle.reading.specs.declared.Stretch.{Stretch}
use Rattle.reading.specs.Reading.{stretches}
use Rattle.ask.specs.Answers.{gate_in, moment_told, radial_of_file, told_moment}
use Rattle.ask.specs.Growth.{gate_asked}
use Rattle.ask.specs.Places.{where_is}
use Rattle.writer.specs.Agree.{Agrees}
use Rattle.writer.specs.Block.{Block, radial, moment, «data», bytes_of}
use Rattle.writer.specs.Many.{put_all}
use Rattle.writer.specs.Put.{Outcome}
use Rattle.retold.specs.Many.{All, written_in}

-- a moment as it is put: its header, and its data
pub record Pair : Type 0 where
  pub header : Moment
  pub bytes : List ℕ

-- each header is one that its type holds ("Blocks")
abbrev pub PairsFit : List Pair → Type 0
PairsFit ps = All (λ p. MomentFits p.header) ps

-- the blocks of moments, and of a radial with them ("Blocks")
unfoldable pub moment_blocks : List Pair → List Block
moment_blocks [] = []
moment_blocks (p ∷ ps) = moment p.header ∷ «data» p.bytes ∷ moment_blocks ps

abbrev pub radial_blocks : Radial → List Pair → List Block
radial_blocks r ps = radial r ∷ moment_blocks ps

-- what is said of the first of them with type t, and what where none has it ("What reading tells")
unfoldable pub among : {X : Type 0} → (Moment → List ℕ → X) → X → List Pair → ℕ → X
among say none [] t = none
among say none (p ∷ ps) t = cond (eqb p.header.data_type t) (say p.header p.bytes) (among say none ps t)

-- its header, and a gate of it, from 0; 31 where none has the type ("What reading tells")
abbrev pub moment_among : List Pair → ℕ → Telling Moment
moment_among ps t = among (λ h bytes. answered h) (refused 31 0) ps t

abbrev pub gate_among : List Pair → ℕ → ℕ → Telling Values
gate_among ps t i = among (λ h bytes. gate_in h bytes i) (refused 31 0) ps t

-- the radial put onto o, and the stretch of the file that it then has ("Writing", "What reading tells")
abbrev pub put_radial : Radial → List Pair → Outcome → Outcome
put_radial r ps o = put_all (radial_blocks r ps) o

abbrev pub stretch_put : Radial → List Pair → Outcome → Stretch
stretch_put r ps o = record { start = o.walk.at; end = (put_radial r ps o).walk.at; cut = o.walk.count.cut }

-- how many radials are whole in what is written ("What reading tells")
abbrev pub whole_in : Outcome → ℕ
whole_in o = length (stretches (written_in o))

-- what the moment question tells ("What reading tells")
abbrev pub moment_asked : List ℕ → ℕ → ℕ → Telling Moment
moment_asked f n t = told_moment (moment_told f (where_is f n t))

-- What holds once the radial is put. The last three speak of every file that begins with what is then written, so also of what is
-- written when more blocks have been put.
pub record Retold (o : Outcome) (r : Radial) (ps : List Pair) : Type 0 where
  -- state and room agree again, and its blocks' bytes stand behind what was written
  pub agree : Agrees (put_radial r ps o).walk (put_radial r ps o).room
  pub adds : written_in (put_radial r ps o) ≡ written_in o ++ run bytes_of (radial_blocks r ps)
  -- it is one whole radial more, over those bytes, in the cut whose radials were due
  pub stretches : stretches (written_in (put_radial r ps o)) ≡ stretches (written_in o) ++ (stretch_put r ps o ∷ [])
  -- and counted by its own sequence number
  pub whole : (put_radial r ps o).walk.count.whole ≡ r.sequence
  pub number : suc (whole_in o) ≡ r.sequence
  -- asked for its header, the file answers the record that was put, and the place where it was put
  pub header : (C : List ℕ)
      → radial_of_file (written_in (put_radial r ps o) ++ C) (suc (whole_in o)) ≡ record { number = 0; place = o.walk.at; header = r }
  -- asked for a moment and for a gate, it answers by the moment of that type that was put
  pub moment : (C : List ℕ) (t : ℕ)
      → moment_asked (written_in (put_radial r ps o) ++ C) (suc (whole_in o)) t ≡ moment_among ps t
  pub gate : (C : List ℕ) (t i : ℕ) → gate_asked (written_in (put_radial r ps o) ++ C) (suc (whole_in o)) t i ≡ gate_among ps t i

-- DEMAND 2: reading means what the standard says, as document 01 settles it, and document 02 after it.
use Rattle.std.specs.Prelude.{true, false, List, [], ◌∷◌, map, ◌⊎◌, ◌≡◌, ℕ, ◌<◌, ◌≤◌, ℤ, pos, length, Result}
use Rattle.refusal.specs.declared.Refusal.{Refusal}
use Rattle.rules.specs.declared.check.Clause.{Clause}
use Rattle.le.specs.Le.{Bytes}
use Rattle.std.specs.Prelude.{Ok, Err}
use Rattle.rules.specs.Check.{Rule, verdict, Hold, First}
use Rattle.cut.specs.declared.Cut.{Cut}
use Rattle.generic.specs.declared.Generic.{Generic}
use Rattle.moment.specs.declared.Moment.{Moment}
use Rattle.radial.specs.declared.Radial.{Radial}
use Rattle.site.specs.declared.Site.{Site}
use Rattle.task.specs.declared.Task.{Task}
use Rattle.cut.specs.Cut.{cut_of, cut_bytes, CutFits, cut_size}
use Rattle.generic.specs.Generic.{generic_of, generic_bytes, GenericFits, generic_size}
use Rattle.moment.specs.Moment.{moment_of, moment_bytes, MomentFits, moment_size}
use Rattle.radial.specs.Radial.{radial_of, radial_bytes, RadialFits, radial_size}
use Rattle.site.specs.Site.{site_of, site_bytes, SiteFits, site_size}
use Rattle.task.specs.Task.{task_of, task_bytes, TaskFits, task_size}
use Rattle.wedge.specs.declared.Wedge.{Wedge}
use Rattle.gates.specs.declared.Coding.{Coding}
use Rattle.gates.specs.declared.Gate.TheVariants.{BelowThreshold, RangeFolded, NotScanned, Unknown, Reserved, Value, Class}
use Rattle.gates.specs.Gates.{is_measurement, gate_of, nothing, kind_of, told_of, values_of, difference_of, float_of, hundredths_of}
use Rattle.gates.specs.Exact.{Lossless}
use Rattle.gates.specs.Nearest.{Nearest}
use Rattle.gates.specs.Rows.{told_row}
use Rattle.gates.specs.Telling.{answered}
use Rattle.reading.specs.declared.Stretch.{Stretch}
use Rattle.walk.specs.declared.due.Walk.{Walk}
use Rattle.reading.specs.Reading.{stop, stretches, bytes_of, told}
use Rattle.reading.specs.Exactly.{ToldExactly}
use Rattle.volume.specs.InPlace.{AllInPlace}
use Rattle.volume.specs.Meaning.{PlainMeans}
use Rattle.volume.specs.Sense.{Sense}
use Rattle.ask.specs.declared.places.Where.TheVariants.{At}
use Rattle.ask.specs.Answers.{RowTold}
use Rattle.ask.specs.Counted.{Counted}
use Rattle.ask.specs.Places.{where_is}
use Rattle.ask.specs.Shown.{Shown}
use Rattle.ask.specs.Sound.{Sound}
use Rattle.index.specs.Answer.{right_for}
use Rattle.index.specs.Index.{index_of}
use Rattle.hope.specs.Meaning.{Means}
use Rattle.writer.specs.Block.{Block}
use Rattle.writer.specs.Trips.{Fits, TakenWhen, Keeps, CopyOf, SameBlock, Run, SameBlocks, SamePlace, ReadBack}
use Rattle.demands.specs.Cuts.{Cuts}
use Rattle.demands.specs.Decoded.{DecodedRows}
use Rattle.demands.specs.Whys.{Whys}
use Rattle.demands.specs.Floats.{Floats}
use Rattle.demands.specs.Hopes.{Hopes}
use Rattle.demands.specs.Imports.{Imports}
use Rattle.demands.specs.Mends.{Mends}
use Rattle.demands.specs.Picks.{Picks}
use Rattle.demands.specs.Engine.{ByIndex}
use Rattle.demands.specs.States.{StateRule}
use Rattle.demands.specs.Wedges.{Wedges}

-- What a volume is, `volume/Volume` says by the place of each block in the structure, with no word of how a file is read.
-- `Means` (`hope/Meaning`): a file is the bytes of a volume exactly when reading tells that it is complete (`reads`,
-- `holds`), and of one volume alone (`once`), whose radials, in order, are the whole ones of the file, with these places and
-- cuts. Of any file, what is told is what its accepted blocks, as the beginning of a volume that they are, and the bytes
-- behind them say (`tells`, `accepts`), and these blocks are one alone (`one`). `PlainMeans` (`volume/Meaning`) is the same of the plain
-- reading, which asks every rule but that of hope (document 02, #110).
-- `Sense` (`volume/Sense`): what document 01 says of a volume in other words: the length of data is the sum of 32 plus length, a
-- cut has two radials at least, no radial has one type twice
pub record Volumes : Type 0 where
  pub means : Means
  pub plain : PlainMeans
  pub sense : Sense

-- a block is refused exactly when one of its rules does not hold, by the first broken clause of the first such rule; it is
-- fine exactly when each of them holds. A file is refused exactly when that is so of the block that is due, or bytes follow
-- a complete volume, or that block keeps its rules and no hope is left behind it (`Hopes`); open exactly when that block is not all
-- there, by what is missing of it
pub record RefusedExactly : Type 0 where
  pub fine : (rules : List Rule) → verdict rules ≡ (Ok tt) → Hold rules
  pub holds : (rules : List Rule) → Hold rules → verdict rules ≡ (Ok tt)
  pub refused : (rules : List Rule) (c : Clause) → verdict rules ≡ Err c → First rules c
  pub first : (rules : List Rule) (c : Clause) → First rules c → verdict rules ≡ Err c
  pub files : (f : List ℕ) → ToldExactly f

-- what reading accepts as a whole radial is a header that keeps its rules and moments that tile it, each keeping its own: against
-- the file's own task, the true counts and the masks of the radial's own cut, up to where its length of data ends. An answered
-- moment's scale and offset are its header's own, its data are all there, and it has length over bin length gates
pub record WholeRadials : Type 0 where
  pub radials : (f : List ℕ) → Bytes f → AllInPlace f [] (stretches f)
  pub moments : (f : List ℕ) (n t : ℕ) (s : Stretch) (p : ℕ) → where_is f n t ≡ At s p → Sound (bytes_of f s) p

-- every type is a measurement but 14 (HCL) and 15 (CF). The five special codes stay five for every type, with nothing but
-- their kind. Where the type is a measurement, any other code is a value, of kind 5: exactly (code less offset) over scale, whose
-- float is one quotient of two floats that are exactly these two whole numbers, for every code, offset and scale of 16 bits, a
-- scale of 0 aside (`Floats`). Where it is none, any other code is a class, of kind 6, that carries the raw code, with zeros
-- beside it as beside a special code. There are no other values and no other classes
pub record Codes : Type 0 where
  pub types : (t : ℕ) → (is_measurement t ≡ false → (t ≡ 14) ⊎ (t ≡ 15)) × ((t ≡ 14) ⊎ (t ≡ 15) → is_measurement t ≡ false)
  pub names : (c : Coding) → map (gate_of c) (0 ∷ 1 ∷ 2 ∷ 3 ∷ 4 ∷ []) ≡ BelowThreshold ∷ RangeFolded ∷ NotScanned ∷ Unknown ∷ Reserved ∷ []
  pub special : (c : Coding) (code : ℕ) → code < 5 → values_of (told_of c code) ≡ record { gate = (code, nothing); difference = pos 0; scale = 0; hundredths = pos 0 }
  pub value : (c : Coding) (code : ℕ) → is_measurement c.data_type ≡ true → 5 ≤ code
      → told_of c code ≡ record { gate = Value (float_of c code); difference = difference_of c code; scale = c.scale; hundredths = hundredths_of c code }
  pub class : (c : Coding) (code : ℕ) → is_measurement c.data_type ≡ false → 5 ≤ code
      → told_of c code ≡ record { gate = Class code; difference = pos 0; scale = 0; hundredths = pos 0 }
  pub value-kind : (c : Coding) (code : ℕ)
      → (kind_of c code ≡ 5 → (is_measurement c.data_type ≡ true) × (5 ≤ code)) × (is_measurement c.data_type ≡ true → 5 ≤ code → kind_of c code ≡ 5)
  pub class-kind : (c : Coding) (code : ℕ)
      → (kind_of c code ≡ 6 → (is_measurement c.data_type ≡ false) × (5 ≤ code)) × (is_measurement c.data_type ≡ false → 5 ≤ code → kind_of c code ≡ 6)
  pub float : (c : Coding) (code : ℕ) → code < 65536 → c.offset < 65536 → 1 ≤ c.scale → c.scale < 65536 → Lossless c code
  pub hundredths : (c : Coding) (code : ℕ) → 0 < c.scale → Nearest (difference_of c code) c.scale (hundredths_of c code)

-- a row shows of each gate the kind and the hundredths that the gate question answers, and it shows them all
abbrev pub Rows : Type 0
Rows = (f : List ℕ) (n t m : ℕ) (k k' : List ℕ) (h h' : List ℤ) (r : Result ℕ Refusal) → told_row r ≡ answered m → RowTold f (where_is f n t) k h r k' h' → Shown f n t m k' h'

-- a tally counts the radials of its cut and wedge, and what the gate question answers of them, each gate once, by its kind: the
-- seven counts of a radial add up to its gates, and those of a tally to the gates of its radials; a class is counted as a class alone
abbrev pub Tallies : Type 0
Tallies = (f : List ℕ) (cut t : ℕ) (w : Wedge) → Counted f cut t w

-- a record written and read again is the same record; a block's bytes read and written again are the same bytes
pub record Trips : Type 0 where
  pub generic : (r : Generic) → GenericFits r → generic_of (generic_bytes r) ≡ r
  pub site : (r : Site) → SiteFits r → site_of (site_bytes r) ≡ r
  pub task : (r : Task) → TaskFits r → task_of (task_bytes r) ≡ r
  pub cut : (r : Cut) → CutFits r → cut_of (cut_bytes r) ≡ r
  pub radial : (r : Radial) → RadialFits r → radial_of (radial_bytes r) ≡ r
  pub moment : (r : Moment) → MomentFits r → moment_of (moment_bytes r) ≡ r
  pub generic-bytes : (b : List ℕ) → Bytes b → length b ≡ generic_size → generic_bytes (generic_of b) ≡ b
  pub site-bytes : (b : List ℕ) → Bytes b → length b ≡ site_size → site_bytes (site_of b) ≡ b
  pub task-bytes : (b : List ℕ) → Bytes b → length b ≡ task_size → task_bytes (task_of b) ≡ b
  pub cut-bytes : (b : List ℕ) → Bytes b → length b ≡ cut_size → cut_bytes (cut_of b) ≡ b
  pub radial-bytes : (b : List ℕ) → Bytes b → length b ≡ radial_size → radial_bytes (radial_of b) ≡ b
  pub moment-bytes : (b : List ℕ) → Bytes b → length b ≡ moment_size → moment_bytes (moment_of b) ≡ b

-- writing takes a block exactly when state and room agree, reading would take it there, and the room suffices; a block
-- taken keeps agreement. The blocks that reading accepts, put one after the other, give the same bytes; a block put and read
-- again is the same block; what a fresh state and any blocks taken have written is complete, or open at a block's end, and
-- reading it finds those blocks. A block that the table's checks refuse, or 40, the reader refuses there with that number and place
pub record Writing : Type 0 where
  pub exactly : (b : Block) → Fits b → (w : Walk) (room : List ℕ) → TakenWhen b w room
  pub keeps : (b : Block) → Fits b → (w : Walk) (room : List ℕ) → Keeps b w room
  pub copies : (f room : List ℕ) → Bytes f → (stop f).at ≤ length room → CopyOf f room
  pub again : (b : Block) → Fits b → (w : Walk) (room : List ℕ) → SameBlock b w room
  pub runs : {bs : List Block} {w : Walk} {room : List ℕ} → Run bs w room → ReadBack w room
  pub blocks : {bs : List Block} {w : Walk} {room : List ℕ} → Run bs w room → SameBlocks bs w room
  pub place : (b : Block) → Fits b → (w : Walk) (room : List ℕ) → SamePlace b w room

-- an index is right for a file exactly when the file is complete and the bytes are its index; what the bytes are, in two forms, is in
-- `Cuts`
pub record IndexRight : Type 0 where
  pub only : (f x : List ℕ) → right_for f x ≡ true → (told f ≡ 0 ∷ []) × (index_of f ≡ x)
  pub when : (f x : List ℕ) → told f ≡ 0 ∷ [] → index_of f ≡ x → right_for f x ≡ true

pub record DemandTwo : Type 0 where
  pub volumes : Volumes
  pub exactly : RefusedExactly
  -- open means hope (`Hopes`)
  pub hopes : Hopes
  -- which states are allowed where, as a table (`States`)
  pub states : StateRule
  -- up to 256 cuts: how far the counts go, and the index in its two forms (`Cuts`)
  pub cuts : Cuts
  -- the angles' tests on the bits, and the one float operation (`Floats`)
  pub floats : Floats
  pub radials : WholeRadials
  pub codes : Codes
  pub rows : Rows
  -- a row that somebody decoded, against the file's own (`Decoded`)
  pub decoded : DecodedRows
  -- why a gate is what it is, and why a file is refused (`Whys`)
  pub whys : Whys
  pub tallies : Tallies
  -- what lies in a wedge, and that a wedge and the wedge back add up to the full tally (`Wedges`)
  pub wedges : Wedges
  pub trips : Trips
  pub writing : Writing
  -- what an import of an old shelf brings over, and in which order it is refused (`Imports`)
  pub imports : Imports
  -- what a broken volume is closed to, and what the report says of it (`Mends`)
  pub mends : Mends
  -- what a volume with the wanted moments only is, and what is answered of it (`Picks`)
  pub picks : Picks
  -- what is answered of a whole list of questions, by an index in either form (`Engine`)
  pub by_index : ByIndex
  pub index : IndexRight

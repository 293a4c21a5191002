-- The listing of a file: its lines as their numbers, and the way from line to line. The places cited are document 01's.
use Rattle.std.specs.Prelude.{ℕ, zero, suc, ◌+◌, Option, Some, None}
use mathlib.Core.List.{List, [], ◌∷◌, map, flat_map}
use Rattle.moments.specs.declared.Place.{Place}
use Rattle.gates.specs.Codes.{gates_in}
use Rattle.moment.specs.Moment.{moment_at, moment_size}
use Rattle.radial.specs.Radial.{radial_at}
use Rattle.moments.specs.Moments.{first_of, moments_of, ahead_of}
use Rattle.walk.specs.declared.due.Walk.{Walk}
use Rattle.reading.specs.declared.Onward.{Onward}
use Rattle.reading.specs.declared.Onward.TheVariants.{Whole, Stopped}
use Rattle.reading.specs.declared.Stretch.{Stretch}
use Rattle.walk.specs.Due.{at_start}
use Rattle.reading.specs.Reading.{stretches, advance_of, bytes_of}
use Rattle.listing.specs.declared.Cursor.{Cursor}
use Rattle.listing.specs.declared.Line.{Line}
use Rattle.listing.specs.declared.Line.TheVariants as line

-- the line of a radial with stretch s and bytes b ("Numbers to try", radial line); b begins with the radial's header
abbrev pub radial_line : List ℕ → Stretch → Line
radial_line b s = line.Radial (radial_at b 0).sequence s.start (radial_at b 0).state s.cut

-- the line of a moment with its header at `at` in the bytes b of a radial at `start` ("Numbers to try", moment line)
abbrev pub moment_line : ℕ → List ℕ → ℕ → Line
moment_line start b at =
    line.Moment (moment_at b at).data_type (start + at + moment_size) (gates_in (moment_at b at).length (moment_at b at).bin_length)

-- the lines of some moments of a radial ("Numbers to try": in file order)
abbrev pub moment_lines : List ℕ → Stretch → List ℕ → List Line
moment_lines f s ats = map (moment_line s.start (bytes_of f s)) ats

-- a whole radial's lines, its own and then those of all its moments ("Numbers to try")
abbrev pub lines_in : List ℕ → Stretch → List Line
lines_in f s = radial_line (bytes_of f s) s ∷ moment_lines f s (moments_of (bytes_of f s))

-- the lines of a file, whatever its verdict: those of every whole radial ("Numbers to try")
abbrev pub lines_of : List ℕ → List Line
lines_of f = flat_map (lines_in f) (stretches f)

-- before the first line, with no radial present ("Numbers to try")
abbrev pub at_begin : Cursor
at_begin = record { walk = at_start; stretch = record { start = 0; end = 0; cut = 0 }; place = record { todo = 0; at = 0 } }

-- a radial's line, with all its moments to come, or the end ("Numbers to try")
unfoldable pub radial_or : List ℕ → Onward → Option (Line × Cursor)
radial_or f (Whole s n) = Some (radial_line (bytes_of f s) s, record { walk = n; stretch = s; place = first_of (bytes_of f s) })
radial_or f (Stopped v) = None

-- on to the next whole radial ("Numbers to try")
abbrev pub radial_next : List ℕ → Walk → Option (Line × Cursor)
radial_next f w = radial_or f (advance_of f w)

-- the next moment's line, and behind the last of the radial the next radial's ("Numbers to try")
unfoldable pub moment_or : List ℕ → Cursor → Option (ℕ × Place) → Option (Line × Cursor)
moment_or f c (Some (at, p)) =
    Some (moment_line c.stretch.start (bytes_of f c.stretch) at, record { walk = c.walk; stretch = c.stretch; place = p })
moment_or f c None = radial_next f c.walk

-- the line at a cursor, and the cursor behind it ("Numbers to try")
abbrev pub line_of : List ℕ → Cursor → Option (Line × Cursor)
line_of f c = moment_or f c (ahead_of (bytes_of f c.stretch) c.place)

-- a line, and what is listed from the cursor behind it ("Numbers to try")
unfoldable pub behind : Option (Line × Cursor) → (Cursor → List Line) → List Line
behind (Some (l, n)) rest = l ∷ rest n
behind None rest = []

-- k lines from a cursor on, or as many as there are ("Numbers to try")
unfoldable pub listed : ℕ → List ℕ → Cursor → List Line
listed zero f c = []
listed (suc k) f c = behind (line_of f c) (λ n. listed k f n)

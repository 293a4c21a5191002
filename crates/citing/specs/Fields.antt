-- A field of a file that is cited (document 02, #104): where it stands, how many bytes it has, and what stands there.
use Rattle.std.specs.Prelude.{ℕ, ◌+◌, ◌≤◌, List, length, take, drop}
use Rattle.le.specs.Le.{le}
use Rattle.citing.specs.declared.Field.{Field}

-- the number at a place, without sign, its lowest byte first
abbrev pub field_at : List ℕ → ℕ → ℕ → Field
field_at f place size = record { place = place; size = size; found = le size f place }

-- the bytes of a field in a file, as many as the file has there
abbrev pub bytes_in : List ℕ → Field → List ℕ
bytes_in f x = take x.size (drop x.place f)

-- all of its bytes are there
abbrev pub InFile : List ℕ → Field → Type 0
InFile f x = x.place + x.size ≤ length f

-- the number of some bytes
abbrev pub number_of : List ℕ → ℕ
number_of b = le (length b) b 0

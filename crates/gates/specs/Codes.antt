-- The codes of a moment's data (document 01, "What reading tells").
use Rattle.std.specs.Prelude.{ℕ, ◌/◌, cond, List, eqb, length}
use Rattle.le.specs.Le.{le, items}

-- a code's bytes: 1 or 2 in an accepted header (refusal 23); any other bin length counts as 2
abbrev pub width_of : ℕ → ℕ
width_of bin = cond (eqb bin 1) 1 2

-- the gates of a moment: length over bin length. No accepted header has bin length 0 (refusal 23), and over 0 it is 0
abbrev pub gates_in : ℕ → ℕ → ℕ
gates_in length bin = length / bin

-- the codes in order, the low byte first; a last single byte of two-byte bins is no code
unfoldable pub codes_of : ℕ → List ℕ → List ℕ
codes_of bin bytes = items (le (width_of bin)) (width_of bin) (gates_in (length bytes) (width_of bin)) bytes 0

-- Tiling (document 01): how many moments a radial has, and how they fill its data (numbers 19 and 24).
use Rattle.std.specs.Prelude.{Bool, cond, List, [], ◌∷◌, ℕ, ◌+◌, ◌-◌, ◌*◌, ◌%◌, eqb, leb, pos}
use Rattle.le.specs.Le.{int}
use Rattle.rules.specs.Check.{every}
use Rattle.rules.specs.Ranges.{among}

-- the bytes of a moment header, and the least that a moment takes: its header and a byte of data
abbrev pub moment_header : ℕ
moment_header = 32

abbrev pub least_moment : ℕ
least_moment = moment_header + 1

-- number 19: 1..64 moments, and 33 times as many bytes are there for them
unfoldable pub moment_number_clauses : ℕ → ℕ → List Bool
moment_number_clauses left k = among (pos 1) (pos 64) (int k) ∷ leb (least_moment * k) left ∷ []

abbrev pub moment_number_ok : ℕ → ℕ → Bool
moment_number_ok left k = every (moment_number_clauses left k)

-- a moment that isn't the last leaves at least 33 bytes for each one after it; the last leaves none
unfoldable pub tiles : ℕ → ℕ → ℕ → Bool
tiles todo left n = cond (leb todo 1) (eqb (moment_header + n) left) (leb (moment_header + n + least_moment * (todo - 1)) left)

-- number 24: the most bytes that a moment's data has
abbrev pub most_length : ℕ
most_length = 32768

-- number 24: a length 1..32,768, a multiple of bin length, right for the tiling
unfoldable pub length_clauses : ℕ → ℕ → ℕ → ℕ → List Bool
length_clauses todo left bin n = among (pos 1) (pos most_length) (int n) ∷ eqb (n % bin) 0 ∷ tiles todo left n ∷ []

abbrev pub length_ok : ℕ → ℕ → ℕ → ℕ → Bool
length_ok todo left bin n = every (length_clauses todo left bin n)

-- Day and milliseconds of an old radial as seconds and microseconds (document 02, #102). Day 1 is 1 January 1970.
use Rattle.std.specs.Prelude.{ℕ, ◌+◌, ◌-◌, ◌*◌, ◌/◌, ◌%◌, Bool, List, [], ◌∷◌, leb, ltb}
use Rattle.rules.specs.Check.{every}

-- 86,400 for each day after day 1, and the whole seconds of the milliseconds (document 02, #102)
abbrev pub seconds_of : ℕ → ℕ → ℕ
seconds_of day ms = 86400 * (day - 1) + ms / 1000

-- the milliseconds that are left, a thousand microseconds each (document 02, #102)
abbrev pub micros_of : ℕ → ℕ
micros_of ms = ms % 1000 * 1000

-- number 62 (document 02, #102): a day that is not 0, milliseconds under 86,400,000, seconds that an INT holds
unfoldable pub time_clauses : ℕ → ℕ → List Bool
time_clauses day ms = leb 1 day ∷ ltb ms 86400000 ∷ leb (seconds_of day ms) 2147483647 ∷ []

abbrev pub time_ok : ℕ → ℕ → Bool
time_ok day ms = every (time_clauses day ms)

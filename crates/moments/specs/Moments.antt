-- The moments of one radial, in that radial's own stretch b of the file (document 01, "What reading tells").
-- A moment is known by the place `at` of its header in b: the header is `moment_at b at`, and its data stand at `at + 32`.
use Rattle.std.specs.Prelude.{ℕ, zero, suc, ◌+◌, cond, List, [], ◌∷◌, eqb, leb, length, take, drop, Option, Some, None}
use Rattle.moment.specs.Moment.{moment_at, moment_size}
use Rattle.radial.specs.Radial.{radial_at, radial_size}
use Rattle.moments.specs.declared.Place.{Place}

-- where the header after the one at `at` stands ("Tiling")
abbrev pub after : List ℕ → ℕ → ℕ
after b at = at + moment_size + (moment_at b at).length

-- k moments from place `at` on ("Blocks"), up to the first whose header is not all in b
unfoldable pub moments_from : ℕ → List ℕ → ℕ → List ℕ
moments_from zero b at = []
moments_from (suc k) b at = cond (leb (at + moment_size) (length b)) (at ∷ moments_from k b (after b at)) []

-- the moments still to come ("Blocks")
abbrev pub moments_at : List ℕ → Place → List ℕ
moments_at b p = moments_from p.todo b p.at

-- all K are to come behind the radial header ("Blocks")
abbrev pub first_of : List ℕ → Place
first_of b = record { todo = (radial_at b 0).moment_number; at = radial_size }

-- the moments of the radial, in file order ("Blocks")
abbrev pub moments_of : List ℕ → List ℕ
moments_of b = moments_at b (first_of b)

-- the next of k moments from place `at` on, and the place to go on from ("Tiling")
unfoldable pub ahead_from : ℕ → List ℕ → ℕ → Option (ℕ × Place)
ahead_from zero b at = None
ahead_from (suc k) b at = cond (leb (at + moment_size) (length b)) (Some (at, record { todo = k; at = after b at })) None

-- the next of the moments still to come ("Tiling")
abbrev pub ahead_of : List ℕ → Place → Option (ℕ × Place)
ahead_of b p = ahead_from p.todo b p.at

-- the first of some moments that has type t ("What reading tells")
unfoldable pub find_in : List ℕ → ℕ → List ℕ → Option ℕ
find_in b t [] = None
find_in b t (at ∷ rest) = cond (eqb (moment_at b at).data_type t) (Some at) (find_in b t rest)

-- the part of b that holds a moment's data ("What reading tells"): length bytes behind its header, or what b has of them
unfoldable pub data_at : List ℕ → ℕ → List ℕ
data_at b at = take (moment_at b at).length (drop (at + moment_size) b)

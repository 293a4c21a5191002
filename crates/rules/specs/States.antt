-- Which radial states are allowed where, and how many cuts a task may have (document 01, "States" and number 8; document 02,
-- #103: type 5 in several layers, and #106: up to 256 cuts).
use Rattle.std.specs.Prelude.{Bool, ◌||◌, cond, List, [], ◌∷◌, ℕ, eqb, leb, ltb, pos}
use Rattle.le.specs.Le.{int}
use Rattle.rules.specs.Check.{every}
use Rattle.rules.specs.Ranges.{among, is}

-- scan types 2 and 5 of table 2-4, an RHI of one layer and of several: in each, one azimuth, the elevation turned
unfoldable pub rhi : ℕ → Bool
rhi scan = is 2 (int scan) || is 5 (int scan)

-- the most cuts of any task, and of one by its scan type: 1 while that is 2
abbrev pub most_of_any : ℕ
most_of_any = 256

unfoldable pub most_cuts : ℕ → ℕ
most_cuts scan = cond (is 2 (int scan)) 1 most_of_any

-- number 8: cut number 1..256, and 1 while scan type is 2
unfoldable pub cut_number_clauses : ℕ → ℕ → List Bool
cut_number_clauses scan n = among (pos 1) (pos most_of_any) (int n) ∷ among (pos 1) (pos (most_cuts scan)) (int n) ∷ []

abbrev pub cut_number_ok : ℕ → ℕ → Bool
cut_number_ok scan n = every (cut_number_clauses scan n)

-- the state of a cut's first radial: 5 in each layer of an RHI, else 3 in the volume's first cut and 0 in a later one
unfoldable pub opening : ℕ → ℕ → ℕ
opening scan cut = cond (rhi scan) 5 (cond (leb cut 1) 3 0)

-- the state that closes a cut: 6 in each layer of an RHI, else 2 before the last and 4 in the last
unfoldable pub closing : ℕ → ℕ → ℕ → ℕ
closing scan cuts cut = cond (rhi scan) 6 (cond (ltb cut cuts) 2 4)

-- number 10: a cut's first radial opens it; any other has 1 or closes it
unfoldable pub state_ok : ℕ → ℕ → ℕ → ℕ → ℕ → Bool
state_ok scan cuts cut in_cut s =
    cond (eqb in_cut 0)
    (is (opening scan cut) (int s))
    (is 1 (int s) || is (closing scan cuts cut) (int s))

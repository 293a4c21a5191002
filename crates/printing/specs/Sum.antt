-- The entries of a room in one number, which a change of any one of them changes: what the programs show of a room that is too long to print.
use Rattle.std.specs.Prelude.{ℕ, ◌+◌, ◌*◌, ◌%◌, ◌^◌, List, [], ◌∷◌}

abbrev pub mixed_of : ℕ → ℕ → ℕ
mixed_of n entry = (31 * n + entry) % 2 ^ 32

unfoldable pub sum_from : ℕ → List ℕ → ℕ
sum_from n [] = n
sum_from n (b ∷ bs) = sum_from (mixed_of n b) bs

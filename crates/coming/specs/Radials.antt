-- The radials that a volume still has to have, and whether they can come (document 02, #110): two at the least in each cut (document 01,
-- "States"), and no more than a cut and a volume may have (numbers 12 and 13; document 02, #106).
use Rattle.std.specs.Prelude.{Bool, ◌&&◌, cond, List, [], ◌∷◌, ◌≡◌, ℕ, ◌+◌, ◌-◌, ◌*◌, ◌≤◌, eqb, leb, ltb, length}
use Rattle.rules.specs.Ranges.{most_sequence, most_radials}

-- ---- what it means: numbers of radials exist, for the present cut and for each later one

-- every cut of a list has at least two radials, and no more than a cut may have
abbrev pub Fair : List ℕ → Type 0
Fair [] = Unit {0}
Fair (n ∷ l) = (2 ≤ n) × (n ≤ most_radials) × Fair l

abbrev pub sum : List ℕ → ℕ
sum [] = 0
sum (n ∷ l) = n + sum l

-- a radial is due in cut `cut` of `cuts`, which has `in_cut` so far, and the volume `whole`: how many come in this cut, and in each later one
pub record Schedule (cuts cut in_cut whole : ℕ) : Type 0 where
  pub here : ℕ
  pub later : List ℕ
  pub due : 1 ≤ here
  pub two : 2 ≤ in_cut + here
  pub most : in_cut + here ≤ most_radials
  pub count : length later ≡ cuts - cut
  pub fair : Fair later
  pub room : whole + here + sum later ≤ most_sequence

-- ---- how it is decided: by the fewest that can come

-- where a radial is due
unfoldable pub radials_can : ℕ → ℕ → ℕ → ℕ → Bool
radials_can cuts cut in_cut whole = ltb in_cut most_radials && leb (whole + cond (eqb in_cut 0) 2 1 + 2 * (cuts - cut)) most_sequence

-- behind a radial header: by its number in the cut, its sequence, and whether its state closes the cut
unfoldable pub radials_can_after : ℕ → ℕ → Bool → ℕ → ℕ → Bool
radials_can_after cuts cut closes number sequence =
    cond closes (leb (sequence + 2 * (cuts - cut)) most_sequence) (ltb number most_radials && leb (sequence + 1 + 2 * (cuts - cut)) most_sequence)

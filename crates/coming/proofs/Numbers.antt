-- The numbers to try, by computing the test: each cause from both sides of its boundary.
use mathlib.Core.Path.{◌≡◌, refl}
use mathlib.Core.Bool.{true, false}
use mathlib.Core.List.{[], ◌∷◌, map}
use Prim.Native.Nat.{ℕ}
use lib.Count.{ones}
use Rattle.coming.specs.Moments.{fills, can_fill, singles, doubles}

record Try : Type 0 where
  mask : ℕ
  sizes : ℕ
  seen : ℕ
  todo : ℕ
  rest : ℕ

try : ℕ → ℕ → ℕ → ℕ → ℕ → Try
try m s n k r = record { mask = m; sizes = s; seen = n; todo = k; rest = r }

-- types 1, 2, 3, of which 2 and 3 take two bytes a gate: as many as there are and one more; 2 K - n1 and one less; 32,768 K and one more;
-- without type 1, odd; type 1 seen before; none to come
worked : map (λ (t : Try). fills t.mask t.sizes t.seen t.todo t.rest)
    (try 7 6 0 3 5 ∷ try 7 6 0 4 9 ∷ try 7 6 0 3 4 ∷ try 7 6 0 3 98304 ∷ try 7 6 0 3 98305
    ∷ try 6 6 0 2 4 ∷ try 6 6 0 2 5 ∷ try 7 6 0 2 5 ∷ try 7 6 1 2 5 ∷ try 7 6 1 2 4 ∷ try 7 6 7 0 0 ∷ try 7 6 0 0 1 ∷ [])
    ≡ true ∷ false ∷ false ∷ true ∷ false
    ∷ true ∷ false ∷ true ∷ false ∷ true ∷ true ∷ false ∷ []
unfolding fills can_fill singles doubles ones try
worked = refl

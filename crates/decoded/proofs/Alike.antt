-- How many entries two lists have alike from their fronts, for any test of an entry. Assumes nothing.
use mathlib.Core.Bool.{Bool, true, false}
use mathlib.Core.List.{List, [], ◌∷◌, ◌++◌}
use mathlib.Core.Path.{◌≡◌, refl, ap, ap₂, ◌∙◌}
use Prim.Native.Nat.{ℕ, zero, suc, ◌≤◌, ◌<◌, min}
use native.Mathlib.Omega.{arith}
use lib.ListN.{length, get_or, take}
use Rattle.decoded.specs.Decoded.{alike}

pub by : {P : Type 0} (t : Bool) → (t ≡ true → P) → (t ≡ false → P) → P
by true f g = f refl
by false f g = g refl

module _ {A : Type 0} (test : A → A → Bool) where
  -- as its last clause says, by the test of the two entries
  step-yes : (x y : A) (xs ys : List A) → test x y ≡ true → alike test (x ∷ xs) (y ∷ ys) ≡ suc (alike test xs ys)
  unfolding alike
  step-yes x y xs ys e = rw e

  step-no : (x y : A) (xs ys : List A) → test x y ≡ false → alike test (x ∷ xs) (y ∷ ys) ≡ 0
  unfolding alike
  step-no x y xs ys e = rw e

  -- no more than either has
  pub within : (xs ys : List A) → (alike test xs ys ≤ length xs) × (alike test xs ys ≤ length ys)
  unfolding alike
  within [] ys = (omega arith, omega arith)
  within (x ∷ xs) [] = (omega arith, omega arith)
  within (x ∷ xs) (y ∷ ys) =
      by (test x y)
      (λ e. let w = within xs ys in let l = w.0 in let m = w.1 in rw (step-yes x y xs ys e) (omega arith, omega arith))
      (λ e. rw (step-no x y xs ys e) (omega arith, omega arith))

  module _ (p q : A) where
    -- before that number, every entry passes the test. What would be read past an end does not matter
    pub passes : (xs ys : List A) (i : ℕ) → i < alike test xs ys → test (get_or xs i p) (get_or ys i q) ≡ true
    unfolding alike
    passes [] ys i h = absurd (omega arith)
    passes (x ∷ xs) [] i h = absurd (omega arith)
    passes (x ∷ xs) (y ∷ ys) zero h = by (test x y) (λ e. e) (λ e. absurd (let s = step-no x y xs ys e in omega arith))
    passes (x ∷ xs) (y ∷ ys) (suc i) h =
        by (test x y)
        (λ e. passes xs ys i (let s = step-yes x y xs ys e in omega arith))
        (λ e. absurd (let s = step-no x y xs ys e in omega arith))

    -- and there it does not, where both have one
    pub fails-there : (xs ys : List A) → alike test xs ys < length xs → alike test xs ys < length ys
        → test (get_or xs (alike test xs ys) p) (get_or ys (alike test xs ys) q) ≡ false
    unfolding alike
    fails-there [] ys h k = absurd (omega arith)
    fails-there (x ∷ xs) [] h k = absurd (omega arith)
    fails-there (x ∷ xs) (y ∷ ys) h k =
        by (test x y)
        (λ e. let s = step-yes x y xs ys e in rw s (fails-there xs ys (omega arith) (omega arith)))
        (λ e. rw (step-no x y xs ys e) e)

  -- two lists whose entries all pass a test that only equal ones pass are one
  pub whole : ((x y : A) → test x y ≡ true → x ≡ y) → (xs ys : List A) → alike test xs ys ≡ length xs → length ys ≡ length xs → xs ≡ ys
  unfolding alike
  whole only [] [] h k = refl
  whole only [] (y ∷ ys) h k = absurd (omega arith)
  whole only (x ∷ xs) [] h k = absurd (omega arith)
  whole only (x ∷ xs) (y ∷ ys) h k =
      by (test x y)
      (λ e. let s = step-yes x y xs ys e in ap₂ (λ (a : A) (rest : List A). a ∷ rest) (only x y e) (whole only xs ys (omega arith) (omega arith)))
      (λ e. absurd (let s = step-no x y xs ys e in omega arith))

  -- a list and one that goes on behind it, or ends before it
  pub longer : ((x : A) → test x x ≡ true) → (xs more : List A) → alike test xs (xs ++ more) ≡ length xs
  unfolding alike
  longer own [] more = refl
  longer own (x ∷ xs) more = step-yes x x xs (xs ++ more) (own x) ∙ ap suc (longer own xs more)

  pub shorter : ((x : A) → test x x ≡ true) → (xs : List A) (n : ℕ) → alike test xs (take n xs) ≡ min n (length xs)
  unfolding alike
  shorter own [] n = omega arith
  shorter own (x ∷ xs) zero = omega arith
  shorter own (x ∷ xs) (suc n) = step-yes x x xs (take n xs) (own x) ∙ ap suc (shorter own xs n) ∙ omega arith

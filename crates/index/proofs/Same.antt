-- The test of two lists holds exactly of equal ones, by induction; so an index is right exactly when the file is complete
-- and the bytes are its index. An answer's numbers tell the answer. Assumes nothing.
use Prim.Native.Nat.{ℕ}
use mathlib.Core.Bool.{true, false}
use mathlib.Core.List.{List, [], ◌∷◌}
use mathlib.Core.Path.{◌≡◌, refl, ap, ap₂}
use borrow.Author.Tests.{eq-eqb, eqb-true}
use lib.Dec.{eqb}
use Rattle.std.specs.Prelude.{Result, Ok, Err}
use Rattle.refusal.specs.declared.Refusal.{Refusal}
use Rattle.refusal.proofs.Numbers.{number-one}
use Rattle.le.proofs.Tests.{both, fails}
use Rattle.reading.specs.Reading.{told}
use Rattle.index.specs.Index.{index_of}
use Rattle.index.specs.Answer.{same, complete, told_index, right_for}

-- lists that pass the test are equal, and the other way round
pub same-is : (a b : List ℕ) → same a b ≡ true → a ≡ b
unfolding same
same-is [] [] e = refl
same-is [] (y ∷ ys) e = cc
same-is (x ∷ xs) [] e = cc
same-is (x ∷ xs) (y ∷ ys) e = ap₂ (λ (n : ℕ) (l : List ℕ). n ∷ l) (eqb-true x y (both (eqb x y) (same xs ys) e).0) (same-is xs ys (both (eqb x y) (same xs ys) e).1)

same_self : (a : List ℕ) → same a a ≡ true
unfolding same
same_self [] = refl
same_self (x ∷ xs) = rw (eq-eqb x x refl, same_self xs)

pub is_same : (a b : List ℕ) → a ≡ b → same a b ≡ true
is_same a b e = rw e (same_self b)

pub not_same : (a b : List ℕ) → (a ≡ b → ⊥) → same a b ≡ false
not_same a b n = fails (same a b) (λ t. n (same-is a b t))

-- an index is right exactly when the file is complete and the bytes are its index
pub right-only : (f x : List ℕ) → right_for f x ≡ true → (told f ≡ 0 ∷ []) × (index_of f ≡ x)
unfolding complete right_for
right-only f x e =
    let b = both (same (told f) (0 ∷ [])) (same (index_of f) x) e in
    (same-is (told f) (0 ∷ []) b.0, same-is (index_of f) x b.1)

pub right-when : (f x : List ℕ) → told f ≡ 0 ∷ [] → index_of f ≡ x → right_for f x ≡ true
unfolding complete right_for
right-when f x t e = rw (is_same (told f) (0 ∷ []) t, is_same (index_of f) x e)

-- an answer's numbers are those of no other answer
pub told-once : (a b : Result ℕ Refusal) → told_index a ≡ told_index b → a ≡ b
unfolding told_index
told-once (Ok m) (Ok n) e = cc
told-once (Ok m) (Err n) e = cc
told-once (Err m) (Ok n) e = cc
told-once (Err m) (Err n) e = ap Err (number-one m n cc)

-- Runs put into a room one behind the other: what is still to be put there makes the room what it is to be. Assumes nothing.
use Prim.Native.Nat.{ℕ, ◌+◌, ◌≤◌}
use native.Mathlib.Omega.{arith}
use mathlib.Core.Bool.{Bool, true, false, cond}
use mathlib.Core.List.{List, [], ◌++◌, append_assoc}
use mathlib.Core.Path.{◌≡◌, refl, sym, ap, ap₂, ◌∙◌}
use borrow.Author.Tests.{leb-true}
use lib.Dec.{leb}
use lib.ListN.{length, take, drop, length-append}
use lib.Seq.{paste-zero, length-take-le, take-append-add, take-append-le, drop-append-add, drop-append-le}
use Rattle.le.specs.Le.{patch, stored}
use Rattle.le.proofs.Laws.{length-patch, patch-join}

-- the bytes x, put at place `at` of a room, make it the goal
pub record Still (room : List ℕ) (at : ℕ) (x goal : List ℕ) : Type 0 where
  pub is : patch room at x ≡ goal
  pub fits : at + length x ≤ length room

-- nothing is put yet
pub still-all : (room : List ℕ) (at : ℕ) (x : List ℕ) → at + length x ≤ length room → Still room at x (patch room at x)
still-all room at x h = record { is = refl; fits = h }

-- the first of them are put
pub still-rest : {room then goal : List ℕ} {at : ℕ} (n : ℕ) (x y : List ℕ) → Still room at (x ++ y) goal → length x ≡ n → then ≡ patch room at x → Still then (at + n) y goal
still-rest {room} {then} {goal} {at} n x y s l e =
    let h = s.fits in
    let j = length-append x y in
    record {
      is = ap (λ (r : List ℕ). patch r (at + n) y) e ∙ patch-join room at n x y l (omega arith) ∙ s.is;
      fits = let k = ap length e ∙ length-patch room at x (omega arith) in omega arith;
    }

-- all is put
pub still-none : {room x goal : List ℕ} {at : ℕ} → Still room at x goal → x ≡ [] → room ≡ goal
unfolding patch
still-none {room} {x} {goal} {at} s e = paste-zero room at [] ∙ ap (patch room at) (sym e) ∙ s.is

-- a patch inside what was put
pub patch-inside : (room : List ℕ) (at : ℕ) (x : List ℕ) (i : ℕ) (y : List ℕ) → i + length y ≤ length x → at + length x ≤ length room
    → patch (patch room at x) (at + i) y ≡ patch room at (patch x i y)
unfolding patch
patch-inside room at x i y h k =
    let a = take at room in
    let c = drop (at + length x) room in
    let la : length a ≡ at = length-take-le at room (omega arith) in
    let front : take (at + i) (a ++ x ++ c) ≡ a ++ take i x =
    ap₂ (λ (n : ℕ) (l : List ℕ). take (n + i) l) (sym la) (append_assoc a x c) ∙ take-append-add a (x ++ c) i ∙ ap (λ (l : List ℕ). a ++ l) (take-append-le i x c (omega arith)) in
    let n : at + i + length y ≡ length a + (i + length y) = omega arith in
    let back : drop (at + i + length y) (a ++ x ++ c) ≡ drop (i + length y) x ++ c =
    ap₂ drop n (append_assoc a x c) ∙ drop-append-add a (x ++ c) (i + length y) ∙ drop-append-le (i + length y) x c h in
    ap₂ (λ (p q : List ℕ). p ++ y ++ q) front back
    ∙ regroup a (take i x) (drop (i + length y) x) c
    ∙ ap (λ (l : ℕ). a ++ (take i x ++ y ++ drop (i + length y) x) ++ drop (at + l) room) (sym (length-patch x i y h))
  where
    regroup : (a b d c : List ℕ) → a ++ b ++ y ++ (d ++ c) ≡ a ++ (b ++ y ++ d) ++ c
    regroup a b d c = simp append_assoc

-- a room stays as long as it was
pub stored-long : (n : ℕ) (room : List ℕ) (at : ℕ) (x : List ℕ) → length x ≡ n → length (stored n room at x) ≡ length room
unfolding stored
stored-long n room at x l = go (leb (at + n) (length room)) refl
  where
    go : (b : Bool) → leb (at + n) (length room) ≡ b → length (cond b (patch room at x) room) ≡ length room
    go true e = let h = leb-true (at + n) (length room) e in length-patch room at x (omega arith)
    go false e = refl

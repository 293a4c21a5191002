-- What is told of a list is one-to-one, so its promise leaves no choice; and a refused list leaves both buffers as they were. Assumes
-- nothing.
use Prim.Native.Nat.{ℕ}
use native.Mathlib.Omega.{arith}
use mathlib.Core.Bool.{Bool, true, false}
use mathlib.Core.List.{List}
use mathlib.Core.Path.{◌≡◌, refl, ap}
use lib.IntN.{ℤ}
use lib.ListN.{length}
use Rattle.std.specs.Prelude.{Result, Ok, Err}
use Rattle.refusal.specs.declared.Refusal.{Refusal}
use Rattle.refusal.specs.Refusal.{number_of}
use Rattle.refusal.proofs.Numbers.{number-one}
use Rattle.gates.specs.Telling.{refused, answered}
use Rattle.index.specs.Answer.{right_for}
use Rattle.engine.specs.Engine.{Question, Answers, answer_of, buffer_of, rooms, told_list}

-- two answers that tell the same are one
pub told-list-one : (a b : Result ℕ Refusal) → told_list a ≡ told_list b → a ≡ b
told-list-one (Ok n) (Ok m) e = cc
told-list-one (Ok n) (Err k) e = absurd (let z : ◌≡◌ {A = ℕ} 0 1 = cc in omega arith)
told-list-one (Err k) (Ok n) e = absurd (let z : ◌≡◌ {A = ℕ} 0 1 = cc in omega arith)
told-list-one (Err k) (Err j) e = ap Err (number-one k j cc)

pub list-kept : (f x : List ℕ) (qs : List Question) (k k' : List ℕ) (h h' : List ℤ) (e : Refusal) → Answers f x qs k h (Err e) k' h' → (k' ≡ k) × (h' ≡ h)
unfolding answer_of buffer_of
list-kept f x qs k k' h h' e p = go (right_for f x) refl (rooms (length qs) k h) refl
  where
    go : (a : Bool) → right_for f x ≡ a → (b : Bool) → rooms (length qs) k h ≡ b → (k' ≡ k) × (h' ≡ h)
    go true q true s =
        let here : refused (number_of e) 0 ≡ answered (length qs) = rw (q, s) at p.answer in
        absurd (let z : ◌≡◌ {A = ℕ} 0 1 = cc in omega arith)
    go true q false s = (rw (q, s) at p.kinds, rw (q, s) at p.hundredths)
    go false q b s = (rw q at p.kinds, rw q at p.hundredths)

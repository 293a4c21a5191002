-- The tellings of a gate's and of a tally's answer are one-to-one, and a row's promise leaves no choice. Assumes nothing.
use mathlib.Core.Path.{◌≡◌, refl, sym, ap, ◌∙◌}
use mathlib.Core.List.{List}
use mathlib.Mathlib.Logic.Function.Defs.{LeftInverse-Injective}
use native.Mathlib.Omega.{arith}
use Prim.Native.Nat.{ℕ}
use lib.IntN.{ℤ}
use Rattle.std.specs.Prelude.{Result, Ok, Err}
use Rattle.refusal.specs.declared.Refusal.{Refusal}
use Rattle.refusal.proofs.Numbers.{refusal_found, refusal_back, number-one}
use Rattle.gates.specs.declared.Told.{Told}
use Rattle.gates.specs.Telling.{Telling, refused, answered}
use Rattle.gates.proofs.Rows.{row_one}
use Rattle.gates.proofs.Tellings.{values_one, told-row-one}
use Rattle.ask.specs.declared.places.Where.{Where}
use Rattle.ask.specs.declared.places.Where.TheVariants.{At, NoRadial, NoMoment}
use Rattle.ask.specs.declared.tallies.Tally.{Tally}
use Rattle.ask.specs.Answers.{told_gate_answer, RowTold}
use Rattle.ask.specs.Tallies.{told_tally}

pub told-gate-answer-one : (a b : Result Told Refusal) → told_gate_answer a ≡ told_gate_answer b → a ≡ b
told-gate-answer-one (Ok t) (Ok u) e = ap Ok (values_one t u cc)
told-gate-answer-one (Ok t) (Err n) e = absurd (let z : ◌≡◌ {A = ℕ} 0 1 = cc in omega arith)
told-gate-answer-one (Err n) (Ok t) e = absurd (let z : ◌≡◌ {A = ℕ} 0 1 = cc in omega arith)
told-gate-answer-one (Err n) (Err m) e = ap Err (number-one n m cc)

tally_found : Telling Tally → Result Tally Refusal
tally_found (answered t) = Ok t
tally_found (refused number place) = Err (refusal_found number)

tally-back : (a : Result Tally Refusal) → tally_found (told_tally a) ≡ a
unfolding tally_found
tally-back (Ok t) = refl
tally-back (Err e) = ap Err (refusal_back e)

pub told-tally-one : (a b : Result Tally Refusal) → told_tally a ≡ told_tally b → a ≡ b
told-tally-one = LeftInverse-Injective tally_found told_tally tally-back

pub row-told-one : (f : List ℕ) (at : Where) (k : List ℕ) (h : List ℤ) (a b : Result ℕ Refusal) (k₁ k₂ : List ℕ) (h₁ h₂ : List ℤ) → RowTold f at k h a k₁ h₁ → RowTold f at k h b k₂ h₂
    → (a ≡ b) × (k₁ ≡ k₂) × (h₁ ≡ h₂)
unfolding RowTold
row-told-one f NoRadial k h a b k₁ k₂ h₁ h₂ x y = (told-row-one a b (x.answer ∙ sym y.answer), x.kinds ∙ sym y.kinds, x.hundredths ∙ sym y.hundredths)
row-told-one f NoMoment k h a b k₁ k₂ h₁ h₂ x y = (told-row-one a b (x.answer ∙ sym y.answer), x.kinds ∙ sym y.kinds, x.hundredths ∙ sym y.hundredths)
row-told-one f (At s p) k h a b k₁ k₂ h₁ h₂ x y = row_one x y

-- Where a moment was found, by the answer that a question goes on from; and what is told where it was not. Assumes nothing.
use mathlib.Core.Path.{◌≡◌, refl, sym, ap}
use mathlib.Core.List.{List}
use native.Mathlib.Omega.{arith}
use Prim.Native.Nat.{ℕ}
use lib.IntN.{ℤ}
use Rattle.std.specs.Prelude.{Ok, Err}
use Rattle.refusal.specs.declared.Refusal.{Refusal}
use Rattle.refusal.specs.declared.Refusal.TheVariants as refusal
use Rattle.refusal.specs.Refusal.{number_of}
use Rattle.gates.specs.Telling.{refused}
use Rattle.reading.specs.declared.Stretch.{Stretch}
use Rattle.ask.specs.declared.places.Where.{Where}
use Rattle.ask.specs.declared.places.Where.TheVariants.{At, NoRadial, NoMoment}
use Rattle.ask.specs.Answers.{gate_told, RowTold}
use Rattle.ask.specs.Places.{found_of}

pub is-at : (w : Where) (s : Stretch) (p : ℕ) → found_of w ≡ Ok (s, p) → w ≡ At s p
unfolding found_of
is-at (At s p) t q e =
    let x : ◌≡◌ {A = Stretch × ℕ} (s, p) (t, q) = cc in
    λ i. At ((x i).0) ((x i).1)
is-at NoRadial t q e = absurd (let z : ◌≡◌ {A = ℕ} 0 1 = cc in omega arith)
is-at NoMoment t q e = absurd (let z : ◌≡◌ {A = ℕ} 0 1 = cc in omega arith)

pub gate-lost : (f : List ℕ) (w : Where) (i : ℕ) (e : Refusal) → found_of w ≡ Err e → refused (number_of e) 0 ≡ gate_told f w i
unfolding found_of gate_told
gate-lost f (At s p) i x e = absurd (let z : ◌≡◌ {A = ℕ} 0 1 = cc in omega arith)
gate-lost f NoRadial i x e = let q : refusal.NoRadial ≡ x = cc in ap (λ (y : Refusal). refused (number_of y) 0) (sym q)
gate-lost f NoMoment i x e = let q : refusal.NoMoment ≡ x = cc in ap (λ (y : Refusal). refused (number_of y) 0) (sym q)

pub row-lost : (f : List ℕ) (w : Where) (k : List ℕ) (h : List ℤ) (e : Refusal) → found_of w ≡ Err e → RowTold f w k h (Err e) k h
unfolding found_of RowTold
row-lost f (At s p) k h x e = absurd (let z : ◌≡◌ {A = ℕ} 0 1 = cc in omega arith)
row-lost f NoRadial k h x e =
    let q : refusal.NoRadial ≡ x = cc in
    record { answer = ap (λ (y : Refusal). refused (number_of y) 0) (sym q); kinds = refl; hundredths = refl }
row-lost f NoMoment k h x e =
    let q : refusal.NoMoment ≡ x = cc in
    record { answer = ap (λ (y : Refusal). refused (number_of y) 0) (sym q); kinds = refl; hundredths = refl }

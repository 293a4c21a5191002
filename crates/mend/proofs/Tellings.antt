-- What is told of a mended file is one-to-one, so its promise leaves no choice. Assumes nothing.
use Prim.Native.Nat.{ℕ}
use native.Mathlib.Omega.{arith}
use mathlib.Core.List.{List}
use mathlib.Core.Path.{◌≡◌, refl, sym, ap, ◌∙◌}
use Rattle.std.specs.Prelude.{Option, Some, None, Result, Ok, Err, ok_or}
use Rattle.refusal.specs.declared.Refusal.{Refusal}
use Rattle.refusal.proofs.Numbers.{number-one}
use Rattle.reading.specs.declared.Stretch.{Stretch}
use Rattle.mend.specs.declared.report.Field.{Field}
use Rattle.mend.specs.declared.report.Field.TheVariants.{Same, Changed}
use Rattle.mend.specs.declared.report.Report.{Report}
use Rattle.mend.specs.Kept.{last_kept}
use Rattle.mend.specs.Mend.{told_field, Said, said, told_mended}

field-one : (a b : Field) → told_field a ≡ told_field b → a ≡ b
unfolding told_field
field-one Same Same e = refl
field-one Same (Changed d) e = absurd (let z : ◌≡◌ {A = ℕ} 0 1 = cc in omega arith)
field-one (Changed c) Same e = absurd (let z : ◌≡◌ {A = ℕ} 0 1 = cc in omega arith)
field-one (Changed c) (Changed d) e =
    let place : c.place ≡ d.place = cc in
    let written : c.written ≡ d.written = cc in
    let old : c.old ≡ d.old = cc in
    let new : c.new ≡ d.new = cc in
    λ i. Changed (record { place = place i; written = written i; old = old i; new = new i })

said-one : (n m : ℕ) (a b : Report) → said n a ≡ said m b → ◌≡◌ {A = Result (ℕ × Report) Refusal} (Ok (n, a)) (Ok (m, b))
said-one n m a b e =
    let size : n ≡ m = ap (λ (s : Said). s.size) e in
    let number = field-one a.cut_number b.cut_number (ap (λ (s : Said). s.cut-number) e) in
    let state = field-one a.state b.state (ap (λ (s : Said). s.state) e) in
    let first : a.first_dropped ≡ b.first_dropped = ap (λ (s : Said). s.first-dropped) e in
    let cuts : a.dropped_cuts ≡ b.dropped_cuts = ap (λ (s : Said). s.dropped-cuts) e in
    let from : a.from ≡ b.from = ap (λ (s : Said). s.from) e in
    let to : a.to ≡ b.to = ap (λ (s : Said). s.to) e in
    λ i. Ok (size i, record { cut_number = number i; state = state i; first_dropped = first i; dropped_cuts = cuts i; from = from i; to = to i })

pub told-mended-one : (a b : Result (ℕ × Report) Refusal) → told_mended a ≡ told_mended b → a ≡ b
told-mended-one (Ok (n, r)) (Ok (m, q)) e = said-one n m r q cc
told-mended-one (Ok (n, r)) (Err k) e = absurd (let z : ◌≡◌ {A = ℕ} 0 1 = cc in omega arith)
told-mended-one (Err k) (Ok (n, r)) e = absurd (let z : ◌≡◌ {A = ℕ} 0 1 = cc in omega arith)
told-mended-one (Err k) (Err j) e = ap Err (number-one k j cc)

-- a radial that is kept, and none, by the answer that mending goes on from
pub kept-there : (f : List ℕ) (o : Option Stretch) (y : Refusal) (s : Stretch) → o ≡ last_kept f → ok_or o y ≡ Ok s → last_kept f ≡ Some s
kept-there f (Some r) y s k e = sym k ∙ ap Some cc
kept-there f None y s k e = absurd (let z : ◌≡◌ {A = ℕ} 0 1 = cc in omega arith)

pub kept-nowhere : (f : List ℕ) (o : Option Stretch) (y x : Refusal) → o ≡ last_kept f → ok_or o y ≡ Err x → (last_kept f ≡ None) × (x ≡ y)
kept-nowhere f (Some r) y x k e = absurd (let z : ◌≡◌ {A = ℕ} 0 1 = cc in omega arith)
kept-nowhere f None y x k e = (sym k, cc)

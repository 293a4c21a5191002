-- Each telling of an answer is one-to-one: the answer can be found again from it, so two answers that are told alike are
-- one. Assumes nothing.
use mathlib.Core.Path.{◌≡◌, refl, ap}
use mathlib.Core.List.{[], ◌∷◌}
use mathlib.Mathlib.Logic.Function.Defs.{LeftInverse-Injective}
use Prim.Native.Nat.{ℕ}
use lib.ListN.{get_or}
use Rattle.std.specs.Prelude.{Result, Ok, Err}
use Rattle.refusal.specs.declared.Refusal.{Refusal}
use Rattle.refusal.proofs.Numbers.{refusal_found, refusal_back}
use Rattle.gates.specs.declared.Gate.{Gate}
use Rattle.gates.specs.declared.Gate.TheVariants.{BelowThreshold, RangeFolded, NotScanned, Unknown, Reserved, Value, Class}
use Rattle.gates.specs.declared.Told.{Told}
use Rattle.gates.specs.Gates.{Carried, nothing, its-float, its-code, told_gate, Values, values_of}
use Rattle.gates.specs.Rows.{told_row}
use Rattle.gates.specs.Telling.{Telling, refused, answered}

gate_found : ℕ × Carried → Gate
gate_found t = go t.1
  where
    go : Carried → Gate
    go nothing = get_or (BelowThreshold ∷ RangeFolded ∷ NotScanned ∷ Unknown ∷ []) t.0 Reserved
    go (its-float x) = Value x
    go (its-code code) = Class code

gate-back : (g : Gate) → gate_found (told_gate g) ≡ g
unfolding gate_found
gate-back BelowThreshold = refl
gate-back RangeFolded = refl
gate-back NotScanned = refl
gate-back Unknown = refl
gate-back Reserved = refl
gate-back (Value x) = refl
gate-back (Class code) = refl

pub told-gate-one : (g h : Gate) → told_gate g ≡ told_gate h → g ≡ h
told-gate-one = LeftInverse-Injective gate_found told_gate gate-back

pub values_one : (t u : Told) → values_of t ≡ values_of u → t ≡ u
values_one t u e =
    λ i. record {
      gate = told-gate-one t.gate u.gate (ap (λ (v : Values). v.gate) e) i;
      difference = (e i).difference;
      scale = (e i).scale;
      hundredths = (e i).hundredths;
    }

row_found : Telling ℕ → Result ℕ Refusal
row_found (answered n) = Ok n
row_found (refused number place) = Err (refusal_found number)

row_back : (r : Result ℕ Refusal) → row_found (told_row r) ≡ r
unfolding row_found
row_back (Ok n) = refl
row_back (Err e) = ap Err (refusal_back e)

pub told-row-one : (r s : Result ℕ Refusal) → told_row r ≡ told_row s → r ≡ s
told-row-one = LeftInverse-Injective row_found told_row row_back

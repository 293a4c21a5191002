-- Reading on from a walk: where it stops, and what it passes; a step back to the walk before. Assumes nothing.
use Prim.Native.Nat.{ℕ, ◌+◌, ◌≤◌}
use mathlib.Core.Path.{◌≡◌, refl, ap, subst⁻¹, ◌∙◌}
use mathlib.Core.Bool.{Bool, false}
use mathlib.Core.List.{List, []}
use lib.ListN.{length, take}
use Rattle.walk.specs.declared.due.Walk.{Walk}
use Rattle.walk.specs.Due.{ends_radial, is_end, size_of}
use Rattle.reading.specs.declared.Stretch.{Stretch}
use Rattle.reading.specs.declared.step.Step.{Step}
use Rattle.reading.specs.declared.step.Step.TheVariants.{Took}
use Rattle.reading.specs.Step.{plain_step, block_at}
use Rattle.reading.specs.Reading.{last_by, fuel, trace_by, stretch_if, stretch_of, ending_told}
use Rattle.reading.proofs.Run.{plain_here, Stays, run_step, run-stays, enough}

-- reading on from w passes these stretches, and E holds of the walk where it stops
pub record Finishes (f : List ℕ) (E : Walk → Type 0) (w : Walk) (ss : List Stretch) : Type 0 where
  pub ends : E (last_by false (fuel f) f w)
  pub stretches : trace_by false (fuel f) f w ≡ ss

-- back over a block that is there and is taken
pub before-block : (f : List ℕ) (E : Walk → Type 0) (w m : Walk) (b : Bool) (ss : List Stretch) → is_end w.due ≡ false → w.at + size_of w ≤ length f
    → block_at w.due (take (w.at + size_of w) f) w ≡ Took m → ends_radial w.due w.rest.todo ≡ b → Finishes f E m ss → Finishes f E w (stretch_if b w m ss)
before-block f E w m b ss i h e t r =
    let s : plain_step f w ≡ Took m = plain_here f w i h ∙ e in
    record {
      ends = subst⁻¹ E (run_step false (λ v. v) (λ v n r. r) (fuel f) f w m (enough f w) s) r.ends;
      stretches =
          run_step false (λ v. []) stretch_of (fuel f) f w m (enough f w) s
          ∙ ap (λ (b : Bool). stretch_if b w m (trace_by false (fuel f) f m)) t
          ∙ ap (stretch_if b w m) r.stretches;
    }

-- the walk where x is told, and its place
abbrev pub Ends : List ℕ → List ℕ → ℕ → Walk → Type 0
Ends f x at w = (ending_told (plain_step f w) ≡ x) × (w.at ≡ at)

-- the stop: a step that takes no block; what else holds of the walk
pub at-stop : (f : List ℕ) (P : Walk → Type 0) (w : Walk) (s : Step) → Stays s → plain_step f w ≡ s → P w → Finishes f (λ v. Ends f (ending_told s) w.at v × P v) w []
at-stop f P w s h e p =
    let o : Stays (plain_step f w) = subst⁻¹ Stays e h in
    record {
      ends = subst⁻¹ (λ (v : Walk). Ends f (ending_told s) w.at v × P v) (run-stays false (λ v. v) (λ v n r. r) (fuel f) f w o) ((ap ending_told e, refl), p);
      stretches = run-stays false (λ v. []) stretch_of (fuel f) f w o;
    }

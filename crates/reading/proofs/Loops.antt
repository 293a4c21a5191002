-- What the loops over steps say at each turn and at each return. Assumes nothing.
use Prim.Native.Nat.{ℕ, zero, suc, ◌<◌, ◌≤◌, ◌-◌}
use native.Mathlib.Omega.{arith}
use lib.ListN.{length}
use mathlib.Core.Path.{◌≡◌, refl, ap, subst, ◌∙◌}
use mathlib.Core.Bool.{Bool, true, false}
use mathlib.Core.List.{List, [], ◌∷◌}
use Rattle.std.specs.Prelude.{Some, None}
use Rattle.walk.specs.declared.due.Walk.{Walk}
use Rattle.reading.specs.declared.step.Step.TheVariants.{Took}
use Rattle.reading.specs.declared.Stretch.{Stretch}
use Rattle.reading.specs.declared.Onward.{Onward}
use Rattle.reading.specs.declared.Onward.TheVariants.{Whole, Stopped}
use Rattle.walk.specs.Due.{ends_radial}
use Rattle.reading.specs.Step.{step_of}
use Rattle.reading.specs.Reading.{last, fuel, stop, trace, stretch_if, stretch_of, advance_if, on_to, advance_of, nth}
use Rattle.reading.proofs.Run.{Stays, run_step, run-stays, run-stops, enough, left, taken}

-- ---- read: the walks of the loop are those of the reading

pub last_step : (f : List ℕ) (w n : Walk) → step_of f w ≡ Took n → last (fuel f) f w ≡ last (fuel f) f n
last_step f w n e = run_step true (λ v. v) (λ v n r. r) (fuel f) f w n (enough f w) e

pub read-stops : (f : List ℕ) (w : Walk) → stop f ≡ last (fuel f) f w → Stays (step_of f w) → stop f ≡ w
read-stops f w i h = i ∙ run-stays true (λ v. v) (λ v n r. r) (fuel f) f w h

-- ---- advance: on to a radial's last data, past it, or to the stop

pub advance-step : (f : List ℕ) (w n : Walk) (b : Bool) → step_of f w ≡ Took n → ends_radial w.due w.rest.todo ≡ b → advance_of f w ≡ advance_if b w n (advance_of f n)
advance-step f w n b e t = run_step true (λ v. Stopped v) on_to (fuel f) f w n (enough f w) e ∙ ap (λ (b : Bool). advance_if b w n (advance_of f n)) t

pub advance-stops : (f : List ℕ) (w : Walk) → Stays (step_of f w) → advance_of f w ≡ Stopped w
advance-stops f w h = run-stays true (λ v. Stopped v) on_to (fuel f) f w h

-- the stretches from a walk on, by a step
trace-step : (f : List ℕ) (w n : Walk) (b : Bool) → step_of f w ≡ Took n → ends_radial w.due w.rest.todo ≡ b → trace (fuel f) f w ≡ stretch_if b w n (trace (fuel f) f n)
trace-step f w n b e t = run_step true (λ v. []) stretch_of (fuel f) f w n (enough f w) e ∙ ap (λ (b : Bool). stretch_if b w n (trace (fuel f) f n)) t

-- what an advance to a whole radial says: the walk's stretches begin with it, and the walk after it is nearer to the end
pub record Further (f : List ℕ) (w : Walk) (s : Stretch) (n : Walk) : Type 0 where
  pub more : trace (fuel f) f w ≡ s ∷ trace (fuel f) f n
  pub within : n.at ≤ length f
  pub less : left f n < left f w
  pub end : s.end ≡ n.at
  pub stop : last (fuel f) f w ≡ last (fuel f) f n

-- and what any advance says: one that stops has no stretch before it, and stops where the reading does
abbrev Says : List ℕ → Walk → Onward → Type 0
Says f w (Whole s n) = Further f w s n
Says f w (Stopped v) = (trace (fuel f) f w ≡ []) × (last (fuel f) f w ≡ v)

says-step : (f : List ℕ) (w m : Walk) (b : Bool) (o : Onward) → step_of f w ≡ Took m → ends_radial w.due w.rest.todo ≡ b → Says f m o → Says f w (advance_if b w m o)
unfolding advance_if stretch_if
says-step f w m true o e p x =
    let t = taken f w m e in
    record { more = trace-step f w m true e p; within = t.within; less = t.less; end = refl; stop = last_step f w m e }
says-step f w m false (Whole s n) e p x =
    let t = (taken f w m e).less in
    let l = x.less in
    record { more = trace-step f w m false e p ∙ x.more; within = x.within; less = omega arith; end = x.end; stop = last_step f w m e ∙ x.stop }
says-step f w m false (Stopped v) e p x = (trace-step f w m false e p ∙ x.0, last_step f w m e ∙ x.1)

says : (f : List ℕ) (w : Walk) → Says f w (advance_of f w)
says f w =
    run-stops true (λ v. Stopped v) on_to f (Says f)
    (λ v h. (run-stays true (λ v. []) stretch_of (fuel f) f v h, run-stays true (λ v. v) (λ v n r. r) (fuel f) f v h))
    (λ v m o e. says-step f v m (ends_radial v.due v.rest.todo) o e refl) (fuel f) w (enough f w)

pub further : (f : List ℕ) (w : Walk) (s : Stretch) (n : Walk) → advance_of f w ≡ Whole s n → Further f w s n
further f w s n e = subst (Says f w) e (says f w)

pub no_more : (f : List ℕ) (w v : Walk) → advance_of f w ≡ Stopped v → trace (fuel f) f w ≡ []
no_more f w v e = (subst (Says f w) e (says f w)).0

pub stopped : (f : List ℕ) (w v : Walk) → advance_of f w ≡ Stopped v → last (fuel f) f w ≡ v
stopped f w v e = (subst (Says f w) e (says f w)).1

-- ---- find: the first of the stretches still to come, a later one, or none

pub found_first : (l r : List Stretch) (s : Stretch) (k : ℕ) → l ≡ s ∷ r → k ≡ 0 → nth l (suc k) ≡ Some s
unfolding nth
found_first l r s k e q = rw (e, q)

pub found-later : (l r : List Stretch) (s : Stretch) (k : ℕ) → l ≡ s ∷ r → (k ≡ 0 → ⊥) → nth l (suc k) ≡ nth r (suc (k - 1))
unfolding nth
found-later l r s zero e q = absurd (q refl)
found-later l r s (suc k) e q = rw e (ap (λ (j : ℕ). nth r (suc j)) (omega arith))

pub found_none : (l : List Stretch) (k : ℕ) → l ≡ [] → nth l k ≡ None
unfolding nth
found_none l k e = rw e

pub found-zero : (l : List Stretch) (k : ℕ) → k ≡ 0 → nth l k ≡ None
unfolding nth
found-zero [] k e = refl
found-zero (s ∷ r) k e = rw e

-- The whole radials that the walk counts are the stretches that it has passed. Assumes nothing.
use Prim.Native.Nat.{ℕ, zero, suc, ◌+◌}
use native.Mathlib.Omega.{arith}
use mathlib.Core.Path.{◌≡◌, refl, sym, ap, subst, subst⁻¹, ◌∙◌}
use mathlib.Core.Bool.{Bool, true, false, not, ◌&&◌, cond}
use mathlib.Core.List.{List, []}
use borrow.Author.Tests.{lt-ltb, ne_eqb}
use lib.Dec.{eqb, ltb}
use lib.ListN.{length}
use Rattle.radial.specs.Radial.{radial_check, radial_rules, radial_at}
use Rattle.radial.proofs.Header.{header}
use Rattle.rules.proofs.Judged.{all_hold}
use Rattle.walk.specs.declared.due.Due.{Due}
use Rattle.walk.specs.declared.due.Due.TheVariants as due
use Rattle.walk.specs.declared.due.Walk.{Walk}
use Rattle.reading.specs.declared.Stretch.{Stretch}
use Rattle.reading.specs.declared.step.Step.{Step}
use Rattle.reading.specs.declared.step.Step.TheVariants.{Took}
use Rattle.walk.specs.Due.{due_if, ends_radial, radial_due, at_start}
use Rattle.walk.specs.After.{after_data, after_data_if, closes_cut}
use Rattle.reading.specs.Step.{take_generic, take_site, take_task, take_cut, take_radial, take_moment, take_data, cut_in, block_at, step_of}
use Rattle.reading.specs.Reading.{last, fuel, stop, stretch_if, stretch_of, trace, stretches, verdict_told, ending_told, Tells}
use Rattle.reading.specs.declared.Verdict.{Verdict}
use Rattle.reading.proofs.Loops.{read-stops}
use Rattle.reading.proofs.Run.{Stays, settle-took, settle-fine, took-inj, due-either, ends-data, taken, run-took, run-halts, run_along}

-- inside a radial, its sequence number is one more than the whole radials
unfoldable pub Steady : Due → Walk → Type 0
Steady due.Generic w = Unit {0}
Steady due.Site w = Unit {0}
Steady due.Task w = Unit {0}
Steady due.Cut w = Unit {0}
Steady due.Radial w = Unit {0}
Steady due.Moment w = w.present.sequence ≡ suc w.count.whole
Steady due.Data w = w.present.sequence ≡ suc w.count.whole
Steady due.Nothing w = Unit {0}

steady-data : (more closes later : Bool) (w : Walk) (end : ℕ) → Steady due.Data w → Steady (after_data_if more closes later w end).due (after_data_if more closes later w end)
unfolding Steady due_if
steady-data true closes later w end h = h
steady-data false closes later w end h = due-either Steady (closes && not later) due.Nothing due.Radial _ tt tt

steady-radial : (p : List ℕ) (w m : Walk) → take_radial (radial_at p w.at) (cut_in p w) w ≡ Took m → Steady m.due m
unfolding take_radial radial_check Steady
steady-radial p w m e =
    let r = radial_at p w.at in
    let f = all_hold (radial_rules r (radial_due w)) (settle-fine _ _ _ m e) in
    let s = (header r (radial_due w) f).sequence in
    subst (λ (x : Walk). Steady x.due x) (settle-took _ _ _ m e) (omega arith)

pub steady-on : (d : Due) (p : List ℕ) (w m : Walk) → Steady d w → block_at d p w ≡ Took m → Steady m.due m
unfolding block_at take_generic take_site take_task take_cut take_moment take_data after_data Steady
steady-on due.Generic p w m h e = subst (λ (x : Walk). Steady x.due x) (settle-took _ _ _ m e) tt
steady-on due.Site p w m h e = subst (λ (x : Walk). Steady x.due x) (settle-took _ _ _ m e) tt
steady-on due.Task p w m h e = subst (λ (x : Walk). Steady x.due x) (settle-took _ _ _ m e) tt
steady-on due.Cut p w m h e = subst (λ (x : Walk). Steady x.due x) (settle-took _ _ _ m e) (due-either Steady _ due.Radial due.Cut _ tt tt)
steady-on due.Radial p w m h e = steady-radial p w m e
steady-on due.Moment p w m h e = subst (λ (x : Walk). Steady x.due x) (settle-took _ _ _ m e) h
steady-on due.Data p w m h e = subst (λ (x : Walk). Steady x.due x) (took-inj _ m e) (steady-data (ltb 0 w.rest.todo) (closes_cut w) (ltb w.count.cut w.plan.cuts) w (w.at + w.rest.length) h)
steady-on due.Nothing p w m h e = absurd (let z : ◌≡◌ {A = ℕ} 0 1 = cc in omega arith)

-- a step counts a whole radial exactly where it ends one
ends-or-more : (todo : ℕ) → eqb todo 0 ≡ not (ltb 0 todo)
ends-or-more zero = refl
ends-or-more (suc n) = rw (ne_eqb (suc n) 0 (λ e. omega arith), lt-ltb 0 (suc n) (omega arith))

counted : (b : Bool) (x y : ℕ) → cond (not b) x y ≡ cond b y x
counted true x y = refl
counted false x y = refl

whole-on : (d : Due) (p : List ℕ) (w m : Walk) → block_at d p w ≡ Took m → m.count.whole ≡ cond (ends_radial d w.rest.todo) w.present.sequence w.count.whole
unfolding block_at take_generic take_site take_task take_cut take_radial take_moment take_data after_data ends_radial
whole-on due.Generic p w m e = ap (λ (x : Walk). x.count.whole) (sym (settle-took _ _ _ m e))
whole-on due.Site p w m e = ap (λ (x : Walk). x.count.whole) (sym (settle-took _ _ _ m e))
whole-on due.Task p w m e = ap (λ (x : Walk). x.count.whole) (sym (settle-took _ _ _ m e))
whole-on due.Cut p w m e = ap (λ (x : Walk). x.count.whole) (sym (settle-took _ _ _ m e))
whole-on due.Radial p w m e = ap (λ (x : Walk). x.count.whole) (sym (settle-took _ _ _ m e))
whole-on due.Moment p w m e = ap (λ (x : Walk). x.count.whole) (sym (settle-took _ _ _ m e))
whole-on due.Data p w m e =
    ap (λ (x : Walk). x.count.whole) (sym (took-inj _ m e))
    ∙ sym (rw (ends-or-more w.rest.todo) (counted (ltb 0 w.rest.todo) w.present.sequence w.count.whole))
whole-on due.Nothing p w m e = absurd (let z : ◌≡◌ {A = ℕ} 0 1 = cc in omega arith)

ends-steady : (d : Due) (w : Walk) → Steady d w → ends_radial d w.rest.todo ≡ true → w.present.sequence ≡ suc w.count.whole
unfolding Steady
ends-steady d w h e = subst (λ (x : Due). Steady x w) (ends-data d w.rest.todo e) h

count-step : (x : Bool) (w m : Walk) (t : List Stretch) (l : ℕ) → length t + m.count.whole ≡ l → m.count.whole ≡ cond x w.present.sequence w.count.whole
    → (x ≡ true → w.present.sequence ≡ suc w.count.whole) → length (stretch_if x w m t) + w.count.whole ≡ l
unfolding stretch_if
count-step true w m t l i c g = let s = g refl in omega arith
count-step false w m t l i c g = omega arith

-- the stretches from a walk on, and the radials counted before it, are those counted where the run stops
pub counted-on : (k : ℕ) (f : List ℕ) (w : Walk) → Steady w.due w → length (trace k f w) + w.count.whole ≡ (last k f w).count.whole
counted-on k f =
    run_along true (λ v. v) (λ v n r. r) f (λ k w v. Steady w.due w → length (trace k f w) + w.count.whole ≡ v.count.whole)
    (λ k w s h. rw (run-halts true (λ v. []) stretch_of k f w s) (omega arith))
    (λ k w m v e r h. let b = (taken f w m e).block in
    rw (run-took true (λ v. []) stretch_of k f w m e)
    (count-step (ends_radial w.due w.rest.todo) w m (trace k f m) v.count.whole (r (steady-on w.due _ w m h b)) (whole-on w.due _ w m b) (λ x. ends-steady w.due w h x))) k

-- what reading counts
pub counted-all : (f : List ℕ) → (stop f).count.whole ≡ length (stretches f)
unfolding Steady
counted-all f = let c = counted-on (fuel f) f at_start tt in omega arith

-- what reading tells, where the walk stays
pub tells : (f : List ℕ) (w : Walk) (t : Step) (v : Verdict) → stop f ≡ last (fuel f) f w → step_of f w ≡ t → Stays t → verdict_told v ≡ ending_told t
    → Tells f (record { verdict = v; read = w.at; radials = w.count.whole })
tells f w t v i e h q =
    let s = sym (read-stops f w i (subst⁻¹ Stays e h)) in
    record {
      verdict = q ∙ ap ending_told (sym e ∙ ap (step_of f) s);
      read = ap (λ (x : Walk). x.at) s;
      radials = ap (λ (x : Walk). x.count.whole) s ∙ counted-all f;
    }

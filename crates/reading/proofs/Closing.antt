-- The radial that closed a volume is the last whole one, and the volume ends with it. Assumes nothing.
use Prim.Native.Nat.{ℕ, zero, suc, ◌+◌}
use native.Mathlib.Omega.{arith}
use mathlib.Core.Path.{◌≡◌, refl, sym, ap, subst, subst⁻¹, ◌∙◌}
use mathlib.Core.Bool.{Bool, true, false}
use mathlib.Core.List.{List, [], ◌∷◌, ◌++◌}
use mathlib.Core.Logic.{◌⊎◌, inl, inr}
use lib.Dec.{ltb}
use borrow.Author.Tests.{eq-eqb, ltb-false}
use Rattle.walk.specs.declared.due.Due.{Due}
use Rattle.walk.specs.declared.due.Due.TheVariants as due
use Rattle.walk.specs.declared.due.Present.{Present}
use Rattle.walk.specs.declared.due.Walk.{Walk}
use Rattle.walk.specs.Due.{at_start, due_if, ends_radial}
use Rattle.walk.specs.After.{after_data, after_data_if, closes_cut}
use Rattle.reading.specs.declared.Stretch.{Stretch}
use Rattle.reading.specs.declared.step.Step.TheVariants.{Took}
use Rattle.reading.specs.Step.{take_generic, take_site, take_task, take_cut, take_radial, take_moment, take_data, block_at, step_of}
use Rattle.reading.specs.Reading.{walk_by, last, trace, fuel, stop, stretch, stretch_if, stretch_of, stretches}
use Rattle.reading.proofs.Run.{Goes, on, off, goes, due-either, settle-took, Stays, taken, took-inj, run-took, run-stays}

-- a step that ends the volume ends a radial, which stays the present one
record Ends (d : Due) (w m : Walk) : Type 0 where
  radial : ends_radial d w.rest.todo ≡ true
  present : m.present ≡ w.present

-- the walk behind data, by whether moments are still to come
data-ends : (more closes later : Bool) (w : Walk) (end : ℕ) → ltb 0 w.rest.todo ≡ more → (after_data_if more closes later w end).due ≡ due.Nothing → Ends due.Data w (after_data_if more closes later w end)
unfolding due_if ends_radial
data-ends true closes later w end t e = absurd (let z : ◌≡◌ {A = ℕ} 0 1 = cc in omega arith)
data-ends false closes later w end t e = let k = ltb-false 0 w.rest.todo t in record { radial = eq-eqb w.rest.todo 0 (omega arith); present = refl }

ends : (d : Due) (p : List ℕ) (w m : Walk) → block_at d p w ≡ Took m → m.due ≡ due.Nothing → Ends d w m
unfolding block_at take_generic take_site take_task take_cut take_radial take_moment take_data after_data
ends due.Generic p w m e n = let k = settle-took _ _ _ m e in let x : due.Site ≡ due.Nothing = ap (λ (v : Walk). v.due) k ∙ n in absurd (let z : ◌≡◌ {A = ℕ} 0 1 = cc in omega arith)
ends due.Site p w m e n = let k = settle-took _ _ _ m e in let x : due.Task ≡ due.Nothing = ap (λ (v : Walk). v.due) k ∙ n in absurd (let z : ◌≡◌ {A = ℕ} 0 1 = cc in omega arith)
ends due.Task p w m e n = let k = settle-took _ _ _ m e in let x : due.Cut ≡ due.Nothing = ap (λ (v : Walk). v.due) k ∙ n in absurd (let z : ◌≡◌ {A = ℕ} 0 1 = cc in omega arith)
ends due.Cut p w m e n =
    let k = ap (λ (v : Walk). v.due) (settle-took _ _ _ m e) ∙ n in
    absurd (due-either (λ d v. d ≡ due.Nothing → ⊥) _ due.Radial due.Cut w (λ x. let z : ◌≡◌ {A = ℕ} 0 1 = cc in omega arith) (λ x. let z : ◌≡◌ {A = ℕ} 0 1 = cc in omega arith) k)
ends due.Radial p w m e n = let k = settle-took _ _ _ m e in let x : due.Moment ≡ due.Nothing = ap (λ (v : Walk). v.due) k ∙ n in absurd (let z : ◌≡◌ {A = ℕ} 0 1 = cc in omega arith)
ends due.Moment p w m e n = let k = settle-took _ _ _ m e in let x : due.Data ≡ due.Nothing = ap (λ (v : Walk). v.due) k ∙ n in absurd (let z : ◌≡◌ {A = ℕ} 0 1 = cc in omega arith)
ends due.Data p w m e n =
    let k = took-inj _ m e in
    subst (Ends due.Data w) k (data-ends (ltb 0 w.rest.todo) (closes_cut w) (ltb w.count.cut w.plan.cuts) w (w.at + w.rest.length) refl (ap (λ (v : Walk). v.due) k ∙ n))
ends due.Nothing p w m e n = absurd (let z : ◌≡◌ {A = ℕ} 0 1 = cc in omega arith)

-- the last of some stretches is the present radial of a walk, which stands at its end
pub record Closed (ss : List Stretch) (v : Walk) : Type 0 where
  pub before : List Stretch
  pub last : Stretch
  pub all : ss ≡ before ++ (last ∷ [])
  pub start : last.start ≡ v.present.start
  pub end : last.end ≡ v.at

-- where nothing is due any more, no block is taken
no_block : (d : Due) (p : List ℕ) (w m : Walk) → d ≡ due.Nothing → block_at d p w ≡ Took m → ⊥
unfolding block_at
no_block d p w m n e = let b : block_at due.Nothing p w ≡ Took m = rw n at e in let z : ◌≡◌ {A = ℕ} 0 1 = cc in omega arith

over-stays : (f : List ℕ) (w : Walk) → w.due ≡ due.Nothing → Stays (step_of f w)
over-stays f w e = go (goes true f w)
  where
    go : Goes true f w → Stays (step_of f w)
    go (off q) = q
    go (on m q) = absurd (no_block w.due _ w m e (taken f w m q).block)

with-stretch : (b : Bool) (w m v : Walk) (t : List Stretch) → Closed t v → Closed (stretch_if b w m t) v
unfolding stretch_if
with-stretch true w m v t c = record { before = stretch w m ∷ c.before; last = c.last; all = ap (λ (l : List Stretch). stretch w m ∷ l) c.all; start = c.start; end = c.end }
with-stretch false w m v t c = c

whole : (w m : Walk) (b : Bool) (t : List Stretch) → b ≡ true → t ≡ [] → stretch_if b w m t ≡ stretch w m ∷ []
unfolding stretch_if
whole w m b t i j = rw (i, j)

closed_on : (k : ℕ) (f : List ℕ) (w : Walk) → (last k f w).due ≡ due.Nothing → (w.due ≡ due.Nothing) ⊎ Closed (trace k f w) (last k f w)
unfolding walk_by
closed_on zero f w e = inl e
closed_on (suc k) f w e = go (goes true f w) (λ m h. closed_on k f m h)
  where
    go : Goes true f w → ((m : Walk) → (last k f m).due ≡ due.Nothing → (m.due ≡ due.Nothing) ⊎ Closed (trace k f m) (last k f m))
        → (w.due ≡ due.Nothing) ⊎ Closed (trace (suc k) f w) (last (suc k) f w)
    go (off q) later = inl (ap (λ (v : Walk). v.due) (sym (run-stays true (λ v. v) (λ v n r. r) (suc k) f w q)) ∙ e)
    go (on m q) later = inr (subst⁻¹ (Closed (trace (suc k) f w)) at (subst⁻¹ (λ (l : List Stretch). Closed l (last k f m)) way (by (later m (ap (λ (v : Walk). v.due) (sym at) ∙ e)))))
      where
        at : last (suc k) f w ≡ last k f m
        at = run-took true (λ v. v) (λ v n r. r) k f w m q

        way : trace (suc k) f w ≡ stretch_of w m (trace k f m)
        way = run-took true (λ v. []) stretch_of k f w m q

        by : (m.due ≡ due.Nothing) ⊎ Closed (trace k f m) (last k f m) → Closed (stretch_of w m (trace k f m)) (last k f m)
        by (inr c) = with-stretch (ends_radial w.due w.rest.todo) w m (last k f m) (trace k f m) c
        by (inl n) =
            let x = ends w.due _ w m (taken f w m q).block n in
            let o = over-stays f m n in
            let here : last k f m ≡ m = run-stays true (λ v. v) (λ v n r. r) k f m o in
            let none : trace k f m ≡ [] = run-stays true (λ v. []) stretch_of k f m o in
            subst⁻¹ (Closed (stretch_of w m (trace k f m))) here
            (record {
              before = [];
              last = stretch w m;
              all = whole w m (ends_radial w.due w.rest.todo) (trace k f m) x.radial none;
              start = ap (λ (r : Present). r.start) (sym x.present);
              end = refl;
            })

-- a volume that is over was closed by its last whole radial
pub closed : (f : List ℕ) → (stop f).due ≡ due.Nothing → Closed (stretches f) (stop f)
closed f e = go (closed_on (fuel f) f at_start e)
  where
    go : (at_start.due ≡ due.Nothing) ⊎ Closed (stretches f) (stop f) → Closed (stretches f) (stop f)
    go (inl n) = absurd (let z : ◌≡◌ {A = ℕ} 0 1 = cc in omega arith)
    go (inr c) = c

-- The whole radials of a file are numbered by their place among them: the header of the n-th has sequence number n. Assumes
-- nothing.
use Prim.Native.Nat.{ℕ, zero, suc, ◌+◌}
use native.Mathlib.Omega.{arith}
use mathlib.Core.Path.{◌≡◌, refl, sym, ap, subst, ◌∙◌}
use mathlib.Core.Bool.{Bool, true, false}
use mathlib.Core.List.{List, [], ◌∷◌}
use lib.ListN.{length, take}
use Rattle.std.specs.Prelude.{Some}
use Rattle.le.proofs.Laws.{part-take}
use Rattle.radial.specs.Radial.{radial_of, radial_at}
use Rattle.walk.specs.declared.due.Due.{Due}
use Rattle.walk.specs.declared.due.Due.TheVariants as due
use Rattle.walk.specs.declared.due.Walk.{Walk}
use Rattle.walk.specs.Due.{size_at, ends_radial, at_start}
use Rattle.walk.specs.After.{after_data}
use Rattle.reading.specs.declared.Stretch.{Stretch}
use Rattle.reading.specs.declared.step.Step.TheVariants.{Took}
use Rattle.reading.specs.Step.{take_generic, take_site, take_task, take_cut, take_radial, take_moment, take_data, block_at, step_of}
use Rattle.reading.specs.Reading.{fuel, stretch_if, stretch_of, walk_by, trace, stretches, nth}
use Rattle.reading.proofs.Counts.{Steady, steady-on, counted-on}
use Rattle.reading.proofs.Run.{settle-took, took-inj, due-either, ends-data, taken, run-took, run_holds}

module _ (f : List ℕ) where
  -- the headers of some stretches have the numbers after n, in order
  abbrev Sequenced : ℕ → List Stretch → Type 0
  Sequenced n [] = Unit {0}
  Sequenced n (s ∷ ss) = ((radial_at f s.start).sequence ≡ suc n) × Sequenced (suc n) ss

  -- inside a radial, the walk has the sequence number of its header
  unfoldable Headed : Due → Walk → Type 0
  Headed due.Generic w = Unit {0}
  Headed due.Site w = Unit {0}
  Headed due.Task w = Unit {0}
  Headed due.Cut w = Unit {0}
  Headed due.Radial w = Unit {0}
  Headed due.Moment w = (radial_at f w.present.start).sequence ≡ w.present.sequence
  Headed due.Data w = (radial_at f w.present.start).sequence ≡ w.present.sequence
  Headed due.Nothing w = Unit {0}

  headed-on : (d : Due) (w m : Walk) → Headed d w → block_at d (take (w.at + size_at d w.rest.length) f) w ≡ Took m → Headed m.due m
  unfolding block_at take_generic take_site take_task take_cut take_radial take_moment take_data after_data size_at radial_at Headed
  headed-on due.Generic w m h e = subst (λ (x : Walk). Headed x.due x) (settle-took _ _ _ m e) tt
  headed-on due.Site w m h e = subst (λ (x : Walk). Headed x.due x) (settle-took _ _ _ m e) tt
  headed-on due.Task w m h e = subst (λ (x : Walk). Headed x.due x) (settle-took _ _ _ m e) tt
  headed-on due.Cut w m h e = subst (λ (x : Walk). Headed x.due x) (settle-took _ _ _ m e) (due-either Headed _ due.Radial due.Cut _ tt tt)
  headed-on due.Radial w m h e =
      subst (λ (x : Walk). Headed x.due x) (settle-took _ _ _ m e)
      (ap (λ (b : List ℕ). (radial_of b).sequence) (sym (part-take 64 f w.at (w.at + 64) (omega arith))))
  headed-on due.Moment w m h e = subst (λ (x : Walk). Headed x.due x) (settle-took _ _ _ m e) h
  headed-on due.Data w m h e =
      subst (λ (x : Walk). Headed x.due x) (took-inj _ m e)
      (due-either Headed _ due.Moment _ _ h (due-either Headed _ due.Nothing due.Radial _ tt tt))
  headed-on due.Nothing w m h e = absurd (let z : ◌≡◌ {A = ℕ} 0 1 = cc in omega arith)

  -- a step that ends a radial numbers it by one more than the radials before it
  number : (w : Walk) → Steady w.due w → Headed w.due w → ends_radial w.due w.rest.todo ≡ true
      → (radial_at f w.present.start).sequence ≡ suc w.count.whole
  unfolding Steady Headed
  number w s h e =
      let d = ends-data w.due w.rest.todo e in
      subst (λ (x : Due). Headed x w) d h ∙ subst (λ (x : Due). Steady x w) d s

  number_step : (b : Bool) (w m : Walk) (t : List Stretch) → length (stretch_if b w m []) + w.count.whole ≡ m.count.whole
      → (b ≡ true → (radial_at f w.present.start).sequence ≡ suc w.count.whole) → Sequenced m.count.whole t → Sequenced w.count.whole (stretch_if b w m t)
  unfolding stretch_if
  number_step true w m t c g r = let one : m.count.whole ≡ suc w.count.whole = omega arith in (g refl, subst (λ (n : ℕ). Sequenced n t) one r)
  number_step false w m t c g r = let none : m.count.whole ≡ w.count.whole = omega arith in subst (λ (n : ℕ). Sequenced n t) none r

  counted : (w m : Walk) → Steady w.due w → step_of f w ≡ Took m → length (stretch_of w m []) + w.count.whole ≡ m.count.whole
  unfolding walk_by
  counted w m s e =
      ap (λ (l : List Stretch). length l + w.count.whole) (sym (run-took true (λ v. []) stretch_of 0 f w m e))
      ∙ counted-on 1 f w s
      ∙ ap (λ (x : Walk). x.count.whole) (run-took true (λ v. v) (λ v n r. r) 0 f w m e)

  sequenced-on : (k : ℕ) (w : Walk) → Steady w.due w → Headed w.due w → Sequenced w.count.whole (trace k f w)
  sequenced-on =
      run_holds true (λ v. []) stretch_of f (λ w l. Steady w.due w → Headed w.due w → Sequenced w.count.whole l) (λ w s h. tt)
      (λ w m l e r s h. let b = (taken f w m e).block in
      number_step (ends_radial w.due w.rest.todo) w m l (counted w m s e) (number w s h) (r (steady-on w.due _ w m s b) (headed-on w.due w m h b)))

  nth-sequenced : (l : List Stretch) (k n : ℕ) (s : Stretch) → Sequenced k l → nth l n ≡ Some s → (radial_at f s.start).sequence ≡ k + n
  unfolding nth
  nth-sequenced [] k n s h e = absurd (let z : ◌≡◌ {A = ℕ} 0 1 = cc in omega arith)
  nth-sequenced (x ∷ l) k zero s h e = absurd (let z : ◌≡◌ {A = ℕ} 0 1 = cc in omega arith)
  nth-sequenced (x ∷ l) k (suc zero) s h e = let z : x ≡ s = cc in subst (λ (y : Stretch). (radial_at f y.start).sequence ≡ k + 1) z (h.0 ∙ omega arith)
  nth-sequenced (x ∷ l) k (suc (suc n)) s h e = nth-sequenced l (suc k) (suc n) s h.1 e ∙ omega arith

  pub nth-sequence : (n : ℕ) (s : Stretch) → nth (stretches f) n ≡ Some s → (radial_at f s.start).sequence ≡ n
  unfolding Steady Headed
  nth-sequence n s e = nth-sequenced (stretches f) 0 n s (sequenced-on (fuel f) at_start tt tt) e ∙ omega arith

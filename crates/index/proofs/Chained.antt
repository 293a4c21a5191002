-- Whole radials stand one behind the other, from behind the last cut block on: it holds at each step, and so along the run.
-- With what a header says of its radial's cut and end, they are found again with no look at their moments. Assumes nothing.
use Prim.Native.Nat.{ℕ, ◌+◌, ◌*◌, ◌≤◌}
use native.Mathlib.Omega.{arith}
use mathlib.Core.Bool.{Bool, true, false, not, ◌&&◌}
use mathlib.Core.List.{List, [], ◌∷◌}
use mathlib.Core.Path.{◌≡◌, refl, sym, ap, subst, ◌∙◌}
use borrow.Author.Tests.{eqb-true, eqb-false, leb-true, leb-false}
use lib.Dec.{leb, ltb}
use lib.ListN.{length, take}
use Rattle.le.specs.Le.{le}
use Rattle.rules.proofs.Judged.{all_hold}
use Rattle.rules.proofs.Numbers.{some-cut}
use Rattle.task.specs.Task.{task_at, task_check, task_rules}
use Rattle.cut.specs.Cut.{cut_at}
use Rattle.radial.specs.Radial.{radial_at}
use Rattle.walk.specs.declared.due.Due.{Due}
use Rattle.walk.specs.declared.due.Due.TheVariants as due
use Rattle.walk.specs.declared.due.Walk.{Walk}
use Rattle.walk.specs.Due.{size_at, due_if, ends_radial, at_start}
use Rattle.walk.specs.After.{closes_cut, after_cut}
use Rattle.reading.specs.declared.Stretch.{Stretch}
use Rattle.reading.specs.declared.step.Step.TheVariants.{Took}
use Rattle.reading.specs.Step.{take_generic, take_site, take_task, take_cut, take_radial, take_moment, take_data, block_at}
use Rattle.reading.specs.Reading.{fuel, stretch_if, stretch_of, stretches}
use Rattle.reading.proofs.Radials.{Said, said, each-radial}
use Rattle.reading.proofs.Run.{settle-took, settle-fine, data_then, took_more, took-last, due-either, taken, run_holds}
use Rattle.index.specs.Making.{cuts_in, first_radial}
use Rattle.index.proofs.Walked.{cut-number}

-- ---- each radial starts where the one before it ends

unfoldable Row : ℕ → List Stretch → Type 0
Row at [] = Unit {0}
Row at (s ∷ ss) = (s.start ≡ at) × Row s.end ss

-- where the radials to come stand, by the block that is due: inside a radial, that one is the first of them
unfoldable Linked : List ℕ → Due → Walk → List Stretch → Type 0
Linked f due.Generic w t = w.at ≡ 0 → Row (first_radial (cuts_in f)) t
Linked f due.Site w t = w.at ≡ 32 → Row (first_radial (cuts_in f)) t
Linked f due.Task w t = w.at ≡ 160 → Row (first_radial (cuts_in f)) t
Linked f due.Cut w t = 1 ≤ w.rest.todo → Row (w.at + 256 * w.rest.todo) t
Linked f due.Radial w t = Row w.at t
Linked f due.Moment w t = Row w.present.start t
Linked f due.Data w t = Row w.present.start t
Linked f due.Nothing w t = Row w.at t

none-linked : (f : List ℕ) (d : Due) (w : Walk) → Linked f d w []
unfolding Linked Row
none-linked f due.Generic w = λ h. tt
none-linked f due.Site w = λ h. tt
none-linked f due.Task w = λ h. tt
none-linked f due.Cut w = λ h. tt
none-linked f due.Radial w = tt
none-linked f due.Moment w = tt
none-linked f due.Data w = tt
none-linked f due.Nothing w = tt

module _ (f : List ℕ) (w m : Walk) (t : List Stretch) (later : Linked f m.due m t) where
  moved : (x : Walk) → x ≡ m → Linked f x.due x t
  moved x e = subst (λ (y : Walk). Linked f y.due y t) (sym e) later

  by-task : take_task (task_at (take (w.at + 256) f) w.at) w ≡ Took m → w.at ≡ 160 → Row (first_radial (cuts_in f)) t
  unfolding take_task task_check Linked
  by-task e a =
      let r = task_at (take (w.at + 256) f) w.at in
      let k = some-cut r.scan_type r.cut_number (all_hold (task_rules r) (settle-fine _ _ _ m e)).1.1.1.0 in
      let n = cut-number f w.at ∙ ap (λ (at : ℕ). le 4 f (at + 176)) a in
      subst (λ (x : ℕ). Row x t) (omega arith) (moved _ (settle-took _ _ _ m e) k)

  by-cut : take_cut (cut_at (take (w.at + 256) f) w.at) w ≡ Took m → 1 ≤ w.rest.todo → Row (w.at + 256 * w.rest.todo) t
  unfolding take_cut Linked due_if
  by-cut e h = go (leb w.rest.todo 1) refl (moved _ (settle-took _ _ _ m e))
    where
      go : (b : Bool) → leb w.rest.todo 1 ≡ b → Linked f (due_if (leb w.rest.todo 1) due.Radial due.Cut) (after_cut w (w.at + 256)) t → Row (w.at + 256 * w.rest.todo) t
      go true q l = let k = leb-true w.rest.todo 1 q in subst (λ (x : ℕ). Row x t) (omega arith) (rw q at l)
      go false q l = let k = leb-false w.rest.todo 1 q in subst (λ (x : ℕ). Row x t) (omega arith) (rw q at l (omega arith))

  by-data : take_data w ≡ Took m → (b : Bool) → ends_radial due.Data w.rest.todo ≡ b → Row w.present.start (stretch_if b w m t)
  unfolding ends_radial stretch_if Linked due_if Row
  by-data e true q =
      let s = took-last w m (eqb-true w.rest.todo 0 q) e in
      let g = due-either (λ d x. Linked f d x t → Row x.at t) (closes_cut w && not (ltb w.count.cut w.plan.cuts)) due.Nothing due.Radial (data_then false w) (λ x. x) (λ x. x) in
      (refl, subst (λ (x : Walk). Row x.at t) s (g (moved (data_then false w) s)))
  by-data e false q = let n = eqb-false w.rest.todo 0 q in moved (data_then true w) (took_more w m (omega arith) e)

  linked_on : (d : Due) → block_at d (take (w.at + size_at d w.rest.length) f) w ≡ Took m → Linked f d w (stretch_if (ends_radial d w.rest.todo) w m t)
  unfolding block_at take_generic take_site take_radial take_moment size_at ends_radial stretch_if Linked
  linked_on due.Generic e = λ a. moved _ (settle-took _ _ _ m e) (omega arith)
  linked_on due.Site e = λ a. moved _ (settle-took _ _ _ m e) (omega arith)
  linked_on due.Task e = by-task e
  linked_on due.Cut e = by-cut e
  linked_on due.Radial e = moved _ (settle-took _ _ _ m e)
  linked_on due.Moment e = moved _ (settle-took _ _ _ m e)
  linked_on due.Data e = by-data e (ends_radial due.Data w.rest.todo) refl
  linked_on due.Nothing e = absurd (let z : ◌≡◌ {A = ℕ} 0 1 = cc in omega arith)

in_row : (f : List ℕ) → Row (first_radial (cuts_in f)) (stretches f)
unfolding Linked
in_row f =
    run_holds true (λ v. []) stretch_of f (λ w t. Linked f w.due w t) (λ w. none-linked f w.due w) (λ w m t e r. linked_on f w m t r w.due (taken f w m e).block) (fuel f) at_start
    refl

-- ---- and its header says where that is

unfoldable pub Chain : List ℕ → ℕ → List Stretch → Type 0
Chain f at [] = Unit {0}
Chain f at (s ∷ ss) =
    (s.start ≡ at) × (at + 64 ≤ length f) × (s.cut ≡ (radial_at f at).elevation_number) × Chain f (at + 64 + (radial_at f at).length_of_data) ss

chain_more : (f : List ℕ) (s : Stretch) (ss : List Stretch) (at : ℕ) → Said f s → s.start + 64 ≤ length f → ((at : ℕ) → Row at ss → Chain f at ss) → Row at (s ∷ ss) → Chain f at (s ∷ ss)
unfolding Chain Row
chain_more f s ss at k h r x =
    let e = x.0 in (
      e,
      rw (← e) h,
      k.cut ∙ ap (λ (n : ℕ). (radial_at f n).elevation_number) e,
      r _ (subst (λ (n : ℕ). Row n ss) (k.end ∙ ap (λ (n : ℕ). n + 64 + (radial_at f n).length_of_data) e) x.1),
    )

pub chained : (f : List ℕ) → Chain f (first_radial (cuts_in f)) (stretches f)
unfolding Chain
chained f =
    each-radial f (λ ss. (at : ℕ) → Row at ss → Chain f at ss) (λ at r. tt)
    (λ w s ss o h r at. let e = o.end in chain_more f s ss at (said f s o.whole) (omega arith) r)
    (first_radial (cuts_in f)) (in_row f)

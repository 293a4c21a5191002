-- Where a walk stands from the start on: where a radial is due, in one of the task's cuts and past the blocks of all of them. Each step
-- keeps it. Assumes nothing.
use Prim.Native.Nat.{ℕ, ◌+◌, ◌*◌, ◌≤◌}
use native.Mathlib.Omega.{arith}
use mathlib.Core.Path.{◌≡◌, refl, subst}
use mathlib.Core.Bool.{Bool, true, false}
use mathlib.Core.List.{List}
use borrow.Author.Tests.{leb-true, leb-false, ltb-true}
use lib.Dec.{leb, ltb}
use lib.ListN.{length}
use Rattle.rules.proofs.Allowed.{cuts-allowed}
use Rattle.rules.proofs.Judged.{all_hold}
use Rattle.task.specs.Task.{task_at, task_check, task_rules}
use Rattle.walk.specs.declared.due.Due.{Due}
use Rattle.walk.specs.declared.due.Due.TheVariants as due
use Rattle.walk.specs.declared.due.Walk.{Walk}
use Rattle.reading.specs.declared.step.Step.TheVariants.{Took}
use Rattle.walk.specs.Due.{due_if, at_start, cut_place}
use Rattle.walk.specs.After.{after_cut, after_data, after_data_if, closes_cut}
use Rattle.reading.specs.Step.{take_generic, take_site, take_task, take_cut, take_radial, take_moment, take_data, block_at}
use Rattle.reading.specs.Reading.{fuel, stop}
use Rattle.reading.proofs.Run.{settle-took, settle-fine, took-inj, taken, last-holds}

-- the cuts' blocks: those behind where radials come, and those still to come
pub record Behind (w : Walk) : Type 0 where
  pub one : 1 ≤ w.count.cut
  pub last : w.count.cut ≤ w.plan.cuts
  pub cuts : 416 + 256 * w.plan.cuts ≤ w.at

record Coming (w : Walk) : Type 0 where
  some : 1 ≤ w.plan.cuts
  cuts : 416 + 256 * w.plan.cuts ≤ w.at + 256 * w.rest.todo

unfoldable Far : Due → Walk → Type 0
Far due.Generic w = Unit {0}
Far due.Site w = 32 ≤ w.at
Far due.Task w = 160 ≤ w.at
Far due.Cut w = Coming w
Far due.Radial w = Behind w
Far due.Moment w = Behind w
Far due.Data w = Behind w
Far due.Nothing w = Unit {0}

far-cut : (w : Walk) (b : Bool) → leb w.rest.todo 1 ≡ b → Coming w → Far (due_if b due.Radial due.Cut) (after_cut w (w.at + 256))
unfolding Far due_if
far-cut w true e h = let t = leb-true w.rest.todo 1 e in record { one = omega arith; last = omega arith; cuts = omega arith }
far-cut w false e h = let t = leb-false w.rest.todo 1 e in record { some = h.some; cuts = omega arith }

far-data : (more closes later : Bool) (w : Walk) (end : ℕ) → ltb w.count.cut w.plan.cuts ≡ later → w.at ≤ end → Behind w
    → Far (after_data_if more closes later w end).due (after_data_if more closes later w end)
unfolding Far due_if
far-data true closes later w end e l h = record { one = h.one; last = h.last; cuts = omega arith }
far-data false true true w end e l h = let t = ltb-true w.count.cut w.plan.cuts e in record { one = omega arith; last = omega arith; cuts = omega arith }
far-data false true false w end e l h = tt
far-data false false true w end e l h = record { one = h.one; last = h.last; cuts = omega arith }
far-data false false false w end e l h = record { one = h.one; last = h.last; cuts = omega arith }

far-task : (p : List ℕ) (w m : Walk) → 160 ≤ w.at → take_task (task_at p w.at) w ≡ Took m → Far m.due m
unfolding take_task task_check Far
far-task p w m h e =
    let r = task_at p w.at in
    let k = all_hold (task_rules r) (settle-fine _ _ _ m e) in
    let some = ((cuts-allowed r.scan_type r.cut_number).0 k.1.1.1.0).0 in
    subst (λ (x : Walk). Far x.due x) (settle-took _ _ _ m e) (record { some = some; cuts = omega arith })

far-on : (d : Due) (p : List ℕ) (w m : Walk) → Far d w → block_at d p w ≡ Took m → Far m.due m
unfolding block_at take_generic take_site take_task take_cut take_radial take_moment take_data after_data Far
far-on due.Generic p w m h e = subst (λ (x : Walk). Far x.due x) (settle-took _ _ _ m e) (omega arith)
far-on due.Site p w m h e = subst (λ (x : Walk). Far x.due x) (settle-took _ _ _ m e) (omega arith)
far-on due.Task p w m h e = far-task p w m h e
far-on due.Cut p w m h e = subst (λ (x : Walk). Far x.due x) (settle-took _ _ _ m e) (far-cut w (leb w.rest.todo 1) refl h)
far-on due.Radial p w m h e = subst (λ (x : Walk). Far x.due x) (settle-took _ _ _ m e) (record { one = h.one; last = h.last; cuts = omega arith })
far-on due.Moment p w m h e = subst (λ (x : Walk). Far x.due x) (settle-took _ _ _ m e) (record { one = h.one; last = h.last; cuts = omega arith })
far-on due.Data p w m h e = subst (λ (x : Walk). Far x.due x) (took-inj _ m e) (far-data (ltb 0 w.rest.todo) (closes_cut w) (ltb w.count.cut w.plan.cuts) w (w.at + w.rest.length) refl (omega arith) h)
far-on due.Nothing p w m h e = absurd (let z : ◌≡◌ {A = ℕ} 0 1 = cc in omega arith)

-- where a radial is due, the blocks of its cut and of every other lie in what was read
pub behind : (f : List ℕ) (w : Walk) → stop f ≡ w → w.due ≡ due.Radial → Behind w
unfolding Far
behind f w e d =
    let h : Far w.due w = subst (λ (x : Walk). Far x.due x) e (last-holds true f (λ x. Far x.due x) (λ v m q h. far-on v.due _ v m h (taken f v m q).block) (fuel f) at_start tt) in
    subst (λ (x : Due). Far x w) d h

pub cut-behind : (f : List ℕ) (w : Walk) → stop f ≡ w → w.due ≡ due.Radial → cut_place w.count.cut + 256 ≤ w.at
cut-behind f w e d =
    let b = behind f w e d in
    let o = b.one in
    let l = b.last in
    let c = b.cuts in
    omega arith

-- What a walk says of its radials and cuts. Whole radials come cut by cut, since no block lowers the lowest cut that a
-- radial to come can have. Where the walk is over it has as many cuts as the task's bytes say, since the first three blocks
-- have fixed places and no later block changes the number. Both hold at each step, and so along the run. Assumes nothing.
use Prim.Native.Nat.{ℕ, ◌+◌, ◌<◌, ◌≤◌}
use native.Mathlib.Nat.{le_refl, le_trans}
use native.Mathlib.Omega.{arith}
use mathlib.Core.Bool.{Bool, true, false, not, cond, ◌&&◌}
use mathlib.Core.List.{List, [], ◌∷◌}
use mathlib.Core.Path.{◌≡◌, refl, ap, subst, ◌∙◌}
use borrow.Author.Tests.{ne_eqb}
use lib.Dec.{ltb}
use lib.ListN.{take}
use Rattle.le.specs.Le.{le}
use Rattle.le.proofs.Laws.{le-part, part-take}
use Rattle.task.specs.Task.{task_at, task_of}
use Rattle.walk.specs.declared.due.Due.{Due}
use Rattle.walk.specs.declared.due.Due.TheVariants as due
use Rattle.walk.specs.declared.due.Walk.{Walk}
use Rattle.reading.specs.declared.Stretch.{Stretch}
use Rattle.reading.specs.declared.step.Step.TheVariants.{Took}
use Rattle.walk.specs.After.{after_data, closes_cut}
use Rattle.walk.specs.Due.{size_at, is_end, ends_radial, at_start}
use Rattle.reading.specs.Reading.{fuel, stop, ending, stretch_if, stretch_of, stretches, told}
use Rattle.reading.specs.Step.{take_generic, take_site, take_task, take_cut, take_radial, take_moment, take_data, block_at}
use Rattle.reading.proofs.Exactly.{step-done}
use Rattle.reading.proofs.Run.{ended, settle-took, took-inj, due-either, ends-data, taken, run_holds, last-holds}
use Rattle.index.specs.Index.{radials_in}
use Rattle.index.specs.Making.{cuts_in}

-- ---- whole radials come cut by cut

-- no radial is of a lower cut than one before it, nor than c
unfoldable pub Rising : ℕ → List Stretch → Type 0
Rising c [] = Unit {0}
Rising c (s ∷ ss) = (c ≤ s.cut) × Rising s.cut ss

pub rising-from : (b c : ℕ) (ss : List Stretch) → b ≤ c → Rising c ss → Rising b ss
unfolding Rising
rising-from b c [] h r = tt
rising-from b c (s ∷ ss) h r = (le_trans h r.0, r.1)

pub rising_none : (k c : ℕ) (ss : List Stretch) → k < c → Rising c ss → radials_in k ss ≡ 0
unfolding Rising radials_in
rising_none k c [] h r = refl
rising_none k c (s ∷ ss) h r =
    let b = r.0 in
    rw (ne_eqb s.cut k (λ e. omega arith), rising_none k s.cut ss (omega arith) r.1)

-- the lowest cut that a radial to come can have
unfoldable floor : Due → Walk → ℕ
floor due.Generic w = 1
floor due.Site w = 1
floor due.Task w = 1
floor due.Cut w = 1
floor due.Radial w = w.count.cut
floor due.Moment w = w.count.cut
floor due.Data w = w.count.cut
floor due.Nothing w = w.count.cut

floor-data : (b : Bool) (c : ℕ) → c ≤ cond b (c + 1) c
floor-data true c = omega arith
floor-data false c = omega arith

-- a block that is taken does not lower it
floor-on : (d : Due) (p : List ℕ) (w m : Walk) → block_at d p w ≡ Took m → floor d w ≤ floor m.due m
unfolding block_at take_generic take_site take_task take_cut take_radial take_moment take_data after_data floor
floor-on due.Generic p w m e = subst (λ (x : Walk). 1 ≤ floor x.due x) (settle-took _ _ _ m e) (le_refl 1)
floor-on due.Site p w m e = subst (λ (x : Walk). 1 ≤ floor x.due x) (settle-took _ _ _ m e) (le_refl 1)
floor-on due.Task p w m e = subst (λ (x : Walk). 1 ≤ floor x.due x) (settle-took _ _ _ m e) (le_refl 1)
floor-on due.Cut p w m e = subst (λ (x : Walk). 1 ≤ floor x.due x) (settle-took _ _ _ m e) (due-either (λ d x. 1 ≤ floor d x) _ due.Radial due.Cut _ (le_refl 1) (le_refl 1))
floor-on due.Radial p w m e = subst (λ (x : Walk). w.count.cut ≤ floor x.due x) (settle-took _ _ _ m e) (le_refl w.count.cut)
floor-on due.Moment p w m e = subst (λ (x : Walk). w.count.cut ≤ floor x.due x) (settle-took _ _ _ m e) (le_refl w.count.cut)
floor-on due.Data p w m e =
    let n = after_data w (w.at + w.rest.length) in
    let up : w.count.cut ≤ n.count.cut = floor-data (not (ltb 0 w.rest.todo) && closes_cut w && ltb w.count.cut w.plan.cuts) w.count.cut in
    subst (λ (x : Walk). w.count.cut ≤ floor x.due x) (took-inj n m e)
    (due-either (λ d x. w.count.cut ≤ floor d x) _ due.Moment _ n up (due-either (λ d x. w.count.cut ≤ floor d x) _ due.Nothing due.Radial n up up))
floor-on due.Nothing p w m e = absurd (let z : ◌≡◌ {A = ℕ} 0 1 = cc in omega arith)

rising_step : (b : Bool) (w m : Walk) (t : List Stretch) (c : ℕ) → (b ≡ true → c ≡ w.count.cut) → c ≤ floor m.due m
    → Rising (floor m.due m) t → Rising c (stretch_if b w m t)
unfolding Rising stretch_if
rising_step true w m t c g h r = let e = g refl in (omega arith, rising-from w.count.cut (floor m.due m) t (omega arith) r)
rising_step false w m t c g h r = rising-from c (floor m.due m) t h r

-- cuts are numbered from 1
pub rising : (f : List ℕ) → Rising 1 (stretches f)
unfolding floor Rising
rising f =
    run_holds true (λ v. []) stretch_of f (λ w t. Rising (floor w.due w) t) (λ w. tt)
    (λ w m t e r. rising_step (ends_radial w.due w.rest.todo) w m t (floor w.due w)
    (λ q. ap (λ (d : Due). floor d w) (ends-data w.due w.rest.todo q)) (floor-on w.due _ w m (taken f w m e).block) r)
    (fuel f) at_start

-- ---- the number of cuts stands in the task's bytes

-- where the first blocks are due; after them, how many cuts there are
unfoldable Planned : List ℕ → Due → Walk → Type 0
Planned f due.Generic w = w.at ≡ 0
Planned f due.Site w = w.at ≡ 32
Planned f due.Task w = w.at ≡ 160
Planned f due.Cut w = w.plan.cuts ≡ cuts_in f
Planned f due.Radial w = w.plan.cuts ≡ cuts_in f
Planned f due.Moment w = w.plan.cuts ≡ cuts_in f
Planned f due.Data w = w.plan.cuts ≡ cuts_in f
Planned f due.Nothing w = w.plan.cuts ≡ cuts_in f

-- the task's field, read from the file up to the task's end
pub cut-number : (f : List ℕ) (at : ℕ) → (task_at (take (at + 256) f) at).cut_number ≡ le 4 f (at + 176)
unfolding task_at task_of
cut-number f at = ap (λ (p : List ℕ). (task_of p).cut_number) (part-take 256 f at (at + 256) (omega arith)) ∙ le-part 4 256 f at 176 (omega arith)

planned-on : (f : List ℕ) (d : Due) (w m : Walk) → Planned f d w → block_at d (take (w.at + size_at d w.rest.length) f) w ≡ Took m → Planned f m.due m
unfolding block_at take_generic take_site take_task take_cut take_radial take_moment take_data after_data Planned size_at
planned-on f due.Generic w m h e = subst (λ (x : Walk). Planned f x.due x) (settle-took _ _ _ m e) (omega arith)
planned-on f due.Site w m h e = subst (λ (x : Walk). Planned f x.due x) (settle-took _ _ _ m e) (omega arith)
planned-on f due.Task w m h e =
    subst (λ (x : Walk). Planned f x.due x) (settle-took _ _ _ m e)
    (cut-number f w.at ∙ ap (λ (at : ℕ). le 4 f (at + 176)) h)
planned-on f due.Cut w m h e = subst (λ (x : Walk). Planned f x.due x) (settle-took _ _ _ m e) (due-either (Planned f) _ due.Radial due.Cut _ h h)
planned-on f due.Radial w m h e = subst (λ (x : Walk). Planned f x.due x) (settle-took _ _ _ m e) h
planned-on f due.Moment w m h e = subst (λ (x : Walk). Planned f x.due x) (settle-took _ _ _ m e) h
planned-on f due.Data w m h e =
    subst (λ (x : Walk). Planned f x.due x) (took-inj _ m e)
    (due-either (Planned f) _ due.Moment _ _ h (due-either (Planned f) _ due.Nothing due.Radial _ h h))
planned-on f due.Nothing w m h e = absurd (let z : ◌≡◌ {A = ℕ} 0 1 = cc in omega arith)

planned-end : (f : List ℕ) (d : Due) (w : Walk) → is_end d ≡ true → Planned f d w → w.plan.cuts ≡ cuts_in f
unfolding is_end Planned
planned-end f due.Generic w e h = cc
planned-end f due.Site w e h = cc
planned-end f due.Task w e h = cc
planned-end f due.Cut w e h = h
planned-end f due.Radial w e h = h
planned-end f due.Moment w e h = h
planned-end f due.Data w e h = h
planned-end f due.Nothing w e h = h

pub cuts-read : (f : List ℕ) → told f ≡ 0 ∷ [] → (stop f).plan.cuts ≡ cuts_in f
unfolding Planned
cuts-read f e =
    planned-end f (stop f).due (stop f) (ended true f (stop f) (step-done (ending f) e)).0
    (last-holds true f (λ w. Planned f w.due w) (λ w m q h. planned-on f w.due w m h (taken f w m q).block) (fuel f) at_start refl)

-- What holds of every walk that a reading reaches, hope asked for or not: each step by the blocks' own rules keeps it. Assumes nothing.
use Prim.Native.Nat.{ℕ, ◌+◌, ◌-◌, ◌*◌, ◌^◌, ◌≤◌, ◌<◌}
use native.Mathlib.Omega.{arith}
use mathlib.Core.Path.{◌≡◌, refl, sym, ap, subst, ◌∙◌}
use mathlib.Core.Bool.{Bool, true, false}
use mathlib.Core.List.{List}
use lib.Dec.{leb, ltb}
use lib.ListN.{take}
use borrow.Author.Tests.{leb-true, leb-false, ltb-true}
use Rattle.le.specs.Le.{Bytes}
use Rattle.le.proofs.Laws.{le-lt, part_bytes, part-take}
use Rattle.rules.specs.Ranges.{most_sequence}
use Rattle.rules.proofs.Allowed.{cuts-allowed}
use Rattle.rules.proofs.Judged.{all_hold}
use Rattle.rules.proofs.Numbers.{most_cuts-most}
use Rattle.cut.specs.Cut.{cut_of, cut_at}
use Rattle.radial.specs.declared.Radial.{Radial}
use Rattle.radial.specs.Radial.{radial_at, radial_check, radial_rules}
use Rattle.radial.proofs.Header.{header}
use Rattle.task.specs.declared.Task.{Task}
use Rattle.task.specs.Task.{task_of, task_at, task_check, task_rules}
use Rattle.walk.specs.declared.due.Due.{Due}
use Rattle.walk.specs.declared.due.Due.TheVariants as due
use Rattle.walk.specs.declared.due.Walk.{Walk}
use Rattle.walk.specs.Due.{size_at, due_if, cut_place, radial_due}
use Rattle.walk.specs.After.{after_cut, after_data, after_data_if, closes_cut}
use Rattle.reading.specs.declared.step.Step.TheVariants.{Took}
use Rattle.reading.specs.Step.{take_generic, take_site, take_task, take_cut, take_radial, take_moment, take_data, cut_in, block_at}
use Rattle.reading.proofs.Run.{settle-took, settle-fine, took-inj}

-- the masks of a file's first n cuts are numbers of 64 bits; those of all its cuts, as many as its task says
abbrev pub Narrow : List ℕ → ℕ → Type 0
Narrow f n = (c : ℕ) → 1 ≤ c → c ≤ n → (cut_at f (cut_place c)).moments_mask < 2 ^ 64

abbrev pub AllNarrow : List ℕ → Type 0
AllNarrow f = Narrow f (task_at f 160).cut_number

pub bytes-narrow : (f : List ℕ) → Bytes f → AllNarrow f
unfolding cut_at cut_of
bytes-narrow f bs c a b = le-lt 8 _ 84 (part_bytes 256 f (cut_place c) bs)

-- before the first radial nothing is counted
pub record Fresh (at : ℕ) (w : Walk) : Type 0 where
  pub place : w.at ≡ at
  pub whole : w.count.whole ≡ 0
  pub in_cut : w.count.in_cut ≡ 0

-- a cut's block is due, behind those that are there
pub record Cutting (f : List ℕ) (w : Walk) : Type 0 where
  pub fresh : Fresh (416 + 256 * (w.plan.cuts - w.rest.todo)) w
  pub some : 1 ≤ w.rest.todo
  pub most : w.rest.todo ≤ w.plan.cuts
  pub few : w.plan.cuts ≤ 256
  pub narrow : Narrow f w.plan.cuts

-- radials come, of one of the task's cuts, all of whose blocks are there
pub record Stands (f : List ℕ) (w : Walk) : Type 0 where
  pub first : 1 ≤ w.count.cut
  pub last : w.count.cut ≤ w.plan.cuts
  pub few : w.plan.cuts ≤ 256
  pub place : 416 + 256 * w.plan.cuts ≤ w.at
  pub narrow : Narrow f w.plan.cuts

-- a radial is begun, with its own cut's mask
pub record Inside (f : List ℕ) (w : Walk) : Type 0 where
  pub stands : Stands f w
  pub mask : w.present.mask ≡ (cut_at f (cut_place w.count.cut)).moments_mask
  pub numbered : 1 ≤ w.count.in_cut
  pub counted : w.present.sequence ≤ most_sequence

pub mask-small : (f : List ℕ) (w : Walk) → Inside f w → w.present.mask < 2 ^ 64
mask-small f w i = subst (λ (k : ℕ). k < 2 ^ 64) (sym i.mask) (i.stands.narrow w.count.cut i.stands.first i.stands.last)

unfoldable pub Was : Due → List ℕ → Walk → Type 0
Was due.Generic f w = Fresh 0 w
Was due.Site f w = Fresh 32 w
Was due.Task f w = Fresh 160 w
Was due.Cut f w = Cutting f w
Was due.Radial f w = Stands f w
Was due.Moment f w = Inside f w × (1 ≤ w.rest.todo)
Was due.Data f w = Inside f w
Was due.Nothing f w = Unit {0}

-- as many cuts as the task says
was-task : (f : List ℕ) (w m : Walk) → AllNarrow f → Fresh 160 w → take_task (task_at (take (w.at + 256) f) w.at) w ≡ Took m → Was m.due f m
unfolding take_task task_check task_at Was
was-task f w m small h e =
    let r = task_at (take (w.at + 256) f) w.at in
    let k = all_hold (task_rules r) (settle-fine _ _ _ m e) in
    let c = (cuts-allowed r.scan_type r.cut_number).0 k.1.1.1.0 in
    let some = c.0 in
    let most = c.1 in
    let limit = most_cuts-most r.scan_type in
    let p = h.place in
    let same : task_at f 160 ≡ r = ap (task_at f) (sym p) ∙ sym (ap task_of (part-take 256 f w.at (w.at + 256) (omega arith))) in
    subst (λ (x : Walk). Was x.due f x) (settle-took _ _ _ m e)
    (record {
      fresh = record { place = omega arith; whole = h.whole; in_cut = h.in_cut };
      some = omega arith;
      most = omega arith;
      few = omega arith;
      narrow = subst (λ (t : Task). Narrow f t.cut_number) same small;
    })

was-cut : (b : Bool) (f : List ℕ) (w : Walk) → leb w.rest.todo 1 ≡ b → Cutting f w → Was (due_if b due.Radial due.Cut) f (after_cut w (w.at + 256))
unfolding Was due_if
was-cut true f w e h =
    let t = leb-true w.rest.todo 1 e in
    let s = h.some in
    let m = h.most in
    let p = h.fresh.place in
    record { first = omega arith; last = omega arith; few = h.few; place = omega arith; narrow = h.narrow }
was-cut false f w e h =
    let t = leb-false w.rest.todo 1 e in
    let m = h.most in
    let p = h.fresh.place in
    record { fresh = record { place = omega arith; whole = h.fresh.whole; in_cut = h.fresh.in_cut }; some = omega arith; most = omega arith; few = h.few; narrow = h.narrow }

was-radial : (f : List ℕ) (w m : Walk) → Stands f w → take_radial (radial_at (take (w.at + 64) f) w.at) (cut_in (take (w.at + 64) f) w) w ≡ Took m → Was m.due f m
unfolding take_radial radial_check cut_at Was
was-radial f w m h e =
    let r = radial_at (take (w.at + 64) f) w.at in
    let k = header r (radial_due w) (all_hold (radial_rules r (radial_due w)) (settle-fine _ _ _ m e)) in
    let a = h.first in
    let b = h.last in
    let p = h.place in
    let n = k.number in
    let s = k.sequence in
    let v = k.in-volume in
    subst (λ (x : Walk). Was x.due f x) (settle-took _ _ _ m e) (
      record {
        stands = record { first = a; last = b; few = h.few; place = omega arith; narrow = h.narrow };
        mask = ap (λ (l : List ℕ). (cut_of l).moments_mask) (part-take 256 f (cut_place w.count.cut) (w.at + 64) (omega arith));
        numbered = omega arith;
        counted = omega arith;
      },
      k.some,
    )

was-data : (more closes later : Bool) (f : List ℕ) (w : Walk) (end : ℕ) → ltb 0 w.rest.todo ≡ more → ltb w.count.cut w.plan.cuts ≡ later → w.at ≤ end → Inside f w
    → Was (after_data_if more closes later w end).due f (after_data_if more closes later w end)
unfolding Was due_if
was-data true closes later f w end e l k h =
    let s = h.stands in
    let p = s.place in
    (record { stands = record { first = s.first; last = s.last; few = s.few; place = omega arith; narrow = s.narrow }; mask = h.mask; numbered = h.numbered; counted = h.counted }, ltb-true 0 w.rest.todo e)
was-data false true true f w end e l k h =
    let s = h.stands in
    let p = s.place in
    let t = ltb-true w.count.cut w.plan.cuts l in
    record { first = omega arith; last = omega arith; few = s.few; place = omega arith; narrow = s.narrow }
was-data false true false f w end e l k h = tt
was-data false false true f w end e l k h = let s = h.stands in let p = s.place in record { first = s.first; last = s.last; few = s.few; place = omega arith; narrow = s.narrow }
was-data false false false f w end e l k h = let s = h.stands in let p = s.place in record { first = s.first; last = s.last; few = s.few; place = omega arith; narrow = s.narrow }

pub was-on : (d : Due) (f : List ℕ) (w m : Walk) → AllNarrow f → Was d f w → block_at d (take (w.at + size_at d w.rest.length) f) w ≡ Took m → Was m.due f m
unfolding block_at take_generic take_site take_cut take_moment take_data after_data size_at Was
was-on due.Generic f w m small h e = let p = h.place in subst (λ (x : Walk). Was x.due f x) (settle-took _ _ _ m e) (record { place = omega arith; whole = h.whole; in_cut = h.in_cut })
was-on due.Site f w m small h e = let p = h.place in subst (λ (x : Walk). Was x.due f x) (settle-took _ _ _ m e) (record { place = omega arith; whole = h.whole; in_cut = h.in_cut })
was-on due.Task f w m small h e = was-task f w m small h e
was-on due.Cut f w m small h e = subst (λ (x : Walk). Was x.due f x) (settle-took _ _ _ m e) (was-cut (leb w.rest.todo 1) f w refl h)
was-on due.Radial f w m small h e = was-radial f w m h e
was-on due.Moment f w m small h e =
    let s = h.0.stands in
    let p = s.place in
    subst (λ (x : Walk). Was x.due f x) (settle-took _ _ _ m e)
    (record { stands = record { first = s.first; last = s.last; few = s.few; place = omega arith; narrow = s.narrow }; mask = h.0.mask; numbered = h.0.numbered; counted = h.0.counted })
was-on due.Data f w m small h e =
    subst (λ (x : Walk). Was x.due f x) (took-inj _ m e)
    (was-data (ltb 0 w.rest.todo) (closes_cut w) (ltb w.count.cut w.plan.cuts) f w (w.at + w.rest.length) refl refl (omega arith) h)
was-on due.Nothing f w m small h e = absurd (let z : ◌≡◌ {A = ℕ} 0 1 = cc in omega arith)

-- Hope runs backwards: a walk from which the plain reading comes to a volume's end had hope, and so the reading takes every block on the
-- way. Assumes nothing.
use Prim.Native.Nat.{ℕ, zero, suc, ◌+◌, ◌-◌, ◌*◌, ◌^◌, ◌≤◌, ◌<◌}
use native.Mathlib.Decide.{dec_lt}
use native.Mathlib.Omega.{arith}
use mathlib.Core.Path.{◌≡◌, refl, sym, ap, subst, subst⁻¹, ◌∙◌}
use mathlib.Core.Bool.{Bool, true, false}
use mathlib.Core.List.{List, [], ◌∷◌}
use mathlib.Core.Logic.{dite}
use lib.Dec.{eqb, leb, ltb}
use lib.ListN.{take}
use borrow.Author.Tests.{le-leb, lt-ltb, eqb-true, ltb-true, ltb-false}
use Rattle.le.proofs.Laws.{part-take}
use Rattle.rules.specs.States.{closing, state_ok}
use Rattle.rules.specs.Tiling.{length_ok}
use Rattle.rules.proofs.Allowed.{first-allowed}
use Rattle.rules.proofs.Judged.{all_hold}
use Rattle.rules.proofs.Numbers.{opens-only}
use Rattle.coming.specs.Moments.{singles, doubles, fills, moments_can}
use Rattle.coming.specs.Radials.{radials_can_after}
use Rattle.coming.proofs.Filling.{of-fits}
use Rattle.coming.proofs.Steps.{last-length, no-bit}
use Rattle.coming.proofs.Steps as moments
use Rattle.coming.proofs.Radials as radials
use Rattle.cut.specs.declared.Cut.{Cut}
use Rattle.cut.specs.Cut.{cut_of, cut_at}
use Rattle.moment.specs.declared.Moment.{Moment}
use Rattle.moment.specs.Moment.{moment_at, moment_check, moment_rules, moment_size}
use Rattle.radial.specs.declared.Radial.{Radial}
use Rattle.radial.specs.Radial.{radial_at, radial_check, radial_rules}
use Rattle.radial.proofs.Header.{header}
use Rattle.walk.specs.declared.due.Due.{Due}
use Rattle.walk.specs.declared.due.Due.TheVariants as due
use Rattle.walk.specs.declared.due.Walk.{Walk}
use Rattle.walk.specs.Due.{at_start, size_at, size_of, is_end, due_if, cut_place, radial_due, moment_due}
use Rattle.walk.specs.After.{after_cut, after_radial, after_moment, after_data, after_data_if, closes_cut}
use Rattle.walk.specs.Hope.{moments_hope, radials_hope, radial_hope}
use Rattle.reading.specs.declared.step.Step.TheVariants.{Took, Complete}
use Rattle.reading.specs.Step.{take_cut, take_radial, take_moment, take_data, cut_in, block_at, hope_after_cut, hope_after_radial, hope_after_moment, hope_at, hoping, plainly, step_by, plain_step, step_of}
use Rattle.reading.specs.Reading.{walk_by, last_by, fuel, ending_told, plain_stop, plain_told, stop, told}
use Rattle.reading.proofs.Exactly.{step-done}
use Rattle.reading.proofs.Run.{settle-took, settle-fine, took-inj, plain-taken, Stays, untaken, ended, Goes, on, off, goes, run-took, run-stays}
use Rattle.hope.proofs.Was.{AllNarrow, Cutting, Stands, Inside, mask-small, Was, was-on}
use Rattle.hope.proofs.Hoped.{Masks, due_hope, cut-there, next-cut, same-cut}

-- ---- what a walk had, by what is due: the masks of the cuts whose radials are still to come stand in the file

record Inner (f : List ℕ) (w : Walk) : Type 0 where
  masks : Masks f (suc w.count.cut) w.plan.cuts
  moments : 1 ≤ w.rest.todo → moments_hope w ≡ true
  radials : radials_hope w ≡ true

unfoldable Had : Due → List ℕ → Walk → Type 0
Had due.Generic f w = Unit {0}
Had due.Site f w = Unit {0}
Had due.Task f w = Unit {0}
Had due.Cut f w = Masks f 1 w.plan.cuts
Had due.Radial f w = Masks f w.count.cut w.plan.cuts × (due_hope w ≡ true)
Had due.Moment f w = Inner f w
Had due.Data f w = Inner f w
Had due.Nothing f w = Unit {0}

-- ---- a cut's block

had-cut : (b : Bool) (f : List ℕ) (w : Walk) → Had (due_if b due.Radial due.Cut) f (after_cut w (w.at + 256)) → Masks f 1 w.plan.cuts
unfolding Had due_if
had-cut true f w h = h.0
had-cut false f w h = h

hope-cut : (f : List ℕ) (w : Walk) → Cutting f w → Masks f 1 w.plan.cuts → hope_after_cut (cut_at (take (w.at + 256) f) w.at) ≡ true
unfolding hope_after_cut
hope-cut f w i h =
    let s = i.some in
    let m = i.most in
    lt-ltb 0 _ (subst (λ (x : Cut). 0 < x.moments_mask) (sym (cut-there f w i)) (h (suc (w.plan.cuts - w.rest.todo)) (omega arith) (omega arith)))

-- ---- a radial header: there was room for the radials, and its cut's mask has a bit

-- a cut's first radial does not close it
first-opens : (scan cuts cut in_cut s : ℕ) → state_ok scan cuts cut in_cut s ≡ true → eqb s (closing scan cuts cut) ≡ true → 1 ≤ in_cut
first-opens scan cuts cut zero s e c = absurd (opens-only scan cuts cut (sym ((first-allowed scan cuts cut s).0 e) ∙ eqb-true s (closing scan cuts cut) c))
first-opens scan cuts cut (suc n) s e c = omega arith

had-radial : (r : Radial) (c : Cut) (w m : Walk) → take_radial r c w ≡ Took m → radials_hope m ≡ true → due_hope w ≡ true
unfolding take_radial radial_check radials_hope due_hope closes_cut
had-radial r c w m e h =
    let rules = all_hold (radial_rules r (radial_due w)) (settle-fine _ _ _ m e) in
    let k = header r (radial_due w) rules in
    let l = k.in-layer in
    let cuts = w.plan.cuts in
    let cut = w.count.cut in
    let closes = eqb r.state (closing w.plan.scan_type cuts cut) in
    let number : r.radial_number ≡ suc w.count.in_cut = let n = k.number in omega arith in
    let sequence : r.sequence ≡ suc w.count.whole = let n = k.sequence in omega arith in
    let after : radials_can_after cuts cut closes r.radial_number r.sequence ≡ true =
    subst (λ (x : Walk). radials_can_after x.plan.cuts x.count.cut (eqb x.present.state (closing x.plan.scan_type x.plan.cuts x.count.cut)) x.count.in_cut x.present.sequence ≡ true) (sym (settle-took _ _ _ m e)) h in
    radials.step_back cuts cut w.count.in_cut w.count.whole closes (first-opens w.plan.scan_type cuts cut w.count.in_cut r.state rules.0) (omega arith)
    (rw (number, sequence) at after)

had-mask : (r : Radial) (c : Cut) (w m : Walk) → take_radial r c w ≡ Took m → moments_hope m ≡ true → 0 < c.moments_mask
unfolding take_radial radial_check moments_hope
had-mask r c w m e h =
    let k = (header r (radial_due w) (all_hold (radial_rules r (radial_due w)) (settle-fine _ _ _ m e))).some in
    let n : suc (r.moment_number - 1) ≡ r.moment_number = omega arith in
    let can : moments_can c.moments_mask c.size_mask 0 r.moment_number r.length_of_data ≡ true =
    subst (λ (x : Walk). moments_can x.present.mask x.present.sizes x.rest.seen x.rest.todo x.rest.left ≡ true) (sym (settle-took _ _ _ m e)) h in
    dite (dec_lt 0 c.moments_mask) (λ s. s)
    (λ s. let z : c.moments_mask ≡ 0 = omega arith in
    let none = no-bit c.size_mask 0 (r.moment_number - 1) r.length_of_data in
    let some : moments_can 0 c.size_mask 0 (suc (r.moment_number - 1)) r.length_of_data ≡ true = rw n (rw z at can) in
    absurd (let y : ◌≡◌ {A = ℕ} 0 1 = cc in omega arith))

-- ---- a moment header: the last one fills what is left, and behind any other hope was hope before it

none_left : (mask sizes seen : ℕ) → moments_can mask sizes seen 0 0 ≡ true
unfolding moments_can fills
none_left mask sizes seen = of-fits (singles mask sizes seen) (doubles mask sizes seen) 0 0 (record { few = omega arith; most = omega arith; least = omega arith; even = λ z. refl })

hope-moment : (r : Moment) (w m : Walk) → 1 ≤ w.rest.todo → take_moment r w ≡ Took m → (1 ≤ m.rest.todo → moments_hope m ≡ true) → hope_after_moment r w ≡ true
unfolding take_moment moment_check hope_after_moment moments_hope
hope-moment r w m due e h =
    let n = after_moment r w (w.at + moment_size) in
    let t = settle-took _ _ _ m e in
    let k = all_hold (moment_rules r (moment_due w)) (settle-fine _ _ _ m e) in
    dite (dec_lt 1 w.rest.todo)
    (λ more. subst (λ (x : Walk). (1 ≤ x.rest.todo → moments_can x.present.mask x.present.sizes x.rest.seen x.rest.todo x.rest.left ≡ true)) (sym t) h (omega arith))
    (λ last. let one : w.rest.todo ≡ 1 = omega arith in
    let left : w.rest.left - (32 + r.length) ≡ 0 = last-length w.rest.left r.bin_length r.length (subst (λ (x : ℕ). length_ok x w.rest.left r.bin_length r.length ≡ true) one k.1.1.1.1.0) in
    let todo : w.rest.todo - 1 ≡ 0 = omega arith in
    rw (left, todo) (none_left w.present.mask w.present.sizes _))

had-moment : (r : Moment) (w m : Walk) → w.present.mask < 2 ^ 64 → 1 ≤ w.rest.todo → take_moment r w ≡ Took m → hope_after_moment r w ≡ true → moments_hope w ≡ true
unfolding take_moment moment_check hope_after_moment moments_hope
had-moment r w m small due e h =
    let k = all_hold (moment_rules r (moment_due w)) (settle-fine _ _ _ m e) in
    let n : suc (w.rest.todo - 1) ≡ w.rest.todo = omega arith in
    let l = w.rest.left in
    subst (λ (x : ℕ). moments_can w.present.mask w.present.sizes w.rest.seen x l ≡ true) n
    (moments.step_back w.present.mask w.present.sizes w.rest.seen r.data_type r.bin_length (w.rest.todo - 1) l r.length small
    k.0 k.1.1.1.0 (subst (λ (x : ℕ). length_ok x l r.bin_length r.length ≡ true) (sym n) k.1.1.1.1.0) h)

-- ---- data, by what follows it

had-end : (w : Walk) → closes_cut w ≡ true → w.plan.cuts ≤ w.count.cut → w.present.sequence ≤ 65536 → radials_hope w ≡ true
unfolding radials_hope radials_can_after
had-end w c l h = rw c (le-leb (w.present.sequence + 2 * (w.plan.cuts - w.count.cut)) 65536 (omega arith))

had-data : (more closes later : Bool) (f : List ℕ) (w : Walk) (end : ℕ) → ltb 0 w.rest.todo ≡ more → closes_cut w ≡ closes → ltb w.count.cut w.plan.cuts ≡ later → Inside f w
    → Had (after_data_if more closes later w end).due f (after_data_if more closes later w end) → Inner f w
unfolding Had due_if due_hope moments_hope radials_hope closes_cut
had-data true closes later f w end t c l i h = record { masks = h.masks; moments = h.moments; radials = h.radials }
had-data false true true f w end t c l i h =
    let n : w.count.cut + 1 ≡ suc w.count.cut = omega arith in
    let none = ltb-false 0 w.rest.todo t in
    record { masks = subst (λ (k : ℕ). Masks f k w.plan.cuts) n h.0; moments = λ some. absurd (omega arith); radials = next-cut w c (ltb-true w.count.cut w.plan.cuts l) ∙ h.1 }
had-data false true false f w end t c l i h =
    let over = ltb-false w.count.cut w.plan.cuts l in
    let none = ltb-false 0 w.rest.todo t in
    record { masks = λ k a b. absurd (omega arith); moments = λ some. absurd (omega arith); radials = had-end w c over i.counted }
had-data false false true f w end t c l i h =
    let none = ltb-false 0 w.rest.todo t in
    record { masks = λ k a b. h.0 k (omega arith) b; moments = λ some. absurd (omega arith); radials = same-cut w c i.numbered ∙ h.1 }
had-data false false false f w end t c l i h =
    let none = ltb-false 0 w.rest.todo t in
    record { masks = λ k a b. h.0 k (omega arith) b; moments = λ some. absurd (omega arith); radials = same-cut w c i.numbered ∙ h.1 }

-- ---- every block: hope behind it is hope before it, and the test says so

record Hopes (d : Due) (f : List ℕ) (w : Walk) : Type 0 where
  had : Had d f w
  test : hope_at d (take (w.at + size_at d w.rest.length) f) w ≡ true

-- the walk behind a block that was taken, written out
module _ (f : List ℕ) (w m : Walk) where
  back_cut : Cutting f w → take_cut (cut_at (take (w.at + 256) f) w.at) w ≡ Took m → Had m.due f m → Hopes due.Cut f w
  unfolding take_cut size_at hope_at Had
  back_cut i e h =
      let masks = had-cut (leb w.rest.todo 1) f w (subst (λ (x : Walk). Had x.due f x) (sym (settle-took _ _ _ m e)) h) in
      record { had = masks; test = hope-cut f w i masks }

  back-radial : Stands f w → take_radial (radial_at (take (w.at + 64) f) w.at) (cut_in (take (w.at + 64) f) w) w ≡ Took m → Had m.due f m → Hopes due.Radial f w
  unfolding take_radial radial_check size_at hope_at hope_after_radial radial_hope Had cut_at
  back-radial i e h =
      let r = radial_at (take (w.at + 64) f) w.at in
      let c = cut_in (take (w.at + 64) f) w in
      let n = after_radial r c.moments_mask c.size_mask w (w.at + 64) in
      let t : n ≡ m = settle-took _ _ _ m e in
      let q : take_radial r c w ≡ Took n = e ∙ ap Took (sym t) in
      let inner : Inner f n = subst (λ (x : Walk). Had x.due f x) (sym t) h in
      let some = (header r (radial_due w) (all_hold (radial_rules r (radial_due w)) (settle-fine _ _ _ m e))).some in
      let moments = inner.moments some in
      let a = i.first in
      let b = i.last in
      let p = i.place in
      let same : c ≡ cut_at f (cut_place w.count.cut) = ap cut_of (part-take 256 f (cut_place w.count.cut) (w.at + 64) (omega arith)) in
      record {
        had = (
          λ k x y. dite (dec_lt w.count.cut k) (λ l. inner.masks k l y)
              (λ l. let z : w.count.cut ≡ k = omega arith in
              subst (λ (j : ℕ). 0 < (cut_at f (cut_place j)).moments_mask) z (subst (λ (x : Cut). 0 < x.moments_mask) same (had-mask r c w n q moments))),
          had-radial r c w n q inner.radials,
        );
        test = rw moments inner.radials;
      }

  back-moment : Inside f w → 1 ≤ w.rest.todo → take_moment (moment_at (take (w.at + 32) f) w.at) w ≡ Took m → Had m.due f m → Hopes due.Moment f w
  unfolding take_moment size_at hope_at radials_hope closes_cut Had
  back-moment i some e h =
      let r = moment_at (take (w.at + 32) f) w.at in
      let n = after_moment r w (w.at + 32) in
      let t : n ≡ m = settle-took _ _ _ m e in
      let q : take_moment r w ≡ Took n = e ∙ ap Took (sym t) in
      let inner : Inner f n = subst (λ (x : Walk). Had x.due f x) (sym t) h in
      let test = hope-moment r w n some q inner.moments in
      let small = mask-small f w i in
      record { had = record { masks = inner.masks; moments = λ k. had-moment r w n small some q test; radials = inner.radials }; test = test }

  back-data : Inside f w → take_data w ≡ Took m → Had m.due f m → Hopes due.Data f w
  unfolding take_data after_data size_at hope_at Had
  back-data i e h =
      record {
        had =
            had-data (ltb 0 w.rest.todo) (closes_cut w) (ltb w.count.cut w.plan.cuts) f w (w.at + w.rest.length) refl refl refl i
            (subst (λ (x : Walk). Had x.due f x) (sym (took-inj _ m e)) h);
        test = refl;
      }

back_on : (d : Due) (f : List ℕ) (w m : Walk) → Was d f w → block_at d (take (w.at + size_at d w.rest.length) f) w ≡ Took m → Had m.due f m → Hopes d f w
unfolding block_at size_at hope_at Was Had
back_on due.Generic f w m i e h = record { had = tt; test = refl }
back_on due.Site f w m i e h = record { had = tt; test = refl }
back_on due.Task f w m i e h = record { had = tt; test = refl }
back_on due.Cut f w m i e h = back_cut f w m i e h
back_on due.Radial f w m i e h = back-radial f w m i e h
back_on due.Moment f w m i e h = back-moment f w m i.0 i.1 e h
back_on due.Data f w m i e h = back-data f w m i e h
back_on due.Nothing f w m i e h = absurd (let z : ◌≡◌ {A = ℕ} 0 1 = cc in omega arith)

-- ---- along a reading

-- at the end
ended-had : (d : Due) (f : List ℕ) (w : Walk) → is_end d ≡ true → Had d f w
unfolding is_end Had
ended-had due.Generic f w e = tt
ended-had due.Site f w e = tt
ended-had due.Task f w e = tt
ended-had due.Cut f w e = absurd (let z : ◌≡◌ {A = ℕ} 0 1 = cc in omega arith)
ended-had due.Radial f w e = absurd (let z : ◌≡◌ {A = ℕ} 0 1 = cc in omega arith)
ended-had due.Moment f w e = absurd (let z : ◌≡◌ {A = ℕ} 0 1 = cc in omega arith)
ended-had due.Data f w e = absurd (let z : ◌≡◌ {A = ℕ} 0 1 = cc in omega arith)
ended-had due.Nothing f w e = tt

-- a plain step behind which the test says yes is a step
pub with-hope : (f : List ℕ) (w m : Walk) → plain_step f w ≡ Took m → hope_at w.due (take (w.at + size_of w) f) w ≡ true → step_of f w ≡ Took m
unfolding step_by hoping
with-hope f w m e t = rw t e

-- where the plain reading takes no block, the reading says the same
pub no_block : (f : List ℕ) (w : Walk) → Stays (plain_step f w) → step_of f w ≡ plain_step f w
unfolding step_by
no_block f w h = untaken _ _ (plainly f w) h

record Same (k : ℕ) (f : List ℕ) (w : Walk) : Type 0 where
  had : Had w.due f w
  same : last_by true k f w ≡ last_by false k f w

-- the first half: where the plain reading comes to a volume's end, the reading goes the same way
back : (k : ℕ) (f : List ℕ) (w : Walk) → AllNarrow f → Was w.due f w → is_end (last_by false k f w).due ≡ true → Same k f w
unfolding walk_by
back zero f w small i e = record { had = ended-had w.due f w e; same = refl }
back (suc k) f w small i e = go (goes false f w) (λ m. back k f m small)
  where
    go : Goes false f w → ((m : Walk) → Was m.due f m → is_end (last_by false k f m).due ≡ true → Same k f m) → Same (suc k) f w
    go (on m q) ih =
        let b = (plain-taken f w m q).block in
        let p = run-took false (λ v. v) (λ v n r. r) k f w m q in
        let r = ih m (was-on w.due f w m small i b) (subst (λ (x : Walk). is_end x.due ≡ true) p e) in
        let h = back_on w.due f w m i b r.had in
        record { had = h.had; same = run-took true (λ v. v) (λ v n r. r) k f w m (with-hope f w m q h.test) ∙ r.same ∙ sym p }
    go (off q) ih =
        let p = run-stays false (λ v. v) (λ v n r. r) (suc k) f w q in
        record {
          had = ended-had w.due f w (subst (λ (x : Walk). is_end x.due ≡ true) p e);
          same = run-stays true (λ v. v) (λ v n r. r) (suc k) f w (subst⁻¹ Stays (no_block f w q) q) ∙ sym p;
        }

pub was-first : (f : List ℕ) → Was at_start.due f at_start
unfolding Was
was-first f = record { place = refl; whole = refl; in_cut = refl }

module _ (f : List ℕ) (small : AllNarrow f) (e : plain_told f ≡ 0 ∷ []) where
  done : plain_step f (plain_stop f) ≡ Complete
  done = step-done (plain_step f (plain_stop f)) e

  pub complete-way : stop f ≡ plain_stop f
  complete-way = (back (fuel f) f at_start small (was-first f) (ended false f (plain_stop f) done).0).same

  pub complete-told : told f ≡ 0 ∷ []
  unfolding Stays
  complete-told = ap (λ (w : Walk). ending_told (step_of f w)) complete-way ∙ ap ending_told (no_block f (plain_stop f) (subst⁻¹ Stays done tt)) ∙ e

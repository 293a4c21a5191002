-- When a file is refused, open or complete: a step is settled by the rules of the block that is due, and reading stops at a
-- step that takes no block. Assumes nothing.
use Prim.Native.Nat.{ℕ, ◌+◌, ◌-◌, ◌<◌, ◌≤◌}
use native.Mathlib.Omega.{arith}
use mathlib.Core.Path.{◌≡◌, refl, sym, ap, ap₂, subst, ◌∙◌}
use mathlib.Core.Bool.{Bool, true, false}
use mathlib.Core.List.{List, [], ◌∷◌}
use lib.Dec.{lit<}
use lib.ListN.{length, take}
use Rattle.le.specs.Le.{part}
use Rattle.le.proofs.Laws.{part-take}
use Rattle.rules.specs.Check.{Rule, verdict, Hold, First, here, behind}
use Rattle.rules.specs.Check.{Check}
use Rattle.rules.specs.declared.check.Clause.{Clause}
use Rattle.std.specs.Prelude.{Ok, Err}
use Rattle.rules.proofs.Judged.{all_hold, fine-if, first-decides, decided-first}
use Rattle.cut.specs.declared.Cut.{Cut}
use Rattle.generic.specs.declared.Generic.{Generic}
use Rattle.moment.specs.declared.Moment.{Moment}
use Rattle.radial.specs.declared.Radial.{Radial}
use Rattle.site.specs.declared.Site.{Site}
use Rattle.task.specs.declared.Task.{Task}
use Rattle.cut.specs.Cut.{cut_of, cut_at, cut_check, cut_rules}
use Rattle.generic.specs.Generic.{generic_of, generic_at, generic_check, generic_rules}
use Rattle.moment.specs.Moment.{moment_of, moment_at, moment_check, moment_rules}
use Rattle.radial.specs.Radial.{radial_of, radial_at, radial_check, radial_rules}
use Rattle.site.specs.Site.{site_of, site_at, site_check, site_rules}
use Rattle.task.specs.Task.{task_of, task_at, task_check, task_rules}
use Rattle.walk.specs.declared.due.Due.{Due}
use Rattle.walk.specs.declared.due.Due.TheVariants as due
use Rattle.walk.specs.declared.due.Walk.{Walk}
use Rattle.walk.specs.After.{after_generic, after_site, after_task, after_cut, after_radial, after_moment}
use Rattle.walk.specs.Due.{size_at, size_of, is_end, radial_due, moment_due, at_start}
use Rattle.reading.specs.declared.step.Step.{Step}
use Rattle.reading.specs.declared.step.Step.TheVariants.{Took, Open, Refused, Complete}
use Rattle.reading.specs.Step.{settle, take_generic, take_site, take_task, take_cut, take_radial, take_moment, take_data, cut_in, block_at, hope_at, hoping, step_of}
use Rattle.reading.specs.Reading.{fuel, stop, ending, ending_told, told}
use Rattle.reading.specs.Exactly.{rules_of, IsRefused, rule, trailing, hopeless, IsOpen, IsComplete, ToldExactly}
use Rattle.reading.proofs.Run.{View, short, over, done, view, Asked, same, lost, asks, Stays, untaken, settle-fine, is-here, is-short, is-over, is-done, ended, opened, last_within}
use Rattle.reading.proofs.Run as run

-- ---- what is told, and the step that tells it

pub step-of : (s : Step) (n p : ℕ) → ending_told s ≡ 2 ∷ n ∷ p ∷ [] → s ≡ Refused n p
unfolding ending_told
step-of (Took m) n p e = cc
step-of Complete n p e = cc
step-of (Open m) n p e = cc
step-of (Refused m q) n p e = cc

pub step-done : (s : Step) → ending_told s ≡ 0 ∷ [] → s ≡ Complete
unfolding ending_told
step-done (Took m) e = cc
step-done Complete e = refl
step-done (Open m) e = cc
step-done (Refused m q) e = cc

pub step-open : (s : Step) (n : ℕ) → ending_told s ≡ 1 ∷ n ∷ [] → s ≡ Open n
unfolding ending_told
step-open (Took m) n e = cc
step-open Complete n e = cc
step-open (Open m) n e = cc
step-open (Refused m q) n e = cc

-- ---- each kind of block is settled by the rules of its list

pub holding : (rs : List Rule) (at : ℕ) (n : Walk) → Hold rs → settle (verdict rs) at n ≡ Took n
unfolding settle
holding rs at n k = rw (fine-if rs k)

pub breaking : (rs : List Rule) (at : ℕ) (w : Walk) (c : Clause) → First rs c → settle (verdict rs) at w ≡ Refused c.number (at + c.place)
unfolding settle
breaking rs at w c k = rw (first-decides k)

module _ (p : List ℕ) (w : Walk) where
  pub settles-generic : (r : Generic) → generic_of (part 32 p w.at) ≡ r → block_at due.Generic p w ≡ settle (verdict (generic_rules r)) w.at (after_generic w (w.at + 32))
  unfolding block_at take_generic generic_check generic_at
  settles-generic r e = ap (λ (x : Generic). take_generic x w) e

  pub settles-site : (r : Site) → site_of (part 128 p w.at) ≡ r → block_at due.Site p w ≡ settle (verdict (site_rules r)) w.at (after_site w (w.at + 128))
  unfolding block_at take_site site_check site_at
  settles-site r e = ap (λ (x : Site). take_site x w) e

  pub settles-task : (r : Task) → task_of (part 256 p w.at) ≡ r → block_at due.Task p w ≡ settle (verdict (task_rules r)) w.at (after_task r.scan_type r.cut_number w (w.at + 256))
  unfolding block_at take_task task_check task_at
  settles-task r e = ap (λ (x : Task). take_task x w) e

  pub settles-cut : (r : Cut) → cut_of (part 256 p w.at) ≡ r → block_at due.Cut p w ≡ settle (verdict (cut_rules r)) w.at (after_cut w (w.at + 256))
  unfolding block_at take_cut cut_check cut_at
  settles-cut r e = ap (λ (x : Cut). take_cut x w) e

  pub settles-radial : (r : Radial) (c : Cut) → radial_of (part 64 p w.at) ≡ r → cut_in p w ≡ c
      → block_at due.Radial p w ≡ settle (verdict (radial_rules r (radial_due w))) w.at (after_radial r c.moments_mask c.size_mask w (w.at + 64))
  unfolding block_at take_radial radial_check radial_at
  settles-radial r c e d = ap₂ (λ (x : Radial) (y : Cut). take_radial x y w) e d

  pub settles-moment : (r : Moment) → moment_of (part 32 p w.at) ≡ r → block_at due.Moment p w ≡ settle (verdict (moment_rules r (moment_due w))) w.at (after_moment r w (w.at + 32))
  unfolding block_at take_moment moment_check moment_at
  settles-moment r e = ap (λ (x : Moment). take_moment x w) e

pub record Settled (d : Due) (f : List ℕ) (w : Walk) : Type 0 where
  pub next : Walk
  pub is : block_at d (take (w.at + size_at d w.rest.length) f) w ≡ settle (verdict (rules_of d f w)) w.at next

-- in the file, as in the part of it that ends with the block
there : (n : ℕ) (f : List ℕ) (w : Walk) → part n (take (w.at + n) f) w.at ≡ part n f w.at
there n f w = part-take n f w.at (w.at + n) (omega arith)

pub settled : (d : Due) (f : List ℕ) (w : Walk) → is_end d ≡ false → Settled d f w
unfolding block_at take_data generic_at site_at task_at cut_at radial_at moment_at rules_of size_at is_end
settled due.Generic f w i = record { next = _; is = settles-generic _ w _ (ap generic_of (there 32 f w)) }
settled due.Site f w i = record { next = _; is = settles-site _ w _ (ap site_of (there 128 f w)) }
settled due.Task f w i = record { next = _; is = settles-task _ w _ (ap task_of (there 256 f w)) }
settled due.Cut f w i = record { next = _; is = settles-cut _ w _ (ap cut_of (there 256 f w)) }
settled due.Radial f w i = record { next = _; is = settles-radial _ w _ _ (ap radial_of (there 64 f w)) refl }
settled due.Moment f w i = record { next = _; is = settles-moment _ w _ (ap moment_of (there 32 f w)) }
settled due.Data f w i = record { next = _; is = sym (holding [] w.at _ tt) }
settled due.Nothing f w i = absurd (let z : ◌≡◌ {A = ℕ} 0 1 = cc in omega arith)

-- the place of each rule of a list lies within so many bytes
abbrev Within : ℕ → List Rule → Type 0
Within size [] = Unit {0}
Within size (r ∷ rs) = (r.place < size) × Within size rs

first-within : {size : ℕ} {rs : List Rule} {c : Clause} → First rs c → Within size rs → c.place < size
first-within (here r rs k e) h = h.0
first-within (behind r rs e f) h = first-within f h.1

rules-within : (d : Due) (f : List ℕ) (w : Walk) → Within (size_at d w.rest.length) (rules_of d f w)
unfolding rules_of size_at
rules-within due.Generic f w = (lit< tt, (lit< tt, tt))
rules-within due.Site f w = (lit< tt, (lit< tt, tt))
rules-within due.Task f w = (lit< tt, (lit< tt, (lit< tt, (lit< tt, tt))))
rules-within due.Cut f w = (lit< tt, (lit< tt, (lit< tt, (lit< tt, (lit< tt, (lit< tt, tt))))))
rules-within due.Radial f w = (lit< tt, (lit< tt, (lit< tt, (lit< tt, (lit< tt, (lit< tt, (lit< tt, (lit< tt, (lit< tt, (lit< tt, (lit< tt, tt)))))))))))
rules-within due.Moment f w = (lit< tt, (lit< tt, (lit< tt, (lit< tt, (lit< tt, tt)))))
rules-within due.Data f w = tt
rules-within due.Nothing f w = tt

-- ---- a refused step: trailing bytes, or the first broken rule of the due block, which lies in that block, or no hope behind it

pub data Refuses (f : List ℕ) (w : Walk) : ℕ → ℕ → Type 0 where
  by-rule : (c : Clause) → is_end w.due ≡ false → w.at + size_of w ≤ length f → First (rules_of w.due f w) c → Refuses f w c.number (w.at + c.place)
  by_end : is_end w.due ≡ true → w.at < length f → Refuses f w 25 w.at
  by-hope : is_end w.due ≡ false → w.at + size_of w ≤ length f → Hold (rules_of w.due f w) → hope_at w.due (take (w.at + size_of w) f) w ≡ false → Refuses f w 40 w.at

pub settle-refused : (v : Check) (at : ℕ) (m : Walk) (n p : ℕ) → settle v at m ≡ Refused n p → (c : Clause) × (v ≡ Err c) × (c.number ≡ n) × (at + c.place ≡ p)
unfolding settle
settle-refused (Ok tt) at m n p e = absurd (let z : ◌≡◌ {A = ℕ} 0 1 = cc in omega arith)
settle-refused (Err c) at m n p e = (c, refl, cc, cc)

kept-rules : (rs : List Rule) (at : ℕ) (m n : Walk) → settle (verdict rs) at m ≡ Took n → Hold rs
kept-rules rs at m n e = all_hold rs (settle-fine (verdict rs) at m n e)

refused-same : (a b n p : ℕ) → Refused a b ≡ Refused n p → (a ≡ n) × (b ≡ p)
refused-same a b n p e = (cc, cc)

pub refuses : (f : List ℕ) (w : Walk) (n p : ℕ) → step_of f w ≡ Refused n p → Refuses f w n p
refuses f w n p e = go (view f w)
  where
    go : View f w → Refuses f w n p
    go (run.here i h) = asked (asks (hope_at w.due p' w) w.at (block_at w.due p' w))
      where
        p' : List ℕ
        p' = take (w.at + size_of w) f

        asked : Asked (hope_at w.due p' w) w.at (block_at w.due p' w) → Refuses f w n p
        asked (same q) =
            let s = settled w.due f w i in
            let x = settle-refused (verdict (rules_of w.due f w)) w.at s.next n p (sym s.is ∙ sym q ∙ sym (is-here f w i h) ∙ e) in
            subst (Refuses f w n) x.3 (subst (λ (m : ℕ). Refuses f w m (w.at + x.0.place)) x.2 (by-rule x.0 i h (decided-first (rules_of w.due f w) x.0 x.1)))
        asked (lost m l t q) =
            let s = settled w.due f w i in
            let x = refused-same 40 w.at n p (sym q ∙ sym (is-here f w i h) ∙ e) in
            rw (← x.0, ← x.1) (by-hope i h (kept-rules (rules_of w.due f w) w.at s.next m (sym s.is ∙ t)) l)
    go (short i h) = absurd (let q = is-short true f w i h in let z : ◌≡◌ {A = ℕ} 0 1 = cc in omega arith)
    go (over i h) =
        let q = is-over true f w i h in
        let a : 25 ≡ n = cc in
        let b : w.at ≡ p = cc in
        rw (← a, ← b) (by_end i h)
    go (done i h) = absurd (let q = is-done true f w i h in let z : ◌≡◌ {A = ℕ} 0 1 = cc in omega arith)

pub refused-inside : (f : List ℕ) (w : Walk) (n p : ℕ) → step_of f w ≡ Refused n p → w.at < w.at + size_of w → (w.at ≤ p) × (p < w.at + size_of w)
refused-inside f w n p e s = go (refuses f w n p e)
  where
    go : {n p : ℕ} → Refuses f w n p → (w.at ≤ p) × (p < w.at + size_of w)
    go (by-rule c i h x) = let k = first-within x (rules-within w.due f w) in (omega arith, omega arith)
    go (by_end i h) = (omega arith, s)
    go (by-hope i h k l) = (omega arith, s)

-- ---- the theorem

module _ (f : List ℕ) where
  within : (stop f).at ≤ length f
  within = last_within true (fuel f) f at_start (omega arith)

  refused-only : {n p : ℕ} → Refuses f (stop f) n p → IsRefused f n p
  refused-only (by-rule c i h x) = rule c i h x
  refused-only (by_end i h) = trailing i h
  refused-only (by-hope i h k l) = hopeless i h k l

  refused-when : {n p : ℕ} → IsRefused f n p → told f ≡ 2 ∷ n ∷ p ∷ []
  unfolding ending_told Stays hoping
  refused-when (rule c i h x) =
      let s = settled (stop f).due f (stop f) i in
      let b = hope_at (stop f).due (take ((stop f).at + size_of (stop f)) f) (stop f) in
      ap ending_told (is-here f (stop f) i h ∙ ap (hoping b (stop f).at) (s.is ∙ breaking _ (stop f).at s.next c x) ∙ untaken b (stop f).at (Refused c.number ((stop f).at + c.place)) tt)
  refused-when (trailing i h) = ap ending_told (is-over true f (stop f) i h)
  refused-when (hopeless i h k l) =
      let s = settled (stop f).due f (stop f) i in
      ap ending_told (is-here f (stop f) i h ∙ ap₂ (λ (b : Bool) (t : Step). hoping b (stop f).at t) l (s.is ∙ holding (rules_of (stop f).due f (stop f)) (stop f).at s.next k))

  open-only : (n : ℕ) → told f ≡ 1 ∷ n ∷ [] → IsOpen f n
  open-only n e =
      let o = opened true f (stop f) n (step-open (ending f) n e) in
      let h = o.1 in
      let k = o.2 in
      record { due = o.0; some = omega arith; missing = omega arith }

  complete-only : told f ≡ 0 ∷ [] → IsComplete f
  complete-only e =
      let d = ended true f (stop f) (step-done (ending f) e) in
      let h = d.1 in
      let k = within in
      record { due = d.0; all = omega arith }

  pub told-exactly : ToldExactly f
  unfolding ending_told
  told-exactly =
      record {
        refused-only = λ n p e. refused-only (refuses f (stop f) n p (step-of (ending f) n p e));
        refused-when = λ n p x. refused-when x;
        open-only = open-only;
        open-when = λ n x. let m = x.missing in let k = x.some in ap ending_told (is-short true f (stop f) x.due (omega arith) ∙ ap Open (omega arith));
        complete-only = complete-only;
        complete-when = λ x. let a = x.all in ap ending_told (is-done true f (stop f) x.due (omega arith));
      }

-- Hope as the walks of a reading have it, and that each block behind which it is left keeps it. Assumes nothing.
use Prim.Native.Nat.{ℕ, suc, ◌+◌, ◌-◌, ◌*◌, ◌≤◌, ◌<◌}
use native.Mathlib.Decide.{dec_lt}
use native.Mathlib.Omega.{arith}
use mathlib.Core.Path.{◌≡◌, refl, sym, ap, subst, ◌∙◌}
use mathlib.Core.Bool.{Bool, true, false}
use mathlib.Core.List.{List}
use mathlib.Core.Logic.{dite}
use lib.Dec.{leb, ltb}
use lib.ListN.{take}
use borrow.Author.Tests.{le-leb, lt-ltb, eq-eqb, leb-true, leb-false, ltb-true}
use Rattle.le.proofs.Laws.{part-take}
use Rattle.le.proofs.Tests.{both}
use Rattle.coming.specs.Radials.{radials_can}
use Rattle.coming.proofs.Radials.{closes-on, goes_on}
use Rattle.cut.specs.declared.Cut.{Cut}
use Rattle.cut.specs.Cut.{cut_of, cut_at}
use Rattle.walk.specs.declared.due.Due.{Due}
use Rattle.walk.specs.declared.due.Due.TheVariants as due
use Rattle.walk.specs.declared.due.Walk.{Walk}
use Rattle.walk.specs.Due.{size_at, due_if, cut_place}
use Rattle.walk.specs.After.{after_cut, after_data, after_data_if, closes_cut}
use Rattle.walk.specs.Hope.{moments_hope, radials_hope, radial_hope}
use Rattle.reading.specs.declared.step.Step.TheVariants.{Took}
use Rattle.reading.specs.Step.{take_generic, take_site, take_task, take_cut, take_radial, take_moment, take_data, block_at, hope_after_cut, hope_after_radial, hope_after_moment, hope_at}
use Rattle.reading.proofs.Run.{settle-took, took-inj}
use Rattle.hope.proofs.Was.{Cutting, Inside, Was}

-- the masks of the cuts from a to b, which stand in the file, have a bit
abbrev pub Masks : List ℕ → ℕ → ℕ → Type 0
Masks f a b = (c : ℕ) → a ≤ c → c ≤ b → 0 < (cut_at f (cut_place c)).moments_mask

-- where a radial is due: the radials that must still come can come
unfoldable pub due_hope : Walk → Bool
due_hope w = radials_can w.plan.cuts w.count.cut w.count.in_cut w.count.whole

-- inside a radial
pub record Within (f : List ℕ) (w : Walk) : Type 0 where
  pub masks : Masks f 1 w.plan.cuts
  pub moments : moments_hope w ≡ true
  pub radials : radials_hope w ≡ true

unfoldable pub Hoped : Due → List ℕ → Walk → Type 0
Hoped due.Generic f w = Unit {0}
Hoped due.Site f w = Unit {0}
Hoped due.Task f w = Unit {0}
Hoped due.Cut f w = Masks f 1 (w.plan.cuts - w.rest.todo)
Hoped due.Radial f w = Masks f 1 w.plan.cuts × (due_hope w ≡ true)
Hoped due.Moment f w = Within f w
Hoped due.Data f w = Within f w
Hoped due.Nothing f w = Unit {0}

-- ---- a cut's block: its own mask besides those before it

-- the block that is due stands in the file at its cut's place
pub cut-there : (f : List ℕ) (w : Walk) → Cutting f w → cut_at (take (w.at + 256) f) w.at ≡ cut_at f (cut_place (suc (w.plan.cuts - w.rest.todo)))
unfolding cut_at
cut-there f w h =
    let p : w.at ≡ cut_place (suc (w.plan.cuts - w.rest.todo)) = let q = h.fresh.place in omega arith in
    ap cut_of (part-take 256 f w.at (w.at + 256) (omega arith)) ∙ ap (cut_at f) p

masks-more : (f : List ℕ) (w : Walk) → Cutting f w → hope_after_cut (cut_at (take (w.at + 256) f) w.at) ≡ true → Masks f 1 (w.plan.cuts - w.rest.todo) → Masks f 1 (suc (w.plan.cuts - w.rest.todo))
unfolding hope_after_cut
masks-more f w h some masks c a b =
    dite (dec_lt (w.plan.cuts - w.rest.todo) c)
    (λ k. let e : suc (w.plan.cuts - w.rest.todo) ≡ c = omega arith in
    subst (λ (n : ℕ). 0 < (cut_at f (cut_place n)).moments_mask) e (subst (λ (x : Cut). 0 < x.moments_mask) (cut-there f w h) (ltb-true 0 _ some)))
    (λ k. masks c a (omega arith))

hoped-cut : (b : Bool) (f : List ℕ) (w : Walk) → leb w.rest.todo 1 ≡ b → Cutting f w → Masks f 1 (suc (w.plan.cuts - w.rest.todo))
    → Hoped (due_if b due.Radial due.Cut) f (after_cut w (w.at + 256))
unfolding Hoped due_if due_hope radials_can
hoped-cut true f w e h masks =
    let t = leb-true w.rest.todo 1 e in
    let s = h.some in
    let m = h.most in
    let few = h.few in
    let i = h.fresh.in_cut in
    let n = h.fresh.whole in
    let q : suc (w.plan.cuts - w.rest.todo) ≡ w.plan.cuts = omega arith in (
      subst (Masks f 1) q masks,
      rw (eq-eqb w.count.in_cut 0 i, lt-ltb w.count.in_cut 1000 (omega arith)) (le-leb (w.count.whole + 2 + 2 * (w.plan.cuts - 1)) 65536 (omega arith)),
    )
hoped-cut false f w e h masks =
    let t = leb-false w.rest.todo 1 e in
    let m = h.most in
    let q : suc (w.plan.cuts - w.rest.todo) ≡ w.plan.cuts - (w.rest.todo - 1) = omega arith in
    subst (Masks f 1) q masks

-- ---- data: with moments to come nothing changes; the last data hands on to the radials that must follow

pub next-cut : (w : Walk) → closes_cut w ≡ true → w.count.cut < w.plan.cuts → radials_hope w ≡ radials_can w.plan.cuts (w.count.cut + 1) 0 w.present.sequence
unfolding radials_hope
next-cut w c l =
    let n : suc w.count.cut ≡ w.count.cut + 1 = omega arith in
    rw c (closes-on w.plan.cuts w.count.cut w.count.in_cut w.present.sequence l ∙ ap (λ (k : ℕ). radials_can w.plan.cuts k 0 w.present.sequence) n)

pub same-cut : (w : Walk) → closes_cut w ≡ false → 1 ≤ w.count.in_cut → radials_hope w ≡ radials_can w.plan.cuts w.count.cut w.count.in_cut w.present.sequence
unfolding radials_hope
same-cut w c n = rw c (goes_on w.plan.cuts w.count.cut w.count.in_cut w.present.sequence n)

hoped-data : (more closes later : Bool) (f : List ℕ) (w : Walk) (end : ℕ) → closes_cut w ≡ closes → ltb w.count.cut w.plan.cuts ≡ later → Inside f w → Within f w
    → Hoped (after_data_if more closes later w end).due f (after_data_if more closes later w end)
unfolding Hoped due_if due_hope moments_hope radials_hope closes_cut
hoped-data true closes later f w end c l i h = record { masks = h.masks; moments = h.moments; radials = h.radials }
hoped-data false true true f w end c l i h = (h.masks, sym (next-cut w c (ltb-true w.count.cut w.plan.cuts l)) ∙ h.radials)
hoped-data false true false f w end c l i h = tt
hoped-data false false true f w end c l i h = (h.masks, sym (same-cut w c i.numbered) ∙ h.radials)
hoped-data false false false f w end c l i h = (h.masks, sym (same-cut w c i.numbered) ∙ h.radials)

-- ---- every block

pub hoped-on : (d : Due) (f : List ℕ) (w m : Walk) → Was d f w → Hoped d f w → hope_at d (take (w.at + size_at d w.rest.length) f) w ≡ true
    → block_at d (take (w.at + size_at d w.rest.length) f) w ≡ Took m → Hoped m.due f m
unfolding block_at take_generic take_site take_task take_cut take_radial take_moment take_data after_data size_at hope_at hope_after_radial hope_after_moment radial_hope radials_hope closes_cut Was Hoped
hoped-on due.Generic f w m i h t e = subst (λ (x : Walk). Hoped x.due f x) (settle-took _ _ _ m e) tt
hoped-on due.Site f w m i h t e = subst (λ (x : Walk). Hoped x.due f x) (settle-took _ _ _ m e) tt
hoped-on due.Task f w m i h t e = subst (λ (x : Walk). Hoped x.due f x) (settle-took _ _ _ m e) (λ c a b. absurd (omega arith))
hoped-on due.Cut f w m i h t e = subst (λ (x : Walk). Hoped x.due f x) (settle-took _ _ _ m e) (hoped-cut (leb w.rest.todo 1) f w refl i (masks-more f w i t h))
hoped-on due.Radial f w m i h t e =
    let b = both (moments_hope _) _ t in
    subst (λ (x : Walk). Hoped x.due f x) (settle-took _ _ _ m e) (record { masks = h.0; moments = b.0; radials = b.1 })
hoped-on due.Moment f w m i h t e = subst (λ (x : Walk). Hoped x.due f x) (settle-took _ _ _ m e) (record { masks = h.masks; moments = t; radials = h.radials })
hoped-on due.Data f w m i h t e =
    subst (λ (x : Walk). Hoped x.due f x) (took-inj _ m e)
    (hoped-data (ltb 0 w.rest.todo) (closes_cut w) (ltb w.count.cut w.plan.cuts) f w (w.at + w.rest.length) refl refl i h)
hoped-on due.Nothing f w m i h t e = absurd (let z : ◌≡◌ {A = ℕ} 0 1 = cc in omega arith)

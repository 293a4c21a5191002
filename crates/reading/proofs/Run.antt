-- Laws of steps and of runs, on the definitions alone: what holds at each step holds along the run, whatever the run makes.
-- Assumes nothing.
use Prim.Native.Nat.{ℕ, zero, suc, ◌+◌, ◌-◌, ◌<◌, ◌≤◌}
use native.Mathlib.Omega.{arith}
use mathlib.Core.Path.{◌≡◌, refl, sym, ap, subst⁻¹, ◌∙◌}
use mathlib.Core.Bool.{Bool, true, false, not, ◌&&◌}
use mathlib.Core.List.{List}
use mathlib.Core.Logic.{◌⊎◌, inl, inr, ⊎_elim}
use lib.ListN.{length, take}
use lib.Dec.{leb, ltb}
use borrow.Author.Tests.{le-leb, lt-leb, lt-ltb, le-ltb, leb-true, leb-false, ltb-true, ltb-false}
use Rattle.rules.specs.Check.{Check}
use Rattle.std.specs.Prelude.{Ok, Err}
use Rattle.walk.specs.declared.due.Due.{Due}
use Rattle.walk.specs.declared.due.Due.TheVariants as due
use Rattle.walk.specs.declared.due.Walk.{Walk}
use Rattle.reading.specs.declared.step.Step.{Step}
use Rattle.reading.specs.declared.step.Step.TheVariants.{Took, Open, Refused, Complete}
use Rattle.walk.specs.Due.{size_at, size_of, is_end, ends_radial, due_if}
use Rattle.walk.specs.After.{after_data, after_data_if, closes_cut}
use Rattle.reading.specs.Step.{settle, take_generic, take_site, take_task, take_cut, take_radial, take_moment, take_data, block_at, pick, plainly, hope_at, hoping, say_block, step_by, plain_step, step_of}
use Rattle.reading.specs.Reading.{along, walk_by, last_by, fuel}

-- ---- hope takes nothing on and lets nothing through but what the block's own rules say

pub hoped : (h : Bool) (at : ℕ) (s : Step) (m : Walk) → hoping h at s ≡ Took m → (s ≡ Took m) × (h ≡ true)
unfolding hoping
hoped true at s m e = (e, refl)
hoped false at (Took n) m e = absurd (let z : ◌≡◌ {A = ℕ} 0 1 = cc in omega arith)
hoped false at (Refused n p) m e = absurd (let z : ◌≡◌ {A = ℕ} 0 1 = cc in omega arith)
hoped false at (Open n) m e = absurd (let z : ◌≡◌ {A = ℕ} 0 1 = cc in omega arith)
hoped false at Complete m e = absurd (let z : ◌≡◌ {A = ℕ} 0 1 = cc in omega arith)

-- only a block that is taken can end it
pub data Asked (h : Bool) (at : ℕ) (s : Step) : Type 0 where
  same : hoping h at s ≡ s → Asked h at s
  lost : (m : Walk) → h ≡ false → s ≡ Took m → hoping h at s ≡ Refused 40 at → Asked h at s

pub asks : (h : Bool) (at : ℕ) (s : Step) → Asked h at s
unfolding hoping
asks true at s = same refl
asks false at (Took n) = lost n refl refl refl
asks false at (Refused n p) = same refl
asks false at (Open n) = same refl
asks false at Complete = same refl

-- a step that takes no block
unfoldable pub Stays : Step → Type 0
Stays (Took m) = ⊥
Stays (Open n) = Unit {0}
Stays (Refused n p) = Unit {0}
Stays Complete = Unit {0}

pub untaken : (h : Bool) (at : ℕ) (s : Step) → Stays s → hoping h at s ≡ s
unfolding hoping Stays
untaken true at s k = refl
untaken false at (Took n) k = absurd k
untaken false at (Refused n p) k = refl
untaken false at (Open n) k = refl
untaken false at Complete k = refl

-- ---- a step, by the four ways that it can go

pub plain_here : (f : List ℕ) (w : Walk) → is_end w.due ≡ false → w.at + size_of w ≤ length f → plain_step f w ≡ block_at w.due (take (w.at + size_of w) f) w
unfolding step_by plainly pick
plain_here f w i h = rw (i, le-leb (w.at + size_of w) (length f) h)

pub is-here : (f : List ℕ) (w : Walk) → is_end w.due ≡ false → w.at + size_of w ≤ length f → step_of f w ≡ say_block w.due (take (w.at + size_of w) f) w
unfolding step_by
is-here f w i h = ap (hoping (hope_at w.due (take (w.at + size_of w) f) w) w.at) (plain_here f w i h)

-- where no block is taken, hope has no say
by-plain : (asked : Bool) (f : List ℕ) (w : Walk) (s : Step) → Stays s → plainly f w ≡ s → step_by asked f w ≡ s
unfolding step_by
by-plain false f w s k e = e
by-plain true f w s k e = let h = hope_at w.due (take (w.at + size_of w) f) w in ap (hoping h w.at) e ∙ untaken h w.at s k

module _ (asked : Bool) where
  pub is-short : (f : List ℕ) (w : Walk) → is_end w.due ≡ false → length f < w.at + size_of w → step_by asked f w ≡ Open (w.at + size_of w - length f)
  unfolding plainly pick Stays
  is-short f w i h = by-plain asked f w _ tt (rw (i, lt-leb (w.at + size_of w) (length f) h))

  pub is-over : (f : List ℕ) (w : Walk) → is_end w.due ≡ true → w.at < length f → step_by asked f w ≡ Refused 25 w.at
  unfolding plainly pick Stays
  is-over f w i h = by-plain asked f w _ tt (rw (i, lt-ltb w.at (length f) h))

  pub is-done : (f : List ℕ) (w : Walk) → is_end w.due ≡ true → length f ≤ w.at → step_by asked f w ≡ Complete
  unfolding plainly pick Stays
  is-done f w i h = by-plain asked f w _ tt (rw (i, le-ltb w.at (length f) h))

pub data View (f : List ℕ) (w : Walk) : Type 0 where
  here : is_end w.due ≡ false → w.at + size_of w ≤ length f → View f w
  short : is_end w.due ≡ false → length f < w.at + size_of w → View f w
  over : is_end w.due ≡ true → w.at < length f → View f w
  done : is_end w.due ≡ true → length f ≤ w.at → View f w

view-block : (f : List ℕ) (w : Walk) (b : Bool) → is_end w.due ≡ false → leb (w.at + size_of w) (length f) ≡ b → View f w
view-block f w true i e = here i (leb-true (w.at + size_of w) (length f) e)
view-block f w false i e = short i (leb-false (w.at + size_of w) (length f) e)

view-end : (f : List ℕ) (w : Walk) (b : Bool) → is_end w.due ≡ true → ltb w.at (length f) ≡ b → View f w
view-end f w true i e = over i (ltb-true w.at (length f) e)
view-end f w false i e = done i (ltb-false w.at (length f) e)

view-at : (f : List ℕ) (w : Walk) (b : Bool) → is_end w.due ≡ b → View f w
view-at f w true i = view-end f w (ltb w.at (length f)) i refl
view-at f w false i = view-block f w (leb (w.at + size_of w) (length f)) i refl

pub view : (f : List ℕ) (w : Walk) → View f w
view f w = view-at f w (is_end w.due) refl

-- ---- a block is taken or refused, and what is taken ends where its size says

pub data Plain (s : Step) : Type 0 where
  took : (m : Walk) → s ≡ Took m → Plain s
  refused : (n p : ℕ) → s ≡ Refused n p → Plain s

pub settle-plain : (v : Check) (at : ℕ) (n : Walk) → Plain (settle v at n)
unfolding settle
settle-plain (Ok tt) at n = took n refl
settle-plain (Err c) at n = refused c.number (at + c.place) refl

pub block-plain : (d : Due) (p : List ℕ) (w : Walk) → is_end d ≡ false → Plain (block_at d p w)
unfolding is_end block_at take_generic take_site take_task take_cut take_radial take_moment take_data
block-plain due.Generic p w e = settle-plain _ _ _
block-plain due.Site p w e = settle-plain _ _ _
block-plain due.Task p w e = settle-plain _ _ _
block-plain due.Cut p w e = settle-plain _ _ _
block-plain due.Radial p w e = settle-plain _ _ _
block-plain due.Moment p w e = settle-plain _ _ _
block-plain due.Data p w e = took _ refl
block-plain due.Nothing p w e = absurd (let z : ◌≡◌ {A = ℕ} 0 1 = cc in omega arith)

-- hope refuses, or says the same
pub hoping-plain : (h : Bool) (at : ℕ) (s : Step) → Plain s → Plain (hoping h at s)
unfolding hoping
hoping-plain true at s p = p
hoping-plain false at s (took m e) = refused 40 at (ap (hoping false at) e)
hoping-plain false at s (refused n p e) = refused n p (ap (hoping false at) e)

plain-same : (s t : Step) → s ≡ t → Plain t → Plain s
plain-same s t e (took m q) = took m (e ∙ q)
plain-same s t e (refused n p q) = refused n p (e ∙ q)

pub here-plain : (asked : Bool) (f : List ℕ) (w : Walk) → is_end w.due ≡ false → w.at + size_of w ≤ length f → Plain (step_by asked f w)
here-plain false f w i h = plain-same _ _ (plain_here f w i h) (block-plain w.due _ w i)
here-plain true f w i h = plain-same _ _ (is-here f w i h) (hoping-plain _ _ _ (block-plain w.due _ w i))

open-inj : (a b : ℕ) → Open a ≡ Open b → a ≡ b
open-inj a b e = cc

module _ (asked : Bool) where
  -- a step is complete only where the volume is over, at the file's end
  pub ended : (f : List ℕ) (w : Walk) → step_by asked f w ≡ Complete → (is_end w.due ≡ true) × (length f ≤ w.at)
  ended f w e = go (view f w)
    where
      go : View f w → (is_end w.due ≡ true) × (length f ≤ w.at)
      go (here i h) = plain (here-plain asked f w i h)
        where
          plain : Plain (step_by asked f w) → (is_end w.due ≡ true) × (length f ≤ w.at)
          plain (took m q) = absurd (let y : ◌≡◌ {A = ℕ} 0 1 = cc in omega arith)
          plain (refused n p q) = absurd (let y : ◌≡◌ {A = ℕ} 0 1 = cc in omega arith)
      go (short i h) = let q = is-short asked f w i h in absurd (let z : ◌≡◌ {A = ℕ} 0 1 = cc in omega arith)
      go (over i h) = let q = is-over asked f w i h in absurd (let z : ◌≡◌ {A = ℕ} 0 1 = cc in omega arith)
      go (done i h) = (i, h)

  -- and open only where the due block is not all there, by what is missing of it
  pub opened : (f : List ℕ) (w : Walk) (n : ℕ) → step_by asked f w ≡ Open n → (is_end w.due ≡ false) × (length f < w.at + size_of w) × (w.at + size_of w - length f ≡ n)
  opened f w n e = go (view f w)
    where
      go : View f w → (is_end w.due ≡ false) × (length f < w.at + size_of w) × (w.at + size_of w - length f ≡ n)
      go (here i h) = plain (here-plain asked f w i h)
        where
          plain : Plain (step_by asked f w) → (is_end w.due ≡ false) × (length f < w.at + size_of w) × (w.at + size_of w - length f ≡ n)
          plain (took m q) = absurd (let y : ◌≡◌ {A = ℕ} 0 1 = cc in omega arith)
          plain (refused a p q) = absurd (let y : ◌≡◌ {A = ℕ} 0 1 = cc in omega arith)
      go (short i h) = (i, h, open-inj _ _ (sym (is-short asked f w i h) ∙ e))
      go (over i h) = let q = is-over asked f w i h in absurd (let z : ◌≡◌ {A = ℕ} 0 1 = cc in omega arith)
      go (done i h) = let q = is-done asked f w i h in absurd (let z : ◌≡◌ {A = ℕ} 0 1 = cc in omega arith)

pub settle-took : (v : Check) (at : ℕ) (n m : Walk) → settle v at n ≡ Took m → n ≡ m
unfolding settle
settle-took (Ok tt) at n m e = cc
settle-took (Err c) at n m e = cc

pub settle-fine : (v : Check) (at : ℕ) (n m : Walk) → settle v at n ≡ Took m → v ≡ (Ok tt)
unfolding settle
settle-fine (Ok tt) at n m e = refl
settle-fine (Err c) at n m e = cc

pub took-inj : (x y : Walk) → Took x ≡ Took y → x ≡ y
took-inj x y e = cc

-- the walk after data, by whether moments are still to come
abbrev pub data_then : Bool → Walk → Walk
data_then more w = after_data_if more (closes_cut w) (ltb w.count.cut w.plan.cuts) w (w.at + w.rest.length)

pub took_more : (w m : Walk) → 0 < w.rest.todo → take_data w ≡ Took m → data_then true w ≡ m
unfolding take_data after_data
took_more w m h e = ap (λ (b : Bool). data_then b w) (sym (lt-ltb 0 w.rest.todo h)) ∙ took-inj _ m e

pub took-last : (w m : Walk) → w.rest.todo ≡ 0 → take_data w ≡ Took m → data_then false w ≡ m
unfolding take_data after_data
took-last w m h e = ap (λ (b : Bool). data_then b w) (sym (le-ltb 0 w.rest.todo (omega arith))) ∙ took-inj _ m e

-- where the next block is due, after one that was taken
pub took-at : (d : Due) (p : List ℕ) (w m : Walk) → block_at d p w ≡ Took m → m.at ≡ w.at + size_at d w.rest.length
unfolding block_at take_generic take_site take_task take_cut take_radial take_moment take_data after_data size_at
took-at due.Generic p w m e = ap (λ (x : Walk). x.at) (sym (settle-took _ _ _ m e))
took-at due.Site p w m e = ap (λ (x : Walk). x.at) (sym (settle-took _ _ _ m e))
took-at due.Task p w m e = ap (λ (x : Walk). x.at) (sym (settle-took _ _ _ m e))
took-at due.Cut p w m e = ap (λ (x : Walk). x.at) (sym (settle-took _ _ _ m e))
took-at due.Radial p w m e = ap (λ (x : Walk). x.at) (sym (settle-took _ _ _ m e))
took-at due.Moment p w m e = ap (λ (x : Walk). x.at) (sym (settle-took _ _ _ m e))
took-at due.Data p w m e = ap (λ (x : Walk). x.at) (sym (took-inj _ m e))
took-at due.Nothing p w m e = absurd (let z : ◌≡◌ {A = ℕ} 0 1 = cc in omega arith)

-- what holds of either block holds of the one that is due
pub due-either : (P : Due → Walk → Type 0) (b : Bool) (x y : Due) (w : Walk) → P x w → P y w → P (due_if b x y) w
unfolding due_if
due-either P true x y w p q = p
due-either P false x y w p q = q

-- only data ends a radial
pub ends-data : (d : Due) (todo : ℕ) → ends_radial d todo ≡ true → d ≡ due.Data
unfolding ends_radial
ends-data due.Generic todo e = cc
ends-data due.Site todo e = cc
ends-data due.Task todo e = cc
ends-data due.Cut todo e = cc
ends-data due.Radial todo e = cc
ends-data due.Moment todo e = cc
ends-data due.Data todo e = refl
ends-data due.Nothing todo e = cc

-- ---- how far a walk can still go: twice the bytes left, and one more where data is due, which may be empty

unfoldable pub tag : Due → ℕ
tag due.Generic = 0
tag due.Site = 0
tag due.Task = 0
tag due.Cut = 0
tag due.Radial = 0
tag due.Moment = 0
tag due.Data = 1
tag due.Nothing = 0

unfoldable pub left : List ℕ → Walk → ℕ
left f w = (length f - w.at) + (length f - w.at) + tag w.due

tag-le : (d : Due) → tag d ≤ 1
unfolding tag
tag-le due.Generic = omega arith
tag-le due.Site = omega arith
tag-le due.Task = omega arith
tag-le due.Cut = omega arith
tag-le due.Radial = omega arith
tag-le due.Moment = omega arith
tag-le due.Data = omega arith
tag-le due.Nothing = omega arith

data-tag : (w : Walk) (end : ℕ) → tag (after_data w end).due ≡ 0
unfolding after_data tag
data-tag w end =
    due-either (λ d w. tag d ≡ 0) (ltb 0 w.rest.todo) due.Moment _ w refl
    (due-either (λ d w. tag d ≡ 0) (closes_cut w && not (ltb w.count.cut w.plan.cuts)) due.Nothing due.Radial w refl refl)

-- a block of data, or 32 bytes at the least
falls : (d : Due) (p : List ℕ) (w m : Walk) → is_end d ≡ false → block_at d p w ≡ Took m → (tag m.due + 1 ≤ tag d) ⊎ (32 ≤ size_at d w.rest.length)
unfolding is_end block_at take_data size_at tag
falls due.Generic p w m i e = inr (omega arith)
falls due.Site p w m i e = inr (omega arith)
falls due.Task p w m i e = inr (omega arith)
falls due.Cut p w m i e = inr (omega arith)
falls due.Radial p w m i e = inr (omega arith)
falls due.Moment p w m i e = inr (omega arith)
falls due.Data p w m i e = inl (omega (arith, ap (λ (x : Walk). tag x.due) (took-inj _ m e), data-tag w (w.at + w.rest.length)))
falls due.Nothing p w m i e = absurd (let z : ◌≡◌ {A = ℕ} 0 1 = cc in omega arith)

-- what a step that took a block says
pub record Taken (f : List ℕ) (w m : Walk) : Type 0 where
  pub room : w.at + size_of w ≤ length f
  pub going : is_end w.due ≡ false
  pub block : block_at w.due (take (w.at + size_of w) f) w ≡ Took m
  pub end : m.at ≡ w.at + size_of w
  pub within : m.at ≤ length f
  pub less : left f m < left f w

less_by : (f : List ℕ) (w m : Walk) → w.at + size_of w ≤ length f → m.at ≡ w.at + size_of w → (tag m.due + 1 ≤ tag w.due) ⊎ (32 ≤ size_of w) → left f m < left f w
unfolding left
less_by f w m h e (inl t) = omega arith
less_by f w m h e (inr t) = omega (arith, tag-le m.due)

pub to-plain : (asked : Bool) (f : List ℕ) (w m : Walk) → step_by asked f w ≡ Took m → plain_step f w ≡ Took m
unfolding step_by
to-plain false f w m e = e
to-plain true f w m e = (hoped _ _ _ m e).0

-- and where hope was asked for, it is left
pub took-hope : (f : List ℕ) (w m : Walk) → step_of f w ≡ Took m → hope_at w.due (take (w.at + size_of w) f) w ≡ true
unfolding step_by
took-hope f w m e = (hoped _ _ _ m e).1

pub plain-taken : (f : List ℕ) (w m : Walk) → plain_step f w ≡ Took m → Taken f w m
plain-taken f w m e = go (view f w)
  where
    go : View f w → Taken f w m
    go (here i h) =
        let b : block_at w.due (take (w.at + size_of w) f) w ≡ Took m = sym (plain_here f w i h) ∙ e in
        let a : m.at ≡ w.at + size_of w = took-at w.due _ w m b in
        record { room = h; going = i; block = b; end = a; within = omega arith; less = less_by f w m h a (falls w.due _ w m i b) }
    go (short i h) = let q = is-short false f w i h in absurd (let z : ◌≡◌ {A = ℕ} 0 1 = cc in omega arith)
    go (over i h) = let q = is-over false f w i h in absurd (let z : ◌≡◌ {A = ℕ} 0 1 = cc in omega arith)
    go (done i h) = let q = is-done false f w i h in absurd (let z : ◌≡◌ {A = ℕ} 0 1 = cc in omega arith)

pub taken : (f : List ℕ) (w m : Walk) → step_of f w ≡ Took m → Taken f w m
taken f w m e = plain-taken f w m (to-plain true f w m e)

-- a step takes a block, or stays
pub data Goes (asked : Bool) (f : List ℕ) (w : Walk) : Type 0 where
  on : (m : Walk) → step_by asked f w ≡ Took m → Goes asked f w
  off : Stays (step_by asked f w) → Goes asked f w

goes_at : (asked : Bool) (f : List ℕ) (w : Walk) (s : Step) → step_by asked f w ≡ s → Goes asked f w
unfolding Stays
goes_at asked f w (Took m) e = on m e
goes_at asked f w (Open n) e = off (subst⁻¹ Stays e tt)
goes_at asked f w (Refused n p) e = off (subst⁻¹ Stays e tt)
goes_at asked f w Complete e = off (subst⁻¹ Stays e tt)

pub goes : (asked : Bool) (f : List ℕ) (w : Walk) → Goes asked f w
goes asked f w = goes_at asked f w (step_by asked f w) refl

-- past the file's end no block is taken
pub astray : (f : List ℕ) (w : Walk) → length f < w.at → Stays (step_of f w)
unfolding Stays
astray f w h = go (view f w)
  where
    go : View f w → Stays (step_of f w)
    go (here i k) = absurd (omega arith)
    go (short i k) = subst⁻¹ Stays (is-short true f w i k) tt
    go (over i k) = absurd (omega arith)
    go (done i k) = subst⁻¹ Stays (is-done true f w i k) tt

-- ---- runs, whatever they make

module _ (asked : Bool) {X : Type 0} (z : Walk → X) (s : Walk → Walk → X → X) where
  along-stays : (t : Step) (w : Walk) (k : Walk → X) → Stays t → along z s t w k ≡ z w
  unfolding along Stays
  along-stays (Took m) w k h = absurd h
  along-stays (Open n) w k h = refl
  along-stays (Refused n p) w k h = refl
  along-stays Complete w k h = refl

  pub run-took : (k : ℕ) (f : List ℕ) (w m : Walk) → step_by asked f w ≡ Took m → walk_by asked z s (suc k) f w ≡ s w m (walk_by asked z s k f m)
  unfolding walk_by along
  run-took k f w m e = ap (λ (t : Step). along z s t w (λ n. walk_by asked z s k f n)) e

  pub run-stays : (k : ℕ) (f : List ℕ) (w : Walk) → Stays (step_by asked f w) → walk_by asked z s k f w ≡ z w
  unfolding walk_by
  run-stays zero f w h = refl
  run-stays (suc k) f w h = along-stays (step_by asked f w) w _ h

  -- where a run stops, for want of fuel or since no block is taken
  pub run-halts : (k : ℕ) (f : List ℕ) (w : Walk) → (k ≡ 0) ⊎ Stays (step_by asked f w) → walk_by asked z s k f w ≡ z w
  unfolding walk_by
  run-halts k f w (inl e) = rw e
  run-halts k f w (inr h) = run-stays k f w h

  -- what holds where a run stops, and before a step if after it, holds from any walk on: with the fuel that is left,
  pub run_along : (f : List ℕ) (P : ℕ → Walk → X → Type 0) → ((k : ℕ) (w : Walk) → (k ≡ 0) ⊎ Stays (step_by asked f w) → P k w (z w))
      → ((k : ℕ) (w m : Walk) (x : X) → step_by asked f w ≡ Took m → P k m x → P (suc k) w (s w m x)) → (k : ℕ) (w : Walk) → P k w (walk_by asked z s k f w)
  unfolding walk_by
  run_along f P base step zero w = base 0 w (inl refl)
  run_along f P base step (suc k) w = go (goes asked f w) (run_along f P base step k)
    where
      go : Goes asked f w → ((m : Walk) → P k m (walk_by asked z s k f m)) → P (suc k) w (walk_by asked z s (suc k) f w)
      go (on m e) r = rw (run-took k f w m e) (step k w m (walk_by asked z s k f m) e (r m))
      go (off h) r = rw (run-stays (suc k) f w h) (base (suc k) w (inr h))

  -- whatever the fuel,
  pub run_holds : (f : List ℕ) (P : Walk → X → Type 0) → ((w : Walk) → P w (z w)) → ((w m : Walk) (x : X) → step_by asked f w ≡ Took m → P m x → P w (s w m x))
      → (k : ℕ) (w : Walk) → P w (walk_by asked z s k f w)
  run_holds f P base step = run_along f (λ k. P) (λ k w h. base w) (λ k w m x. step w m x)

  -- and with enough of it, where the run stops only since no block is taken
  pub run-stops : (f : List ℕ) (P : Walk → X → Type 0) → ((w : Walk) → Stays (step_by asked f w) → P w (z w)) → ((w m : Walk) (x : X) → step_by asked f w ≡ Took m → P m x → P w (s w m x))
      → (k : ℕ) (w : Walk) → left f w < k → P w (walk_by asked z s k f w)
  run-stops f P base step =
      run_along f (λ k w x. left f w < k → P w x) (λ k w. ⊎_elim (λ e h. absurd (omega arith)) (λ q h. base w q))
      (λ k w m x e r h. let t = (plain-taken f w m (to-plain asked f w m e)).less in step w m x e (r (omega arith)))

  -- any fuel that is enough is as good as another
  run-fuel : (k j : ℕ) (f : List ℕ) (w : Walk) → left f w < k → left f w < j → walk_by asked z s k f w ≡ walk_by asked z s j f w
  run-fuel k j f w p q = run-stops f (λ w x. (j : ℕ) → left f w < j → x ≡ walk_by asked z s j f w) (λ w h j q. sym (run-stays j f w h)) step k w p j q
    where
      step : (w m : Walk) (x : X) → step_by asked f w ≡ Took m → ((j : ℕ) → left f m < j → x ≡ walk_by asked z s j f m) → (j : ℕ) → left f w < j → s w m x ≡ walk_by asked z s j f w
      step w m x e r zero q = absurd (omega arith)
      step w m x e r (suc j) q = let t = (plain-taken f w m (to-plain asked f w m e)).less in ap (s w m) (r j (omega arith)) ∙ sym (run-took j f w m e)

  pub run_step : (k : ℕ) (f : List ℕ) (w m : Walk) → left f w < k → step_by asked f w ≡ Took m → walk_by asked z s k f w ≡ s w m (walk_by asked z s k f m)
  run_step zero f w m h e = absurd (omega arith)
  run_step (suc k) f w m h e = let t = (plain-taken f w m (to-plain asked f w m e)).less in run-took k f w m e ∙ ap (s w m) (run-fuel k (suc k) f m (omega arith) (omega arith))

module _ (asked : Bool) where
  -- with enough fuel, the run stops where no block is taken
  pub last_off : (k : ℕ) (f : List ℕ) (w : Walk) → left f w < k → Stays (step_by asked f (last_by asked k f w))
  last_off k f = run-stops asked (λ v. v) (λ v n r. r) f (λ w v. Stays (step_by asked f v)) (λ w h. h) (λ w m v e r. r) k

  -- what each step keeps holds where the run stops
  pub last-holds : (f : List ℕ) (P : Walk → Type 0) → ((w m : Walk) → step_by asked f w ≡ Took m → P w → P m) → (k : ℕ) (w : Walk) → P w → P (last_by asked k f w)
  last-holds f P step = run_holds asked (λ v. v) (λ v n r. r) f (λ w v. P w → P v) (λ w h. h) (λ w m v e r h. r (step w m e h))

  pub last_within : (k : ℕ) (f : List ℕ) (w : Walk) → w.at ≤ length f → (last_by asked k f w).at ≤ length f
  last_within k f = last-holds f (λ w. w.at ≤ length f) (λ w m e h. (plain-taken f w m (to-plain asked f w m e)).within) k

-- the fuel of a reading is enough from any walk
pub enough : (f : List ℕ) (w : Walk) → left f w < fuel f
unfolding left
enough f w = omega (arith, tag-le w.due)

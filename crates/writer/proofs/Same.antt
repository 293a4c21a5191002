-- Two walks are equal exactly when they are the same field by field, so `agrees` tells `Agrees` from
-- `Disagrees`. Assumes nothing.
use Prim.Native.Nat.{ℕ, zero, suc}
use native.Mathlib.Omega.{arith}
use mathlib.Core.Path.{◌≡◌, refl, sym, ap, ◌∙◌}
use mathlib.Core.Bool.{Bool, true, false, ◌&&◌}
use mathlib.Core.List.{List}
use mathlib.Mathlib.Logic.Function.Defs.{LeftInverse-Injective}
use lib.Dec.{eqb, leb}
use lib.ListN.{length}
use lib.Seq.{length-take-le}
use borrow.Author.Tests.{eq-eqb, eqb-true, le-leb, leb-true, leb-false}
use Rattle.le.proofs.Tests.{both, fails}
use Rattle.walk.specs.declared.due.Count.{Count}
use Rattle.walk.specs.declared.due.Due.{Due}
use Rattle.walk.specs.declared.due.Due.TheVariants as due
use Rattle.walk.specs.declared.due.Plan.{Plan}
use Rattle.walk.specs.declared.due.Present.{Present}
use Rattle.walk.specs.declared.due.Rest.{Rest}
use Rattle.walk.specs.declared.due.Walk.{Walk}
use Rattle.reading.specs.Reading.{stop}
use Rattle.writer.specs.Agree.{rank_of, same_kind, same_plan, same_count, same_present, same_rest, same_walk, written, Agrees, Disagrees, too_few, unended, other, agrees, TestsAgreement}

-- ---- kinds

-- the kind with a number
due_at : ℕ → Due
due_at zero = due.Generic
due_at (suc zero) = due.Site
due_at (suc (suc zero)) = due.Task
due_at (suc (suc (suc zero))) = due.Cut
due_at (suc (suc (suc (suc zero)))) = due.Radial
due_at (suc (suc (suc (suc (suc zero))))) = due.Moment
due_at (suc (suc (suc (suc (suc (suc zero)))))) = due.Data
due_at (suc (suc (suc (suc (suc (suc (suc n))))))) = due.Nothing

ranked : (d : Due) → due_at (rank_of d) ≡ d
unfolding rank_of due_at
ranked due.Generic = refl
ranked due.Site = refl
ranked due.Task = refl
ranked due.Cut = refl
ranked due.Radial = refl
ranked due.Moment = refl
ranked due.Data = refl
ranked due.Nothing = refl

pub kind-is : (a b : Due) → same_kind a b ≡ true → a ≡ b
kind-is a b e = LeftInverse-Injective due_at rank_of ranked a b (eqb-true (rank_of a) (rank_of b) e)

pub kind-if : (a b : Due) → a ≡ b → same_kind a b ≡ true
kind-if a b e = eq-eqb (rank_of a) (rank_of b) (ap rank_of e)

-- ---- walks

plan-is : (a b : Plan) → same_plan a b ≡ true → a ≡ b
plan-is a b e =
    let scan = eqb-true a.scan_type b.scan_type (both _ _ e).0 in
    let cuts = eqb-true a.cuts b.cuts (both (eqb a.scan_type b.scan_type) _ e).1 in
    λ i. record { scan_type = scan i; cuts = cuts i }

count-is : (a b : Count) → same_count a b ≡ true → a ≡ b
count-is a b e =
    let cut = eqb-true a.cut b.cut (both _ _ e).0 in
    let more = (both (eqb a.cut b.cut) (eqb a.whole b.whole && eqb a.in_cut b.in_cut) e).1 in
    let whole = eqb-true a.whole b.whole (both _ _ more).0 in
    let cut-in = eqb-true a.in_cut b.in_cut (both (eqb a.whole b.whole) _ more).1 in
    λ i. record { cut = cut i; whole = whole i; in_cut = cut-in i }

present-is : (a b : Present) → same_present a b ≡ true → a ≡ b
present-is a b e =
    let kinds = eqb a.state b.state && eqb a.sequence b.sequence in
    let bits = eqb a.mask b.mask && eqb a.sizes b.sizes in
    let start = eqb-true a.start b.start (both _ _ e).0 in
    let more = (both (eqb a.start b.start) (kinds && bits) e).1 in
    let kind = (both kinds bits more).0 in
    let masks = (both kinds bits more).1 in
    let state = eqb-true a.state b.state (both _ _ kind).0 in
    let sequence = eqb-true a.sequence b.sequence (both (eqb a.state b.state) _ kind).1 in
    let mask = eqb-true a.mask b.mask (both _ _ masks).0 in
    let sizes = eqb-true a.sizes b.sizes (both (eqb a.mask b.mask) _ masks).1 in
    λ i. record { start = start i; state = state i; sequence = sequence i; mask = mask i; sizes = sizes i }

rest-is : (a b : Rest) → same_rest a b ≡ true → a ≡ b
rest-is a b e =
    let ends = eqb a.seen b.seen && eqb a.length b.length in
    let todo = eqb-true a.todo b.todo (both _ _ e).0 in
    let more = (both (eqb a.todo b.todo) (eqb a.left b.left && ends) e).1 in
    let left = eqb-true a.left b.left (both _ _ more).0 in
    let end = (both (eqb a.left b.left) ends more).1 in
    let seen = eqb-true a.seen b.seen (both _ _ end).0 in
    let length = eqb-true a.length b.length (both (eqb a.seen b.seen) _ end).1 in
    λ i. record { todo = todo i; left = left i; seen = seen i; length = length i }

pub same-is : (a b : Walk) → same_walk a b ≡ true → a ≡ b
unfolding same_walk
same-is a b e =
    let kind = same_kind a.due b.due in
    let places = kind && eqb a.at b.at in
    let plans = same_plan a.plan b.plan in
    let counts = same_count a.count b.count in
    let presents = same_present a.present b.present in
    let rests = same_rest a.rest b.rest in
    let place = (both places ((plans && counts) && (presents && rests)) e).0 in
    let others = (both places ((plans && counts) && (presents && rests)) e).1 in
    let settled = (both (plans && counts) (presents && rests) others).0 in
    let radial = (both (plans && counts) (presents && rests) others).1 in
    let due = kind-is a.due b.due (both kind (eqb a.at b.at) place).0 in
    let at = eqb-true a.at b.at (both kind (eqb a.at b.at) place).1 in
    let plan = plan-is a.plan b.plan (both plans counts settled).0 in
    let count = count-is a.count b.count (both plans counts settled).1 in
    let present = present-is a.present b.present (both presents rests radial).0 in
    let rest = rest-is a.rest b.rest (both presents rests radial).1 in
    λ i. record { due = due i; at = at i; plan = plan i; count = count i; present = present i; rest = rest i }

self : (n : ℕ) → eqb n n ≡ true
self n = eq-eqb n n refl

same_self : (a : Walk) → same_walk a a ≡ true
unfolding same_walk
same_self a = simp self

pub same_if : (a b : Walk) → a ≡ b → same_walk a b ≡ true
same_if a b e = ap (same_walk a) (sym e) ∙ same_self a

-- ---- agreement

pub agree-is : (w : Walk) (room : List ℕ) → agrees w room ≡ true → Agrees w room
unfolding agrees
agree-is w room e =
    let here = leb w.at (length room) in
    let same = same_walk (stop (written w room)) w in
    record { within = leb-true w.at (length room) (both here same e).0; stops = same-is (stop (written w room)) w (both here same e).1 }

pub agree-if : (w : Walk) (room : List ℕ) → Agrees w room → agrees w room ≡ true
unfolding agrees
agree-if w room h = rw (le-leb w.at (length room) h.within, same_if (stop (written w room)) w h.stops)

-- ---- and where it fails

apart : (w : Walk) (room : List ℕ) → Disagrees w room → Agrees w room → ⊥
apart w room (too_few h) a = let l = a.within in omega arith
apart w room (unended h) a = h (ap (λ (x : Walk). x.at) a.stops ∙ sym (length-take-le w.at room a.within))
apart w room (other h) a = h a.stops

pub tests-agreement : (w : Walk) (room : List ℕ) → TestsAgreement w room
unfolding agrees
tests-agreement w room =
    record {
      yes = agree-is w room;
      no = go (leb w.at (length room)) refl;
      always = agree-if w room;
      never = λ d. fails (agrees w room) (λ t. apart w room d (agree-is w room t));
    }
  where
    go : (t : Bool) → leb w.at (length room) ≡ t → agrees w room ≡ false → Disagrees w room
    go true p e = other (λ s. let n : same_walk (stop (written w room)) w ≡ false = rw p at e in let y = same_if (stop (written w room)) w s in let z : ◌≡◌ {A = ℕ} 0 1 = cc in omega arith)
    go false p e = too_few (leb-false w.at (length room) p)

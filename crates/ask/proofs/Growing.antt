-- What growth keeps of each stretch, of the accepted cuts, and of a tally. Assumes nothing.
use Prim.Native.Nat.{ℕ, zero, suc, ◌+◌, ◌≤◌}
use native.Mathlib.Omega.{arith}
use mathlib.Core.Bool.{true}
use mathlib.Core.List.{List, [], ◌∷◌, ◌++◌}
use mathlib.Core.Path.{◌≡◌, refl, subst}
use borrow.Author.Tests.{leb-true, le-leb}
use lib.Dec.{leb}
use lib.ListN.{length}
use Rattle.std.specs.Prelude.{Some}
use Rattle.le.proofs.Tests.{both}
use Rattle.rules.specs.Ranges.{within}
use Rattle.wedge.specs.declared.Wedge.{Wedge}
use Rattle.walk.specs.declared.due.Due.{Due}
use Rattle.walk.specs.declared.due.Due.TheVariants as due
use Rattle.walk.specs.declared.due.Walk.{Walk}
use Rattle.reading.specs.declared.Stretch.{Stretch}
use Rattle.reading.specs.declared.step.Step.TheVariants.{Took}
use Rattle.walk.specs.Due.{at_start, cut_place}
use Rattle.walk.specs.After.{after_data}
use Rattle.reading.specs.Step.{take_generic, take_site, take_task, take_cut, take_radial, take_moment, take_data, block_at}
use Rattle.reading.specs.Reading.{last, fuel, stop, stretches, nth}
use Rattle.reading.specs.Growth.{Same}
use Rattle.reading.proofs.Growing.{through}
use Rattle.reading.proofs.Grown.{last-onward}
use Rattle.reading.proofs.Radials.{each-radial}
use Rattle.reading.proofs.Run.{settle-took, took-inj, due-either, taken, last-holds}
use Rattle.ask.specs.declared.tallies.Sums.{Sums}
use Rattle.ask.specs.Growth.{NoFewer}
use Rattle.ask.specs.Tallies.{added, tally_one, sums_over, cut_accepted}

-- ---- where the stretches of a file lie

pub record Placed (f : List ℕ) (s : Stretch) : Type 0 where
  pub header : s.start + 64 ≤ s.end
  pub within : s.end ≤ length f

abbrev pub AllPlaced : List ℕ → List Stretch → Type 0
AllPlaced f [] = Unit {0}
AllPlaced f (s ∷ ss) = Placed f s × AllPlaced f ss

pub all_placed : (f : List ℕ) → AllPlaced f (stretches f)
all_placed f = each-radial f (AllPlaced f) tt (λ w s ss o h r. (record { header = o.end; within = h }, r))

-- ---- the stretch with a sequence number

pub nth-kept : (l r : List Stretch) (n : ℕ) (s : Stretch) → nth l n ≡ Some s → nth (l ++ r) n ≡ Some s
unfolding nth
nth-kept [] r n s e = cc
nth-kept (x ∷ l) r zero s e = e
nth-kept (x ∷ l) r (suc zero) s e = e
nth-kept (x ∷ l) r (suc (suc n)) s e = nth-kept l r (suc n) s e

-- what holds of each holds of it
pub nth_of : (All : List Stretch → Type 0) (P : Stretch → Type 0) → ((s : Stretch) (l : List Stretch) → All (s ∷ l) → P s × All l)
    → (l : List Stretch) (n : ℕ) (s : Stretch) → All l → nth l n ≡ Some s → P s
unfolding nth
nth_of All P each [] n s h e = absurd (let z : ◌≡◌ {A = ℕ} 0 1 = cc in omega arith)
nth_of All P each (x ∷ l) zero s h e = absurd (let z : ◌≡◌ {A = ℕ} 0 1 = cc in omega arith)
nth_of All P each (x ∷ l) (suc zero) s h e = let z : x ≡ s = cc in subst P z (each x l h).0
nth_of All P each (x ∷ l) (suc (suc n)) s h e = nth_of All P each l (suc n) s (each x l h).1 e

pub nth-placed : (f : List ℕ) (n : ℕ) (s : Stretch) → nth (stretches f) n ≡ Some s → Placed f s
nth-placed f n s e = nth_of (AllPlaced f) (Placed f) (λ s l h. h) (stretches f) n s (all_placed f) e

-- the radials of A add to a tally of the longer file what they add to one of A
pub sums_same : (A C : List ℕ) (cut t : ℕ) (w : Wedge) (l : List Stretch) → Same A (A ++ C) l
    → sums_over (tally_one (A ++ C) cut t w) l ≡ sums_over (tally_one A cut t w) l
unfolding sums_over
sums_same A C cut t w [] h = refl
sums_same A C cut t w (s ∷ l) h = rw (h.0, sums_same A C cut t w l h.1)

-- ---- the accepted cuts of a walk grow

unfoldable Unplanned : Due → Walk → Type 0
Unplanned due.Generic w = w.plan.cuts ≡ 0
Unplanned due.Site w = w.plan.cuts ≡ 0
Unplanned due.Task w = w.plan.cuts ≡ 0
Unplanned due.Cut w = Unit {0}
Unplanned due.Radial w = Unit {0}
Unplanned due.Moment w = Unit {0}
Unplanned due.Data w = Unit {0}
Unplanned due.Nothing w = Unit {0}

record Onwards (w m : Walk) : Type 0 where
  pub cuts : w.plan.cuts ≤ m.plan.cuts
  pub plan : Unplanned m.due m

onwards : (d : Due) (p : List ℕ) (w m : Walk) → Unplanned d w → block_at d p w ≡ Took m → Onwards w m
unfolding block_at take_generic take_site take_task take_cut take_radial take_moment take_data after_data Unplanned
onwards due.Generic p w m u e = subst (Onwards w) (settle-took _ _ _ m e) (record { cuts = omega arith; plan = u })
onwards due.Site p w m u e = subst (Onwards w) (settle-took _ _ _ m e) (record { cuts = omega arith; plan = u })
onwards due.Task p w m u e = subst (Onwards w) (settle-took _ _ _ m e) (record { cuts = omega arith; plan = tt })
onwards due.Cut p w m u e = subst (Onwards w) (settle-took _ _ _ m e) (record { cuts = omega arith; plan = due-either Unplanned _ due.Radial due.Cut _ tt tt })
onwards due.Radial p w m u e = subst (Onwards w) (settle-took _ _ _ m e) (record { cuts = omega arith; plan = tt })
onwards due.Moment p w m u e = subst (Onwards w) (settle-took _ _ _ m e) (record { cuts = omega arith; plan = tt })
onwards due.Data p w m u e =
    subst (Onwards w) (took-inj _ m e)
    (record { cuts = omega arith; plan = due-either Unplanned _ due.Moment _ _ tt (due-either Unplanned _ due.Nothing due.Radial _ tt tt) })
onwards due.Nothing p w m u e = absurd (let z : ◌≡◌ {A = ℕ} 0 1 = cc in omega arith)

later : (k : ℕ) (f : List ℕ) (w : Walk) → Unplanned w.due w → Onwards w (last k f w)
later k f w u =
    last-holds true f (Onwards w)
    (λ v m e o. let n = onwards v.due _ v m o.plan (taken f v m e).block in let a = o.cuts in let b = n.cuts in record { cuts = omega arith; plan = n.plan }) k w
    (record { cuts = omega arith; plan = u })

accepted-later : (w m : Walk) (cut : ℕ) → w.at ≤ m.at → w.plan.cuts ≤ m.plan.cuts → cut_accepted w cut ≡ true → cut_accepted m cut ≡ true
unfolding cut_accepted within
accepted-later w m cut a c e =
    let x = both _ _ e in
    let y = both (leb 1 cut) (leb cut w.plan.cuts) x.0 in
    let one = leb-true 1 cut y.0 in
    let most = leb-true cut w.plan.cuts y.1 in
    let end = leb-true (cut_place cut + 256) w.at x.1 in
    rw (le-leb 1 cut one, le-leb cut m.plan.cuts (omega arith), le-leb (cut_place cut + 256) m.at (omega arith))

pub accepted-kept : (A C : List ℕ) (cut : ℕ) → cut_accepted (stop A) cut ≡ true → cut_accepted (stop (A ++ C)) cut ≡ true
unfolding Unplanned
accepted-kept A C cut e =
    let a = later (fuel A) A at_start refl in
    let b = later (fuel (A ++ C)) (A ++ C) (stop A) a.plan in
    rw (through A C) (accepted-later (stop A) _ cut (last-onward (fuel (A ++ C)) (A ++ C) (stop A)) b.cuts e)

-- ---- no count falls

pub no-fewer : (w : Wedge) (a b : Sums) → NoFewer (record { wedge = w; sums = a }) (record { wedge = w; sums = added a b })
no-fewer w a b =
    record {
      wedge = refl;
      radials = omega arith;
      blanks = omega arith;
      below = omega arith;
      folded = omega arith;
      not_scanned = omega arith;
      unknown = omega arith;
      reserved = omega arith;
      value = omega arith;
      class = omega arith;
    }

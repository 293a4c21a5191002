-- Sums add up, and no sum in a tally of a file is too large: a radial adds 1, at most one blank and at most its bytes. Assumes nothing.
use Prim.Native.Nat.{ℕ, ◌+◌, ◌-◌, ◌≤◌}
use native.Mathlib.Nat.{add_assoc, add_comm, add-zero, zero-add}
use native.Mathlib.Omega.{arith}
use mathlib.Core.Bool.{Bool, true, false, cond}
use mathlib.Core.List.{List, [], ◌∷◌, ◌++◌}
use mathlib.Core.Logic.{◌⊎◌, inl, inr}
use mathlib.Core.Path.{◌≡◌, refl, sym, ap, ◌∙◌}
use borrow.Author.Tests.{eqb-false, ne_eqb}
use lib.Dec.{eqb}
use lib.ListN.{length, length-take, length-drop}
use Rattle.le.specs.Le.{le}
use Rattle.le.proofs.Laws.{le-part}
use Rattle.moment.specs.Moment.{moment_at}
use Rattle.radial.specs.Radial.{radial_of, radial_at}
use Rattle.wedge.specs.declared.Wedge.{Wedge}
use Rattle.gates.specs.Codes.{codes_of}
use Rattle.gates.specs.Counting.{count_of, total_of}
use Rattle.gates.specs.Telling.{refused, answered}
use Rattle.gates.proofs.Codes.{codes-le}
use Rattle.gates.proofs.Counting.{counts_all}
use Rattle.moments.specs.Moments.{data_at}
use Rattle.reading.specs.declared.Stretch.{Stretch}
use Rattle.walk.specs.declared.due.Walk.{Walk}
use Rattle.reading.specs.declared.Onward.TheVariants.{Whole, Stopped}
use Rattle.walk.specs.Due.{at_start}
use Rattle.reading.specs.Reading.{stop, last, fuel, trace, advance_of, bytes_of}
use Rattle.reading.proofs.Loops.{further, no_more, stopped}
use Rattle.reading.proofs.Radials.{Between, outside, between_next}
use Rattle.ask.specs.declared.places.Where.{Where}
use Rattle.ask.specs.declared.places.Where.TheVariants.{At, NoRadial, NoMoment}
use Rattle.ask.specs.declared.tallies.Sums.{Sums}
use Rattle.ask.specs.declared.tallies.Tally.{Tally}
use Rattle.ask.specs.Answers.{coding_of}
use Rattle.ask.specs.Places.{moment_in}
use Rattle.ask.specs.Tallies.{no_sums, added, carried, is_asked, tally_one, sums_over, tally_of, tally_told}

-- ---- sums

pub added-assoc : (a b c : Sums) → added (added a b) c ≡ added a (added b c)
added-assoc a b c = simp add_assoc

pub added-comm : (a b : Sums) → added a b ≡ added b a
added-comm a b = simp add_comm

pub none-added : (a : Sums) → added no_sums a ≡ a
unfolding count_of
none-added a = simp zero-add

pub added_none : (a : Sums) → added a no_sums ≡ a
unfolding count_of
added_none a = simp add-zero

pub sums-append : (g : Stretch → Sums) (a b : List Stretch) → sums_over g (a ++ b) ≡ added (sums_over g a) (sums_over g b)
unfolding sums_over
sums-append g [] b = sym (none-added (sums_over g b))
sums-append g (s ∷ a) b = ap (added (g s)) (sums-append g a b) ∙ sym (added-assoc (g s) (sums_over g a) (sums_over g b))

-- ---- a field of a header is the number at the field's place

pub blank-is : (b : List ℕ) → (radial_at b 0).spot_blank ≡ le 4 b 4
unfolding radial_at radial_of
blank-is b = le-part 4 64 b 0 4 (omega arith)

pub azimuth-is : (b : List ℕ) → (radial_at b 0).azimuth ≡ le 4 b 20
unfolding radial_at radial_of
azimuth-is b = le-part 4 64 b 0 20 (omega arith)

-- ---- bounds

pub record Small (x : Sums) (n : ℕ) : Type 0 where
  pub radials : x.radials ≤ 1
  pub blanks : x.blanks ≤ 1
  pub gates : total_of x.counts ≤ n

none-small : (n : ℕ) → Small no_sums n
unfolding count_of
none-small n = record { radials = omega arith; blanks = omega arith; gates = omega arith }

data-le : (b : List ℕ) (p : ℕ) → length (data_at b p) ≤ length b
unfolding data_at
data-le b p = simp (length-take, length-drop) (omega arith)

carried-small : (b : List ℕ) (w : Where) → Small (carried b w) (length b)
unfolding carried
carried-small b NoRadial = none-small (length b)
carried-small b NoMoment = none-small (length b)
carried-small b (At s p) =
    let h = moment_at b p in
    let c = counts_all (coding_of h) (codes_of h.bin_length (data_at b p)) in
    let l = codes-le h.bin_length (data_at b p) in
    let d = data-le b p in
    record { radials = omega arith; blanks = go (eqb (radial_at b 0).spot_blank 1); gates = omega arith }
  where
    go : (z : Bool) → cond z 1 0 ≤ 1
    go true = omega arith
    go false = omega arith

own-le : (f : List ℕ) (s : Stretch) → length (bytes_of f s) ≤ s.end - s.start
own-le f s = simp length-take (omega arith)

pub one-small : (f : List ℕ) (cut t : ℕ) (w : Wedge) (s : Stretch) → Small (tally_one f cut t w s) (s.end - s.start)
one-small f cut t w s = go (is_asked f cut w s)
  where
    go : (b : Bool) → Small (cond b (carried (bytes_of f s) (moment_in f t s)) no_sums) (s.end - s.start)
    go true =
        let c = carried-small (bytes_of f s) (moment_in f t s) in
        let l = own-le f s in
        let g = c.gates in
        record { radials = c.radials; blanks = c.blanks; gates = omega arith }
    go false = none-small (s.end - s.start)

-- ---- the loop over whole radials: what it has counted where its walk is

module _ (f : List ℕ) (cut t : ℕ) (wedge : Wedge) where
  pub record Counting (w : Walk) (so : Sums) : Type 0 where
    pub between : Between w.due
    pub within : w.at ≤ length f
    pub radials : so.radials ≤ w.at
    pub blanks : so.blanks ≤ w.at
    pub gates : total_of so.counts ≤ w.at
    pub stop : last (fuel f) f w ≡ stop f
    pub sum : added so (sums_over (tally_one f cut t wedge) (trace (fuel f) f w)) ≡ (tally_of f cut t wedge).sums

  pub counting-none : Counting at_start no_sums
  unfolding Between count_of
  counting-none =
      record {
        between = tt;
        within = omega arith;
        radials = omega arith;
        blanks = omega arith;
        gates = omega arith;
        stop = refl;
        sum = none-added (tally_of f cut t wedge).sums;
      }

  module _ (w : Walk) (so : Sums) (c : Counting w so) where
    -- a further radial: its stretch starts where the walk is, or later
    pub record Adds (s : Stretch) (n : Walk) : Type 0 where
      pub radials : so.radials + (tally_one f cut t wedge s).radials ≤ n.at
      pub blanks : so.blanks + (tally_one f cut t wedge s).blanks ≤ n.at
      pub gates : total_of so.counts + total_of (tally_one f cut t wedge s).counts ≤ n.at
      pub next : Counting n (added so (tally_one f cut t wedge s))

    pub counting-turn : (s : Stretch) (n : Walk) → advance_of f w ≡ Whole s n → Adds s n
    unfolding sums_over
    counting-turn s n e =
        let x = further f w s n e in
        let o = outside f w s n c.between e in
        let m = one-small f cut t wedge s in
        let r : so.radials + (tally_one f cut t wedge s).radials ≤ n.at =
        omega (arith, x.end, o.from, o.end, m.radials, c.radials) in
        let k : so.blanks + (tally_one f cut t wedge s).blanks ≤ n.at =
        omega (arith, x.end, o.from, o.end, m.blanks, c.blanks) in
        let g : total_of so.counts + total_of (tally_one f cut t wedge s).counts ≤ n.at =
        omega (arith, x.end, o.from, o.end, m.gates, c.gates) in
        record {
          radials = r;
          blanks = k;
          gates = g;
          next =
              record {
                between = between_next f w s n e;
                within = x.within;
                radials = r;
                blanks = k;
                gates = omega arith;
                stop = sym x.stop ∙ c.stop;
                sum =
                    added-assoc so (tally_one f cut t wedge s) (sums_over (tally_one f cut t wedge) (trace (fuel f) f n))
                    ∙ ap (λ (l : List Stretch). added so (sums_over (tally_one f cut t wedge) l)) (sym x.more)
                    ∙ c.sum;
              };
        }

    pub counting-ends : (v : Walk) → advance_of f w ≡ Stopped v → (v ≡ stop f) × (so ≡ (tally_of f cut t wedge).sums)
    unfolding sums_over
    counting-ends v e = (
      sym (stopped f w v e) ∙ c.stop,
      sym (added_none so) ∙ ap (λ (l : List Stretch). added so (sums_over (tally_one f cut t wedge) l)) (sym (no_more f w v e)) ∙ c.sum,
    )

-- ---- what is told of a tally, whether the wedge is in range and whether the cut is accepted

pub told-31 : (o b : Bool) (x : Tally) → cond o (tally_told b x) (refused 61 0) ≡ refused 31 0 → (o ≡ true) × (b ≡ true)
unfolding tally_told
told-31 true true x e = (refl, refl)
told-31 true false x e = absurd (let z : ◌≡◌ {A = ℕ} 30 31 = cc in omega arith)
told-31 false b x e = absurd (let z : ◌≡◌ {A = ℕ} 61 31 = cc in omega arith)

pub told-61 : (o b : Bool) (x : Tally) → cond o (tally_told b x) (refused 61 0) ≡ refused 61 0 → o ≡ false
unfolding tally_told
told-61 true true x e = absurd (go (eqb x.sums.radials 0) e)
  where
    go : (z : Bool) → cond z (refused 31 0) (answered x) ≡ refused 61 0 → ⊥
    go true q = let z : ◌≡◌ {A = ℕ} 31 61 = cc in omega arith
    go false q = let z : ◌≡◌ {A = ℕ} 0 1 = cc in omega arith
told-61 true false x e = absurd (let z : ◌≡◌ {A = ℕ} 30 61 = cc in omega arith)
told-61 false b x e = refl

pub told-counted : (o b : Bool) (x a : Tally) → cond o (tally_told b x) (refused 61 0) ≡ answered a → (o ≡ true) × ((b ≡ true) × ((x ≡ a) × (x.sums.radials ≡ 0 → ⊥)))
unfolding tally_told
told-counted true true x a e = go (eqb x.sums.radials 0) refl
  where
    go : (z : Bool) → eqb x.sums.radials 0 ≡ z → (true ≡ true) × ((true ≡ true) × ((x ≡ a) × (x.sums.radials ≡ 0 → ⊥)))
    go true z = let e1 : cond true (refused 31 0) (answered x) ≡ answered a = rw z at e in absurd (let y : ◌≡◌ {A = ℕ} 0 1 = cc in omega arith)
    go false z = let e1 : cond false (refused 31 0) (answered x) ≡ answered a = rw z at e in (refl, (refl, (cc, eqb-false x.sums.radials 0 z)))
told-counted true false x a e = absurd (let y : ◌≡◌ {A = ℕ} 0 1 = cc in omega arith)
told-counted false b x a e = absurd (let y : ◌≡◌ {A = ℕ} 0 1 = cc in omega arith)

pub told-either : (x : Tally) → (tally_told true x ≡ refused 31 0) ⊎ ((b : Tally) × (tally_told true x ≡ answered b))
unfolding tally_told
told-either x = go (eqb x.sums.radials 0)
  where
    go : (z : Bool) → (cond z (refused 31 0) (answered x) ≡ refused 31 0) ⊎ ((b : Tally) × (cond z (refused 31 0) (answered x) ≡ answered b))
    go true = inl refl
    go false = inr (x, refl)

pub told-some : (x : Tally) → (x.sums.radials ≡ 0 → ⊥) → tally_told true x ≡ answered x
unfolding tally_told
told-some x h = rw (ne_eqb x.sums.radials 0 h)

-- The test on radials answers yes exactly where a schedule exists. Assumes nothing.
use mathlib.Core.Path.{◌≡◌, refl, ap}
use mathlib.Core.Bool.{Bool, true, false, ◌&&◌, cond}
use mathlib.Core.List.{List, [], ◌∷◌}
use mathlib.Core.Logic.{dite, ◌↔◌}
use Prim.Native.Nat.{ℕ, zero, suc, ◌+◌, ◌-◌, ◌*◌, ◌≤◌, ◌<◌}
use native.Mathlib.Decide.{dec_lt}
use native.Mathlib.Omega.{arith}
use lib.Dec.{eqb, leb, ltb, lit≤}
use lib.ListN.{length}
use borrow.Author.Tests.{le-leb, leb-true, lt-ltb, ltb-true, ne_eqb, eq-eqb}
use Rattle.le.proofs.Tests.{both, leb-same}
use Rattle.coming.specs.Radials.{Fair, sum, Schedule, radials_can, radials_can_after}

-- the least of a cut that is due: two from its start, one afterwards
abbrev least : ℕ → ℕ
least in_cut = cond (eqb in_cut 0) 2 1

least-of : (in_cut here : ℕ) → 1 ≤ here → 2 ≤ in_cut + here → least in_cut ≤ here
least-of in_cut here a b = dite (dec_lt 0 in_cut) (λ h. rw (ne_eqb in_cut 0 (λ e. omega arith)) a) (λ h. rw (eq-eqb in_cut 0 (omega arith)) (omega arith))

least-is : (in_cut : ℕ) → in_cut < 1000 → (1 ≤ least in_cut) × (2 ≤ in_cut + least in_cut) × (in_cut + least in_cut ≤ 1000)
least-is in_cut l =
    dite (dec_lt 0 in_cut) (λ h. rw (ne_eqb in_cut 0 (λ e. omega arith)) (omega arith, omega arith, omega arith))
    (λ h. rw (eq-eqb in_cut 0 (omega arith)) (omega arith, omega arith, omega arith))

fair-sum : (l : List ℕ) → Fair l → 2 * length l ≤ sum l
fair-sum [] f = omega arith
fair-sum (n ∷ l) f = let r = fair-sum l f.2 in omega (arith, f.0)

-- two radials in each of n cuts
twos : ℕ → List ℕ
twos zero = []
twos (suc n) = 2 ∷ twos n

twos-length : (n : ℕ) → length (twos n) ≡ n
unfolding twos
twos-length zero = refl
twos-length (suc n) = ap suc (twos-length n)

twos-fair : (n : ℕ) → Fair (twos n)
unfolding twos
twos-fair zero = tt
twos-fair (suc n) = (lit≤ tt, lit≤ tt, twos-fair n)

twos-sum : (n : ℕ) → sum (twos n) ≡ 2 * n
unfolding twos
twos-sum zero = refl
twos-sum (suc n) = let r = twos-sum n in omega arith

pub radials-are : (cuts cut in_cut whole : ℕ) → (radials_can cuts cut in_cut whole ≡ true) ↔ Schedule cuts cut in_cut whole
unfolding radials_can
radials-are cuts cut in_cut whole = (there, back)
  where
    there : (ltb in_cut 1000 && leb (whole + least in_cut + 2 * (cuts - cut)) 65536) ≡ true → Schedule cuts cut in_cut whole
    there e =
        let a = both (ltb in_cut 1000) _ e in
        let l = leb-true (whole + least in_cut + 2 * (cuts - cut)) 65536 a.1 in
        let i = least-is in_cut (ltb-true in_cut 1000 a.0) in
        let s = twos-sum (cuts - cut) in
        record {
          here = least in_cut;
          later = twos (cuts - cut);
          due = i.0;
          two = i.1;
          most = i.2;
          count = twos-length (cuts - cut);
          fair = twos-fair (cuts - cut);
          room = omega arith;
        }

    back : Schedule cuts cut in_cut whole → (ltb in_cut 1000 && leb (whole + least in_cut + 2 * (cuts - cut)) 65536) ≡ true
    back s =
        let d = s.due in
        let m = s.most in
        let l = least-of in_cut s.here s.due s.two in
        let f = fair-sum s.later s.fair in
        let n = s.count in
        let r = s.room in
        rw (lt-ltb in_cut 1000 (omega arith), le-leb (whole + least in_cut + 2 * (cuts - cut)) 65536 (omega arith))

-- ---- the test on a header is the test on the walk after it
-- a closing one with cuts to come: a radial is due in the next
pub closes-on : (cuts cut number sequence : ℕ) → cut < cuts → radials_can_after cuts cut true number sequence ≡ radials_can cuts (suc cut) 0 sequence
unfolding radials_can_after radials_can
closes-on cuts cut number sequence h =
    leb-same (sequence + 2 * (cuts - cut)) 65536 (sequence + 2 + 2 * (cuts - suc cut)) 65536 (λ a. omega arith) (λ a. omega arith)

-- one that does not close: a further one is due in the same cut
pub goes_on : (cuts cut number sequence : ℕ) → 1 ≤ number → radials_can_after cuts cut false number sequence ≡ radials_can cuts cut number sequence
unfolding radials_can_after radials_can
goes_on cuts cut number sequence h = rw (ne_eqb number 0 (λ e. omega arith))

-- ---- the steps of a walk: back along any radial, and on by one that is not yet the last of its cut, or closes it
pub first_on : (cuts cut whole : ℕ) → radials_can cuts cut 0 whole ≡ true → radials_can_after cuts cut false 1 (suc whole) ≡ true
unfolding radials_can_after radials_can
first_on cuts cut whole e =
    let l = leb-true (whole + 2 + 2 * (cuts - cut)) 65536 e in
    le-leb (suc whole + 1 + 2 * (cuts - cut)) 65536 (omega arith)

pub close-on : (cuts cut in_cut whole : ℕ) → 1 ≤ in_cut → radials_can cuts cut in_cut whole ≡ true → radials_can_after cuts cut true (suc in_cut) (suc whole) ≡ true
unfolding radials_can_after radials_can
close-on cuts cut in_cut whole h e =
    let s = (radials-are cuts cut in_cut whole).0 e in
    let f = fair-sum s.later s.fair in
    le-leb (suc whole + 2 * (cuts - cut)) 65536 (omega (arith, s.room, s.due, s.count))

pub step_back : (cuts cut in_cut whole : ℕ) (closes : Bool) → (closes ≡ true → 1 ≤ in_cut) → suc in_cut ≤ 1000
    → radials_can_after cuts cut closes (suc in_cut) (suc whole) ≡ true → radials_can cuts cut in_cut whole ≡ true
unfolding radials_can_after radials_can
step_back cuts cut in_cut whole true c m e =
    let o = c refl in
    let l = leb-true (suc whole + 2 * (cuts - cut)) 65536 e in
    rw (lt-ltb in_cut 1000 m, ne_eqb in_cut 0 (λ z. omega arith)) (le-leb (whole + 1 + 2 * (cuts - cut)) 65536 (omega arith))
step_back cuts cut in_cut whole false c m e =
    let a = both (ltb (suc in_cut) 1000) _ e in
    let l = leb-true (suc whole + 1 + 2 * (cuts - cut)) 65536 a.1 in
    rw (lt-ltb in_cut 1000 m) (le-leb (whole + least in_cut + 2 * (cuts - cut)) 65536 (go (eqb in_cut 0) l))
  where
    go : (b : Bool) → suc whole + 1 + 2 * (cuts - cut) ≤ 65536 → whole + cond b 2 1 + 2 * (cuts - cut) ≤ 65536
    go true l = omega arith
    go false l = omega arith

-- Radials by their number, two lists of them side by side, and how many are of a cut: plain laws of lists, which what is kept and what is
-- answered go by. Assumes nothing.
use Prim.Native.Nat.{ℕ, zero, suc, ◌+◌, ◌≤◌}
use native.Mathlib.Omega.{arith}
use mathlib.Core.Bool.{Bool, true, false, cond}
use mathlib.Core.List.{List, [], ◌∷◌, ◌++◌}
use mathlib.Core.Path.{◌≡◌, refl, ap}
use lib.Dec.{eqb}
use lib.ListN.{length}
use borrow.Author.Tests.{eq-eqb}
use Rattle.std.specs.Prelude.{Some}
use Rattle.reading.specs.declared.Stretch.{Stretch}
use Rattle.reading.specs.Reading.{nth}
use Rattle.volume.specs.InPlace.{of_cut}
use Rattle.mend.proofs.Keeping.{last_cut}

-- ---- by their number

pub nth-within : (ss : List Stretch) (n : ℕ) (s : Stretch) → nth ss n ≡ Some s → n ≤ length ss
unfolding nth
nth-within [] n s e = absurd (let z : ◌≡◌ {A = ℕ} 0 1 = cc in omega arith)
nth-within (x ∷ ss) zero s e = omega arith
nth-within (x ∷ ss) (suc zero) s e = omega arith
nth-within (x ∷ ss) (suc (suc k)) s e = let h = nth-within ss (suc k) s e in omega arith

-- behind some others
pub nth_end : (ss : List Stretch) (l : Stretch) → nth (ss ++ (l ∷ [])) (suc (length ss)) ≡ Some l
unfolding nth
nth_end [] l = refl
nth_end (x ∷ ss) l = nth_end ss l

-- among some, whatever follows
pub nth-among : (ss r : List Stretch) (n : ℕ) → n ≤ length ss → nth (ss ++ r) n ≡ nth ss n
unfolding nth
nth-among [] [] n h = refl
nth-among [] (x ∷ r) zero h = refl
nth-among [] (x ∷ r) (suc k) h = absurd (omega arith)
nth-among (x ∷ ss) r zero h = refl
nth-among (x ∷ ss) r (suc zero) h = refl
nth-among (x ∷ ss) r (suc (suc k)) h = nth-among ss r (suc k) (omega arith)

-- where there is a last cut, there is a radial
pub some-last : (ss : List Stretch) → 1 ≤ last_cut 0 ss → 1 ≤ length ss
unfolding last_cut
some-last [] h = absurd (omega arith)
some-last (x ∷ ss) h = omega arith

-- the last of some has their last cut
pub record LastOf (b : ℕ) (ss : List Stretch) : Type 0 where
  pub radial : Stretch
  pub is : nth ss (length ss) ≡ Some radial
  pub cut : radial.cut ≡ last_cut b ss

pub last_of : (b : ℕ) (ss : List Stretch) → 1 ≤ length ss → LastOf b ss
unfolding nth last_cut
last_of b [] h = absurd (omega arith)
last_of b (x ∷ []) h = record { radial = x; is = refl; cut = refl }
last_of b (x ∷ (y ∷ ys)) h = let l = last_of x.cut (y ∷ ys) (omega arith) in record { radial = l.radial; is = l.is; cut = l.cut }

-- ---- two lists of radials, two by two

pub data Pairs (P : Stretch → Stretch → Type 0) : List Stretch → List Stretch → Type 0 where
  none : Pairs P [] []
  more : {s u : Stretch} {ss us : List Stretch} → P s u → Pairs P ss us → Pairs P (s ∷ ss) (u ∷ us)

-- the n-th of each
pub record Nth (P : Stretch → Stretch → Type 0) (ss us : List Stretch) (n : ℕ) : Type 0 where
  pub s : Stretch
  pub u : Stretch
  pub here : nth ss n ≡ Some s
  pub there : nth us n ≡ Some u
  pub pair : P s u

module _ {P : Stretch → Stretch → Type 0} where
  pub pairs-long : {ss us : List Stretch} → Pairs P ss us → length us ≡ length ss
  pairs-long none = refl
  pairs-long (more p r) = ap suc (pairs-long r)

  pub pairs-join : {ss us ts ws : List Stretch} → Pairs P ss us → Pairs P ts ws → Pairs P (ss ++ ts) (us ++ ws)
  pairs-join none q = q
  pairs-join (more p r) q = more p (pairs-join r q)

  pub pairs-as : {Q : Stretch → Stretch → Type 0} → ((s u : Stretch) → P s u → Q s u) → {ss us : List Stretch} → Pairs P ss us → Pairs Q ss us
  pairs-as each none = none
  pairs-as each (more {s} {u} p r) = more (each s u p) (pairs-as each r)

  pub pairs-nth : {ss us : List Stretch} → Pairs P ss us → (n : ℕ) → 1 ≤ n → n ≤ length ss → Nth P ss us n
  unfolding nth
  pairs-nth none n low high = absurd (omega arith)
  pairs-nth (more p r) zero low high = absurd (omega arith)
  pairs-nth (more {s} {u} p r) (suc zero) low high = record { s = s; u = u; here = refl; there = refl; pair = p }
  pairs-nth (more p r) (suc (suc n)) low high =
      let x = pairs-nth r (suc n) (omega arith) (omega arith) in
      record { s = x.s; u = x.u; here = x.here; there = x.there; pair = x.pair }

-- ---- how many are of a cut

pub of-join : (k : ℕ) (x y : List Stretch) → of_cut k (x ++ y) ≡ of_cut k x + of_cut k y
of-join k [] y = omega arith
of-join k (s ∷ x) y = let h = of-join k x y in omega arith

pub of_one : (s : Stretch) → of_cut s.cut (s ∷ []) ≡ 1
of_one s = rw (eq-eqb s.cut s.cut refl) (omega arith)

pub of-most : (k : ℕ) (s : Stretch) → of_cut k (s ∷ []) ≤ 1
of-most k s = go (eqb s.cut k)
  where
    go : (b : Bool) → cond b 1 0 + 0 ≤ 1
    go true = omega arith
    go false = omega arith

-- one of them is of its own cut
pub of-nth : (ss : List Stretch) (n : ℕ) (s : Stretch) → nth ss n ≡ Some s → 1 ≤ of_cut s.cut ss
unfolding nth
of-nth [] n s e = absurd (let z : ◌≡◌ {A = ℕ} 0 1 = cc in omega arith)
of-nth (x ∷ ss) zero s e = absurd (let z : ◌≡◌ {A = ℕ} 0 1 = cc in omega arith)
of-nth (x ∷ ss) (suc zero) s e =
    let q : x ≡ s = cc in
    let h = eq-eqb x.cut s.cut (ap (λ (y : Stretch). y.cut) q) in
    rw h (omega arith)
of-nth (x ∷ ss) (suc (suc k)) s e = let h = of-nth ss (suc k) s e in omega arith

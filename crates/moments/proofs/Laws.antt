-- What the moments of a radial are, by the steps that find them and by a search among them. Assumes nothing.
use mathlib.Core.Path.{◌≡◌, refl, subst}
use mathlib.Core.Bool.{Bool, true, false}
use mathlib.Core.List.Memᴰ
use mathlib.Core.List.{List, [], ◌∷◌, Memᴰ}
use mathlib.Core.Logic.{⊎_elim}
use Prim.Native.Nat.{ℕ, zero, suc, ◌+◌, ◌≤◌, ◌<◌}
use native.Mathlib.Omega.{arith}
use lib.Dec.{eqb, leb}
use lib.ListN.{length}
use borrow.Author.Tests.{leb-true, eqb-true, eqb-false}
use Rattle.std.specs.Prelude.{Option, Some, None}
use Rattle.le.specs.Le.{le}
use Rattle.le.proofs.Laws.{le-part}
use Rattle.moment.specs.Moment.{moment_of, moment_at}
use Rattle.radial.specs.Radial.{radial_of, radial_at}
use Rattle.moments.specs.declared.Place.{Place}
use Rattle.moments.specs.Moments.{after, moments_from, moments_at, ahead_from, ahead_of, find_in}

-- a field of a header is the number at the field's place
pub number_is : (b : List ℕ) → (radial_at b 0).moment_number ≡ le 4 b 40
unfolding radial_at radial_of
number_is b = le-part 4 64 b 0 40 (omega arith)

pub type-is : (b : List ℕ) (at : ℕ) → (moment_at b at).data_type ≡ le 4 b (at + 0)
unfolding moment_at moment_of
type-is b at = le-part 4 32 b at 0 (omega arith)

pub length-is : (b : List ℕ) (at : ℕ) → (moment_at b at).length ≡ le 4 b (at + 16)
unfolding moment_at moment_of
length-is b at = le-part 4 32 b at 16 (omega arith)

-- a step from p that finds the moment at `at` and goes on from q
pub record Goes (b : List ℕ) (p : Place) (at : ℕ) (q : Place) : Type 0 where
  pub within : at + 32 ≤ length b
  pub more : moments_at b p ≡ at ∷ moments_at b q
  pub fewer : q.todo < p.todo

-- what a step says of the moments from its place on
abbrev Says : List ℕ → Place → Option (ℕ × Place) → Type 0
Says b p (Some (at, q)) = Goes b p at q
Says b p None = moments_at b p ≡ []

says : (b : List ℕ) (p : Place) → Says b p (ahead_of b p)
unfolding ahead_from moments_from
says b p = go p.todo p.at (leb (p.at + 32) (length b)) refl
  where
    go : (k a : ℕ) (t : Bool) → leb (a + 32) (length b) ≡ t → Says b (record { todo = k; at = a }) (ahead_of b (record { todo = k; at = a }))
    go zero a t e = refl
    go (suc k) a true e = rw e (record { within = leb-true (a + 32) (length b) e; more = rw e; fewer = omega arith })
    go (suc k) a false e = rw e (rw e)

-- where a step finds a moment, it is the first of those to come, and the others come from q on
pub there : (b : List ℕ) (p : Place) (at : ℕ) (q : Place) → ahead_of b p ≡ Some (at, q) → Goes b p at q
there b p at q e = subst (Says b p) e (says b p)

-- where it finds none, none is to come
pub end : (b : List ℕ) (p : Place) → ahead_of b p ≡ None → moments_at b p ≡ []
end b p e = subst (Says b p) e (says b p)

-- the header of each moment lies within b
pub all-within : (k : ℕ) (b : List ℕ) (a : ℕ) {at : ℕ} → Memᴰ at (moments_from k b a) → at + 32 ≤ length b
unfolding moments_from
all-within zero b a m = absurd (Memᴰ.not-nil m)
all-within (suc k) b a {at} m = go (leb (a + 32) (length b)) refl (λ r. all-within k b (after b a) r)
  where
    go : (t : Bool) → leb (a + 32) (length b) ≡ t → (Memᴰ at (moments_from k b (after b a)) → at + 32 ≤ length b) → at + 32 ≤ length b
    go true e rest = ⊎_elim (λ i. rw i (leb-true (a + 32) (length b) e)) rest (Memᴰ.cases_cons (rw e at m))
    go false e rest = absurd (Memᴰ.not-nil (rw e at m))

-- a moment of type t among those of l
pub record Among (b : List ℕ) (t : ℕ) (l : List ℕ) (at : ℕ) : Type 0 where
  pub one : Memᴰ at l
  pub type : (moment_at b at).data_type ≡ t

-- what a search for type t says of the moments of l
abbrev Tells : List ℕ → ℕ → List ℕ → Option ℕ → Type 0
Tells b t l (Some at) = Among b t l at
Tells b t l None = (at : ℕ) → Among b t l at → ⊥

-- a moment of another type before them changes nothing
passed : (b : List ℕ) (t x : ℕ) (l : List ℕ) (f : Option ℕ) → ((moment_at b x).data_type ≡ t → ⊥) → Tells b t l f → Tells b t (x ∷ l) f
passed b t x l (Some at) other r = record { one = Memᴰ.tail r.one; type = r.type }
passed b t x l None other r = λ at a.
    ⊎_elim (λ i. other (rw (← i) a.type)) (λ m. r at (record { one = m; type = a.type })) (Memᴰ.cases_cons a.one)

tells : (b : List ℕ) (t : ℕ) (l : List ℕ) → Tells b t l (find_in b t l)
unfolding find_in
tells b t [] = λ at a. Memᴰ.not-nil a.one
tells b t (x ∷ l) = go (eqb (moment_at b x).data_type t) refl (tells b t l)
  where
    go : (u : Bool) → eqb (moment_at b x).data_type t ≡ u → Tells b t l (find_in b t l) → Tells b t (x ∷ l) (find_in b t (x ∷ l))
    go true e r = rw e (record { one = Memᴰ.head refl; type = eqb-true _ _ e })
    go false e r = rw e (passed b t x l (find_in b t l) (eqb-false _ _ e) r)

-- where a search finds a moment, it is one of them and has the type
pub found : (b : List ℕ) (t : ℕ) (l : List ℕ) (at : ℕ) → find_in b t l ≡ Some at → Among b t l at
found b t l at e = subst (Tells b t l) e (tells b t l)

-- where it finds none, none of them has the type
pub missing : (b : List ℕ) (t : ℕ) (l : List ℕ) → find_in b t l ≡ None → (at : ℕ) → Among b t l at → ⊥
missing b t l e = subst (Tells b t l) e (tells b t l)

-- Which radials would have no moment left, by the questions that are asked of them. Assumes nothing.
use Prim.Native.Nat.{ℕ, zero, suc, ◌≤◌}
use native.Mathlib.Omega.{arith}
use mathlib.Core.Bool.{Bool, true, false, cond}
use mathlib.Core.List.{List, [], ◌∷◌}
use mathlib.Core.Path.{◌≡◌, refl, sym, ap, subst, ◌∙◌}
use borrow.Author.Tests.{eq-eqb, eqb-true, eqb-false, ne_eqb}
use lib.Dec.{eqb}
use lib.ListN.{length}
use Rattle.std.specs.Prelude.{Option, Some, None}
use Rattle.rules.specs.Masks.{bit}
use Rattle.moment.specs.Moment.{moment_at}
use Rattle.moments.specs.Moments.{find_in, moments_of}
use Rattle.reading.specs.declared.Stretch.{Stretch}
use Rattle.reading.specs.Reading.{bytes_of, nth, stretches}
use Rattle.ask.specs.Answers.{moment_told, radial_told}
use Rattle.ask.specs.Places.{in_found, in_stretch}
use Rattle.pick.specs.Keep.{wanted_in}
use Rattle.pick.specs.Pick.{empties, empty_in, first_empty}
use Rattle.pick.specs.Picked.{ByQuestions}
use Rattle.pick.proofs.Bits.{bit-none}

-- ---- among some moments

module _ (wanted : ℕ) (b : List ℕ) where
  -- where none is wanted, none of a wanted type is found
  none_found : (ats : List ℕ) → length (wanted_in wanted b ats) ≡ 0 → (t : ℕ) → bit wanted t ≡ true → find_in b t ats ≡ None
  unfolding wanted_in find_in
  none_found [] e t w = refl
  none_found (at ∷ ats) e t w = go (bit wanted (moment_at b at).data_type) refl e (λ r. none_found ats r t w)
    where
      go : (x : Bool) → bit wanted (moment_at b at).data_type ≡ x → length (cond x (at ∷ wanted_in wanted b ats) (wanted_in wanted b ats)) ≡ 0
          → (length (wanted_in wanted b ats) ≡ 0 → find_in b t ats ≡ None) → cond (eqb (moment_at b at).data_type t) (Some at) (find_in b t ats) ≡ None
      go true d r rest = absurd (omega arith)
      go false d r rest =
          rw (ne_eqb (moment_at b at).data_type t (λ same. let z = sym d ∙ ap (bit wanted) same ∙ w in let q : ◌≡◌ {A = ℕ} 0 1 = cc in omega arith)) (rest r)

  -- where one is, one of its type is found
  record Wanted (ats : List ℕ) : Type 0 where
    type : ℕ
    is : bit wanted type ≡ true
    place : ℕ
    there : find_in b type ats ≡ Some place

  some-found : (ats : List ℕ) → (length (wanted_in wanted b ats) ≡ 0 → ⊥) → Wanted ats
  unfolding wanted_in find_in
  some-found [] h = absurd (h refl)
  some-found (at ∷ ats) h = go (bit wanted (moment_at b at).data_type) refl h (λ r. some-found ats r)
    where
      skip : (t p : ℕ) → find_in b t ats ≡ Some p → (x : Bool) → (q : ℕ) × (cond x (Some at) (find_in b t ats) ≡ Some q)
      skip t p e true = (at, refl)
      skip t p e false = (p, e)

      go : (x : Bool) → bit wanted (moment_at b at).data_type ≡ x → (length (cond x (at ∷ wanted_in wanted b ats) (wanted_in wanted b ats)) ≡ 0 → ⊥)
          → ((length (wanted_in wanted b ats) ≡ 0 → ⊥) → Wanted ats) → Wanted (at ∷ ats)
      go true d r rest = record { type = (moment_at b at).data_type; is = d; place = at; there = rw (eq-eqb (moment_at b at).data_type (moment_at b at).data_type refl) }
      go false d r rest =
          let w = rest r in
          let s = skip w.type w.place w.there (eqb (moment_at b at).data_type w.type) in
          record { type = w.type; is = w.is; place = s.0; there = s.1 }

-- ---- of a file's radials

module _ (wanted : ℕ) (f : List ℕ) where
  -- one that would have no moment left, and one that would have some
  none_told : (s : Stretch) → empties wanted (bytes_of f s) ≡ true → (t : ℕ) → bit wanted t ≡ true → (moment_told f (in_found f (Some s) t)).number ≡ 31
  unfolding in_found in_stretch moment_told
  none_told s e t w = rw (none_found wanted (bytes_of f s) (moments_of (bytes_of f s)) (eqb-true _ 0 e) t w)

  some-told : (s : Stretch) → empties wanted (bytes_of f s) ≡ false → (t : ℕ) × ((bit wanted t ≡ true) × ((moment_told f (in_found f (Some s) t)).number ≡ 0))
  unfolding in_found in_stretch moment_told
  some-told s e = let w = some-found wanted (bytes_of f s) (moments_of (bytes_of f s)) (eqb-false _ 0 e) in (w.type, (w.is, rw w.there))

  -- the same of the n-th of some radials
  SomeKept : List Stretch → ℕ → Type 0
  SomeKept ss n = (t : ℕ) × ((bit wanted t ≡ true) × ((moment_told f (in_found f (nth ss n) t)).number ≡ 0))

  record FirstOf (ss : List Stretch) (s : Stretch) : Type 0 where
    before : ℕ
    is : nth ss (suc before) ≡ Some s
    empty : empties wanted (bytes_of f s) ≡ true
    others : (k : ℕ) → 1 ≤ k → k ≤ before → SomeKept ss k

  first_of : (ss : List Stretch) (s : Stretch) → first_empty wanted f ss ≡ Some s → FirstOf ss s
  unfolding first_empty nth SomeKept
  first_of [] s e = absurd (let z : ◌≡◌ {A = ℕ} 0 1 = cc in omega arith)
  first_of (x ∷ ss) s e = go (empties wanted (bytes_of f x)) refl e (first_of ss s)
    where
      go : (b : Bool) → empties wanted (bytes_of f x) ≡ b → cond b (Some x) (first_empty wanted f ss) ≡ Some s
          → (first_empty wanted f ss ≡ Some s → FirstOf ss s) → FirstOf (x ∷ ss) s
      go true d r rest = let q : x ≡ s = cc in record { before = 0; is = ap Some q; empty = ap (λ (y : Stretch). empties wanted (bytes_of f y)) (sym q) ∙ d; others = λ k low high. absurd (omega arith) }
      go false d r rest =
          let n = rest r in
          record { before = suc n.before; is = n.is; empty = n.empty; others = later n.before d n.others }
        where
          later : (m : ℕ) → empties wanted (bytes_of f x) ≡ false → ((k : ℕ) → 1 ≤ k → k ≤ m → SomeKept ss k) → (k : ℕ) → 1 ≤ k → k ≤ suc m → SomeKept (x ∷ ss) k
          later m d o zero low high = absurd (omega arith)
          later m d o (suc zero) low high = some-told x d
          later m d o (suc (suc k)) low high = o (suc k) (omega arith) (omega arith)

  each_of : (ss : List Stretch) → first_empty wanted f ss ≡ None → (n : ℕ) → (radial_told f (nth ss n)).number ≡ 0 → SomeKept ss n
  unfolding first_empty nth SomeKept radial_told
  each_of [] e n h = absurd (omega arith)
  each_of (x ∷ ss) e n h = go (empties wanted (bytes_of f x)) refl e n h (each_of ss)
    where
      go : (b : Bool) → empties wanted (bytes_of f x) ≡ b → cond b (Some x) (first_empty wanted f ss) ≡ None → (n : ℕ) → (radial_told f (nth (x ∷ ss) n)).number ≡ 0
          → (first_empty wanted f ss ≡ None → (m : ℕ) → (radial_told f (nth ss m)).number ≡ 0 → SomeKept ss m) → SomeKept (x ∷ ss) n
      go true d r n k rest = absurd (let z : ◌≡◌ {A = ℕ} 0 1 = cc in omega arith)
      go false d r zero k rest = absurd (omega arith)
      go false d r (suc zero) k rest = some-told x d
      go false d r (suc (suc m)) k rest = rest r (suc m) k

  pub by-questions : ByQuestions wanted f
  unfolding SomeKept radial_told
  by-questions =
      record {
        first = λ s e.
            let n = first_of (stretches f) s e in
            record {
              number = suc n.before;
              is = n.is;
              place = rw n.is;
              none = λ t w. subst (λ (x : Option Stretch). (moment_told f (in_found f x t)).number ≡ 31) (sym n.is) (none_told s n.empty t w);
              before = λ k low high. n.others k low (omega arith);
            };
        each = each_of (stretches f);
      }

-- ---- the mask 0 leaves none of any radial

none-wanted : (b ats : List ℕ) → wanted_in 0 b ats ≡ []
unfolding wanted_in
none-wanted b [] = refl
none-wanted b (at ∷ ats) = rw (bit-none (moment_at b at).data_type) (none-wanted b ats)

-- so the first radial is the first that has none
pub first-at-0 : (f : List ℕ) → empty_in 0 f ≡ nth (stretches f) 1
unfolding first_empty nth
first-at-0 f = go (stretches f)
  where
    go : (ss : List Stretch) → first_empty 0 f ss ≡ nth ss 1
    go [] = refl
    go (s ∷ ss) = rw (none-wanted (bytes_of f s) (moments_of (bytes_of f s)))

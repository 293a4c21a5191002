-- The last kept radial from the last two that have come: whatever is still to come, it is that of all radials. And which radials are kept,
-- by the last of them, and what further ones change. Assumes nothing.
use Prim.Native.Nat.{ℕ}
use mathlib.Core.Bool.{Bool, true, false, cond}
use mathlib.Core.List.{List, [], ◌∷◌, ◌++◌, append_assoc, append-nil}
use mathlib.Core.Path.{◌≡◌, refl, sym, ap, ◌∙◌}
use lib.Dec.{eqb}
use borrow.Author.Tests.{eq-eqb, ne_eqb}
use Rattle.std.specs.Prelude.{Option, Some, None}
use Rattle.reading.specs.declared.Stretch.{Stretch}
use Rattle.mend.specs.Kept.{kept_after, last_or, cut_of, kept_of}

-- the last kept radial, where two have come last and others are still to come
unfoldable pub last_from : Option Stretch → Option Stretch → List Stretch → Option Stretch
last_from before newest [] = kept_of before newest
last_from before newest (s ∷ ss) = last_from newest (Some s) ss

from_one : (before : Option Stretch) (s : Stretch) (ss : List Stretch) → last_from before (Some s) ss ≡ last_or before (kept_after (cut_of before) (s ∷ ss))
unfolding last_from kept_of kept_after last_or cut_of
from_one before s [] = go (eqb s.cut (cut_of before))
  where
    go : (b : Bool) → cond b (Some s) before ≡ last_or before (cond b (s ∷ []) [])
    go true = refl
    go false = refl
from_one before s (n ∷ ns) = from_one (Some s) n ns

pub from_start : (ss : List Stretch) → last_or None (kept_after 0 ss) ≡ last_from None None ss
unfolding last_from kept_of kept_after last_or cut_of
from_start [] = refl
from_start (s ∷ ss) = sym (from_one None s ss)

-- a further one has come
pub from_more : (before newest : Option Stretch) (s : Stretch) (l ss : List Stretch) → l ≡ s ∷ ss → last_from before newest l ≡ last_from newest (Some s) ss
unfolding last_from
from_more before newest s l ss e = ap (last_from before newest) e

-- no further one comes
pub from-none : (before newest : Option Stretch) (l : List Stretch) → l ≡ [] → last_from before newest l ≡ kept_of before newest
unfolding last_from
from-none before newest l e = ap (last_from before newest) e

-- ---- the last of some radials

-- its cut, behind one of cut b
unfoldable pub last_cut : ℕ → List Stretch → ℕ
last_cut b [] = b
last_cut b (s ∷ ss) = last_cut s.cut ss

pub cut-join : (b : ℕ) (x y : List Stretch) → last_cut b (x ++ y) ≡ last_cut (last_cut b x) y
unfolding last_cut
cut-join b [] y = refl
cut-join b (s ∷ x) y = cut-join s.cut x y

-- all in front of others are kept
kept-join : (b : ℕ) (x : List Stretch) (t : Stretch) (ts : List Stretch) → kept_after b (x ++ (t ∷ ts)) ≡ x ++ kept_after (last_cut b x) (t ∷ ts)
unfolding kept_after last_cut
kept-join b [] t ts = refl
kept-join b (s ∷ []) t ts = refl
kept-join b (s ∷ (n ∷ ns)) t ts = ap (λ (x : List Stretch). s ∷ x) (kept-join s.cut (n ∷ ns) t ts)

-- it is kept where it has the cut of the one before it
kept-end : (b : ℕ) (ss : List Stretch) (l : Stretch) → kept_after b (ss ++ (l ∷ [])) ≡ cond (eqb l.cut (last_cut b ss)) (ss ++ (l ∷ [])) ss
unfolding kept_after
kept-end b ss l = kept-join b ss l [] ∙ go (eqb l.cut (last_cut b ss))
  where
    go : (x : Bool) → ss ++ cond x (l ∷ []) [] ≡ cond x (ss ++ (l ∷ [])) ss
    go true = refl
    go false = append-nil ss

pub kept-with : (b : ℕ) (ss : List Stretch) (l : Stretch) → l.cut ≡ last_cut b ss → kept_after b (ss ++ (l ∷ [])) ≡ ss ++ (l ∷ [])
kept-with b ss l e = kept-end b ss l ∙ ap (λ (x : Bool). cond x (ss ++ (l ∷ [])) ss) (eq-eqb l.cut (last_cut b ss) e)

pub kept-without : (b : ℕ) (ss : List Stretch) (l : Stretch) → (l.cut ≡ last_cut b ss → ⊥) → kept_after b (ss ++ (l ∷ [])) ≡ ss
kept-without b ss l n = kept-end b ss l ∙ ap (λ (x : Bool). cond x (ss ++ (l ∷ [])) ss) (ne_eqb l.cut (last_cut b ss) n)

pub last_end : (d : Option Stretch) (ss : List Stretch) (l : Stretch) → last_or d (ss ++ (l ∷ [])) ≡ Some l
unfolding last_or
last_end d [] l = refl
last_end d (s ∷ ss) l = last_end (Some s) ss l

-- ---- the kept ones are the first

pub kept-first : (b : ℕ) (ss : List Stretch) → (later : List Stretch) × (ss ≡ kept_after b ss ++ later)
unfolding kept_after
kept-first b [] = ([], refl)
kept-first b (s ∷ []) = go (eqb s.cut b)
  where
    go : (x : Bool) → (later : List Stretch) × (◌≡◌ {A = List Stretch} (s ∷ []) (cond x (s ∷ []) [] ++ later))
    go true = ([], refl)
    go false = (s ∷ [], refl)
kept-first b (s ∷ (n ∷ ns)) = let k = kept-first s.cut (n ∷ ns) in (k.0, ap (λ (x : List Stretch). s ∷ x) k.1)

-- and stay so when others come
pub kept-grows : (b : ℕ) (x y : List Stretch) → (later : List Stretch) × (kept_after b (x ++ y) ≡ kept_after b x ++ later)
kept-grows b x [] = ([], ap (kept_after b) (append-nil x) ∙ sym (append-nil (kept_after b x)))
kept-grows b x (t ∷ ts) =
    let k = kept-first b x in
    let last = kept_after (last_cut b x) (t ∷ ts) in
    (k.0 ++ last, kept-join b x t ts ∙ ap (λ (z : List Stretch). z ++ last) k.1 ∙ append_assoc (kept_after b x) k.0 last)

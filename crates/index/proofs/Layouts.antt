-- What each layout says of the file and of the bytes that there are: the tests that lead to it. Assumes nothing.
use Prim.Native.Nat.{ℕ, ◌<◌, ◌≤◌}
use mathlib.Core.Bool.{Bool, true, false, cond}
use mathlib.Core.List.{List, [], ◌∷◌}
use mathlib.Core.Path.{◌≡◌, refl, subst}
use borrow.Author.Tests.{leb-true, leb-false}
use lib.Dec.{leb}
use lib.ListN.{length}
use Rattle.reading.specs.Reading.{stop, told, stretches}
use Rattle.index.specs.declared.Layout.{Layout}
use Rattle.index.specs.declared.Layout.TheVariants.{Fits, Short, Unfinished}
use Rattle.index.specs.Index.{index_for, index_of}
use Rattle.index.specs.Answer.{complete}
use Rattle.index.specs.Making.{cuts_in, layout_for, layout_of}
use Rattle.index.proofs.Sections.{length-index}
use Rattle.index.proofs.Walked.{cuts-read}
use Rattle.index.proofs.Same.{same-is}

complete-told : (f : List ℕ) → complete f ≡ true → told f ≡ 0 ∷ []
unfolding complete
complete-told f e = same-is (told f) (0 ∷ []) e

pub record Laid (f : List ℕ) (len cuts radials size : ℕ) : Type 0 where
  pub whole : complete f ≡ true
  pub said : cuts ≡ cuts_in f
  pub index : index_for cuts (stretches f) ≡ index_of f
  pub count : radials ≡ length (stretches f)
  pub long : size ≡ length (index_of f)
  pub room : length (index_of f) ≤ len

abbrev pub Says : List ℕ → ℕ → Layout → Type 0
Says f len (Fits cuts radials size) = Laid f len cuts radials size
Says f len Short = (complete f ≡ true) × (len < length (index_of f))
Says f len Unfinished = complete f ≡ false

pub says : (f : List ℕ) (len : ℕ) (l : Layout) → layout_of f len ≡ l → Says f len l
unfolding layout_for layout_of
says f len l e = subst (Says f len) e (rw (← length-index (stop f).plan.cuts (stretches f)) (go (complete f) (leb (length (index_of f)) len) refl refl))
  where
    go : (a b : Bool) → complete f ≡ a → leb (length (index_of f)) len ≡ b
        → Says f len (cond a (cond b (Fits (stop f).plan.cuts (length (stretches f)) (length (index_of f))) Short) Unfinished)
    go true true p q = record { whole = p; said = cuts-read f (complete-told f p); index = refl; count = refl; long = refl; room = leb-true (length (index_of f)) len q }
    go true false p q = (p, leb-false (length (index_of f)) len q)
    go false b p q = p

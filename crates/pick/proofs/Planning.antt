-- What one pass over the blocks finds: how many radials there are, how long they become, and the first that would have no moment left.
-- Assumes nothing.
use Prim.Native.Nat.{ℕ, ◌+◌, ◌≤◌}
use native.Mathlib.Nat.{zero-add}
use native.Mathlib.Omega.{arith}
use mathlib.Core.Bool.{Bool, true, false, cond, ◌&&◌}
use mathlib.Core.List.{List, [], ◌∷◌}
use mathlib.Core.Path.{◌≡◌, refl, sym, ap, ◌∙◌}
use borrow.Author.Tests.{le-leb, leb-true}
use lib.Dec.{leb}
use lib.ListN.{length, length-append}
use Rattle.std.specs.Prelude.{Option, Some, None}
use Rattle.le.specs.Le.{run}
use Rattle.le.proofs.Tests.{both}
use Rattle.walk.specs.declared.due.Walk.{Walk}
use Rattle.walk.specs.Due.{at_start, is_end}
use Rattle.reading.specs.declared.Stretch.{Stretch}
use Rattle.reading.specs.Reading.{bytes_of, ending_told, ending, fuel, last, stop, stretches, told, trace}
use Rattle.reading.proofs.Exactly.{step-done}
use Rattle.reading.proofs.Loops.{Further}
use Rattle.reading.proofs.Run.{ended, is-done}
use Rattle.index.specs.Answer.{complete}
use Rattle.index.proofs.Same.{is_same, not_same, same-is}
use Rattle.ask.proofs.Growing.{AllPlaced, all_placed}
use Rattle.pick.specs.Keep.{kept_bytes}
use Rattle.pick.specs.Pick.{Complete, empties, empty_in, first_empty, or_else, picked_radials, radials_at}
use Rattle.pick.proofs.Standing.{only, row, row-short, sized}

-- ---- whether a file is complete

pub complete-is : (f : List ℕ) → complete f ≡ (is_end (stop f).due && leb (length f) (stop f).at)
unfolding complete ending_told
complete-is f = go (is_end (stop f).due && leb (length f) (stop f).at) refl
  where
    go : (b : Bool) → (is_end (stop f).due && leb (length f) (stop f).at) ≡ b → complete f ≡ b
    go true e =
        let x = both (is_end (stop f).due) (leb (length f) (stop f).at) e in
        is_same (told f) (0 ∷ []) (ap ending_told (is-done true f (stop f) x.0 (leb-true (length f) (stop f).at x.1)))
    go false e =
        not_same (told f) (0 ∷ [])
        (λ t.
        let x = ended true f (stop f) (step-done (ending f) t) in
        let y : (is_end (stop f).due && leb (length f) (stop f).at) ≡ true = rw (x.0, le-leb (length f) (stop f).at x.1) in
        let z : ◌≡◌ {A = ℕ} 0 1 = cc in omega arith)

-- and so it reads
pub is-complete : (f : List ℕ) → complete f ≡ true → Complete f
unfolding complete
is-complete f e = same-is (told f) (0 ∷ []) e

-- ---- a pass

module _ (wanted : ℕ) (f : List ℕ) where
  -- behind the walk w these are still to come
  pub record Planned (w : Walk) (radials size : ℕ) (empty : Option Stretch) : Type 0 where
    pub few : radials ≤ size
    pub stops : stop f ≡ last (fuel f) f w
    pub placed : AllPlaced f (trace (fuel f) f w)
    pub many : radials + length (trace (fuel f) f w) ≡ length (stretches f)
    pub long : size + length (run (only wanted f) (trace (fuel f) f w)) ≡ length (picked_radials wanted f)
    pub first : or_else empty (first_empty wanted f (trace (fuel f) f w)) ≡ empty_in wanted f

  pub planned-none : (w : Walk) → w ≡ at_start → Planned w 0 0 None
  unfolding or_else
  planned-none w e = rw e (record { few = omega arith; stops = refl; placed = all_placed f; many = zero-add _; long = zero-add _; first = refl })

  -- all of them are no longer than the file
  all_short : length (picked_radials wanted f) ≤ length f
  all_short = let r = row-short wanted f (radials_at f) (stretches f) (row f) (all_placed f) in omega arith

  -- the first that would have no moment left, with one more looked at
  or-next : (b : Bool) (empty : Option Stretch) (s : Stretch) (rest : Option Stretch) → or_else (or_else empty (cond b (Some s) None)) rest ≡ or_else empty (cond b (Some s) rest)
  unfolding or_else
  or-next true None s rest = refl
  or-next false None s rest = refl
  or-next b (Some u) s rest = refl

  -- a further radial
  pub record Next (w : Walk) (s : Stretch) (n : Walk) (radials size : ℕ) (empty : Option Stretch) : Type 0 where
    pub fits : size + (64 + length (kept_bytes wanted (bytes_of f s))) ≤ length f
    pub few : radials + 1 ≤ length f
    pub then : Planned n (radials + 1) (size + (64 + length (kept_bytes wanted (bytes_of f s)))) (or_else empty (cond (empties wanted (bytes_of f s)) (Some s) None))

  pub planned-more : {w : Walk} {s : Stretch} {n : Walk} {radials size : ℕ} {empty : Option Stretch} → Planned w radials size empty → Further f w s n → Next w s n radials size empty
  unfolding run first_empty
  planned-more {w} {s} {n} {radials} {size} {empty} p r =
      let ss = trace (fuel f) f n in
      let e = r.more in
      let placed : AllPlaced f (s ∷ ss) = rw e at p.placed in
      let many : radials + length (s ∷ ss) ≡ length (stretches f) = rw e at p.many in
      let long : size + length (run (only wanted f) (s ∷ ss)) ≡ length (picked_radials wanted f) = rw e at p.long in
      let first : or_else empty (first_empty wanted f (s ∷ ss)) ≡ empty_in wanted f = rw e at p.first in
      let l = length-append (only wanted f s) (run (only wanted f) ss) in
      let z = (sized wanted f s ss placed).long in
      let all = all_short in
      let few = p.few in
      record {
        fits = omega arith;
        few = omega arith;
        then =
            record {
              few = omega arith;
              stops = p.stops ∙ r.stop;
              placed = placed.1;
              many = omega arith;
              long = omega arith;
              first = or-next (empties wanted (bytes_of f s)) empty s (first_empty wanted f ss) ∙ first;
            };
      }

  -- no further one
  pub record Whole (v : Walk) (radials size : ℕ) (empty : Option Stretch) : Type 0 where
    pub at-stop : v ≡ stop f
    pub all : radials ≡ length (stretches f)
    pub long : size ≡ length (picked_radials wanted f)
    pub first : empty ≡ empty_in wanted f

  pub planned-all : {w v : Walk} {radials size : ℕ} {empty : Option Stretch} → Planned w radials size empty → trace (fuel f) f w ≡ [] → last (fuel f) f w ≡ v → Whole v radials size empty
  unfolding run first_empty or_else
  planned-all {w} {v} {radials} {size} {empty} p e d =
      let many : radials + 0 ≡ length (stretches f) = rw e at p.many in
      let long : size + 0 ≡ length (picked_radials wanted f) = rw e at p.long in
      let first : or_else empty None ≡ empty_in wanted f = rw e at p.first in
      record { at-stop = sym (p.stops ∙ d); all = omega arith; long = omega arith; first = sym (none empty) ∙ first }
    where
      none : (x : Option Stretch) → or_else x None ≡ x
      none None = refl
      none (Some s) = refl

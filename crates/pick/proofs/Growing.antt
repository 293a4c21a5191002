-- Growth of what a pick writes and answers: the statement of specs/Growth. The radials whole in A have the same bytes in A ++ C, and come
-- first there. Assumes nothing.
use Prim.Native.Nat.{ℕ, ◌<◌}
use native.Mathlib.Omega.{arith}
use mathlib.Core.Bool.{Bool, true, false, cond}
use mathlib.Core.List.{List, [], ◌∷◌, ◌++◌, append-nil}
use mathlib.Core.Path.{◌≡◌, refl, sym, ap, ap₂, subst, ◌∙◌}
use lib.ListN.{length}
use Rattle.std.specs.Prelude.{Some}
use Rattle.le.specs.Le.{run}
use Rattle.le.proofs.Laws.{run-append}
use Rattle.gates.specs.Telling.{refused}
use Rattle.reading.specs.declared.Stretch.{Stretch}
use Rattle.reading.specs.declared.step.Step.TheVariants.{Refused}
use Rattle.reading.specs.Growth.{Same}
use Rattle.reading.specs.Reading.{bytes_of, ending, ending_told, fuel, stop, stretches, told, trace}
use Rattle.reading.proofs.Exactly.{step-of}
use Rattle.reading.proofs.Grown as reading
use Rattle.reading.proofs.Growing.{keeps-refused, kept, rests}
use Rattle.reading.proofs.Run.{Stays}
use Rattle.index.specs.Answer.{complete, same}
use Rattle.pick.specs.Growth.{PickGrows}
use Rattle.pick.specs.Keep.{picked_radial}
use Rattle.pick.specs.Pick.{answer_of, empties, first_empty}

-- a refused file is answered by 36
refused-36 : (f : List ℕ) (number place : ℕ) → told f ≡ 2 ∷ number ∷ place ∷ [] → (wanted n : ℕ) → answer_of wanted f n ≡ refused 36 0
unfolding complete same
refused-36 f number place e wanted n = rw e

-- some is not nothing
some : (C : List ℕ) → (C ≡ [] → ⊥) → 0 < length C
some [] h = absurd (h refl)
some (x ∷ C) h = omega arith

-- stretches have in a file the bytes that they have
itself : (A : List ℕ) (ss : List Stretch) → Same A A ss
itself A [] = tt
itself A (s ∷ ss) = (refl, itself A ss)

-- the whole radials of A have the same bytes in A ++ C, also where C is empty
same_bytes : (A C : List ℕ) → Same A (A ++ C) (stretches A)
same_bytes A [] = subst (λ (B : List ℕ). Same A B (stretches A)) (sym (append-nil A)) (itself A (stretches A))
same_bytes A (x ∷ C) = (reading.grows A (x ∷ C) (omega arith)).bytes

module _ (A B : List ℕ) (wanted : ℕ) where
  -- with the same bytes radials give the same bytes
  run-same : (ss : List Stretch) → Same A B ss → run (λ (s : Stretch). picked_radial wanted (bytes_of B s)) ss ≡ run (λ (s : Stretch). picked_radial wanted (bytes_of A s)) ss
  unfolding run
  run-same [] h = refl
  run-same (s ∷ ss) h = ap₂ (λ (x y : List ℕ). x ++ y) (ap (picked_radial wanted) h.0) (run-same ss h.1)

  -- and the first that would have no moment left is still the first, whatever follows
  first-same : (ss later : List Stretch) (s : Stretch) → Same A B ss → first_empty wanted A ss ≡ Some s → first_empty wanted B (ss ++ later) ≡ Some s
  unfolding first_empty
  first-same [] later s h e = absurd (let z : ◌≡◌ {A = ℕ} 0 1 = cc in omega arith)
  first-same (x ∷ ss) later s h e = rw h.0 (go (empties wanted (bytes_of A x)) (first-same ss later s h.1) e)
    where
      go : (t : Bool) → (first_empty wanted A ss ≡ Some s → first_empty wanted B (ss ++ later) ≡ Some s) → cond t (Some x) (first_empty wanted A ss) ≡ Some s → cond t (Some x) (first_empty wanted B (ss ++ later)) ≡ Some s
      go true rest d = d
      go false rest d = rest d

-- what is told of a longer file
pub grows : (A C : List ℕ) → PickGrows A C
unfolding ending_told Stays
grows A C =
    let B = A ++ C in
    let later = trace (fuel B) B (stop A) in
    let more = kept A C in
    let h = same_bytes A C in
    record {
      later = later;
      more = more;
      same = λ wanted.
          let one : Stretch → List ℕ = λ s. picked_radial wanted (bytes_of B s) in
          ap (run one) more ∙ run-append one (stretches A) later ∙ ap (λ (x : List ℕ). x ++ run one later) (run-same A B wanted (stretches A) h);
      first = λ wanted s e. ap (first_empty wanted B) more ∙ first-same A B wanted (stretches A) later s h e;
      complete = λ e c. refused-36 B 25 (length A) ((reading.grows A C (some C c)).complete e);
      refused-36 = λ number place e. refused-36 B number place (ap ending_told (rests A C (Refused number place) tt (keeps-refused A C (stop A) number place (step-of (ending A) number place e))).told);
    }

-- Growth, step by step: what was read of a file stays as it was when bytes are added at its end. Assumes nothing.
use Prim.Native.Nat.{ℕ, ◌+◌, ◌-◌, ◌<◌, ◌≤◌}
use native.Mathlib.Omega.{arith}
use mathlib.Core.Path.{◌≡◌, refl, sym, ap, ap₂, subst⁻¹, ◌∙◌}
use mathlib.Core.Bool.{Bool, true, false}
use mathlib.Core.List.{List, [], ◌++◌, append-nil}
use lib.ListN.{length, length-append}
use lib.Seq.{take-append-le}
use Rattle.walk.specs.declared.due.Walk.{Walk}
use Rattle.reading.specs.declared.Stretch.{Stretch}
use Rattle.reading.specs.declared.step.Step.{Step}
use Rattle.reading.specs.declared.step.Step.TheVariants.{Took, Open, Refused, Complete}
use Rattle.walk.specs.Due.{size_of, is_end, ends_radial, at_start}
use Rattle.reading.specs.Step.{say_block, step_of}
use Rattle.reading.specs.Reading.{walk_on, last, fuel, stop, ending, stretch_if, stretch_of, trace, stretches}
use Rattle.reading.proofs.Run.{View, here, short, over, done, view, is-here, is-short, is-over, is-done, Plain, here-plain, ended, opened, left, taken, Stays, run-stays, run-halts, run-took, run_along, run_holds, run_step, enough}

-- a block that is there reads the same
same_here : (A C : List ℕ) (w : Walk) → is_end w.due ≡ false → w.at + size_of w ≤ length A → step_of (A ++ C) w ≡ step_of A w
same_here A C w i h =
    is-here (A ++ C) w i (omega (arith, length-append A C))
    ∙ ap (λ (p : List ℕ). say_block w.due p w) (take-append-le (w.at + size_of w) A C h)
    ∙ sym (is-here A w i h)

-- a step that took or refused says the same after growth
pub keeps-took : (A C : List ℕ) (w m : Walk) → step_of A w ≡ Took m → step_of (A ++ C) w ≡ Took m
keeps-took A C w m e = let t = taken A w m e in same_here A C w t.going t.room ∙ e

pub keeps-refused : (A C : List ℕ) (w : Walk) (n p : ℕ) → step_of A w ≡ Refused n p → step_of (A ++ C) w ≡ Refused n p
keeps-refused A C w n p e = go (view A w)
  where
    go : View A w → step_of (A ++ C) w ≡ Refused n p
    go (here i h) = same_here A C w i h ∙ e
    go (short i h) = let q = is-short true A w i h in cc
    go (over i h) = is-over true (A ++ C) w i (omega (arith, length-append A C)) ∙ sym (is-over true A w i h) ∙ e
    go (done i h) = let q = is-done true A w i h in cc

-- an end that is reached: bytes that follow are refused
pub grows-complete : (A C : List ℕ) (w : Walk) → w.at ≤ length A → step_of A w ≡ Complete → 0 < length C → step_of (A ++ C) w ≡ Refused 25 (length A)
grows-complete A C w b e c =
    let d = ended true A w e in
    let h = d.1 in
    is-over true (A ++ C) w d.0 (omega (arith, length-append A C)) ∙ ap (Refused 25) (omega arith)

-- an open block: how much is missing, and what becomes of it
pub record Opens (A C : List ℕ) (w : Walk) (n : ℕ) : Type 0 where
  pub some : 1 ≤ n
  pub still : length C < n → step_of (A ++ C) w ≡ Open (n - length C)
  pub further : n ≤ length C → Plain (step_of (A ++ C) w)
  pub size : w.at < w.at + size_of w

pub grows-open : (A C : List ℕ) (w : Walk) (n : ℕ) → w.at ≤ length A → step_of A w ≡ Open n → Opens A C w n
grows-open A C w n b e =
    let o = opened true A w n e in
    let i = o.0 in
    let h = o.1 in
    let q = o.2 in
    let l = length-append A C in
    record {
      some = omega arith;
      still = λ c. is-short true (A ++ C) w i (omega arith) ∙ ap Open (omega arith);
      further = λ c. here-plain true (A ++ C) w i (omega arith);
      size = omega arith;
    }

-- ---- runs: what the longer file's run makes is what the shorter's makes, with the rest put in where that one stops

module _ {X : Type 0} (z : Walk → X) (s : Walk → Walk → X → X) where
  run-grows : (k K : ℕ) (A C : List ℕ) (w : Walk) → left (A ++ C) w < K → walk_on z s K (A ++ C) w ≡ walk_on (walk_on z s K (A ++ C)) s k A w
  run-grows k K A C =
      run_holds true (walk_on z s K (A ++ C)) s A (λ w x. left (A ++ C) w < K → walk_on z s K (A ++ C) w ≡ x) (λ w h. refl)
      (λ w m x e r h. let b = keeps-took A C w m e in let t = (taken (A ++ C) w m b).less in
      run_step true z s K (A ++ C) w m h b ∙ ap (s w m) (r (omega arith))) k

-- the rest, put in at the stop
last_rest : {X : Type 0} (y : Walk → X) (k : ℕ) (f : List ℕ) (w : Walk) → walk_on y (λ v n r. r) k f w ≡ y (last k f w)
last_rest y k f =
    run_along true y (λ v n r. r) f (λ k w x. x ≡ y (last k f w)) (λ k w h. ap y (sym (run-halts true (λ v. v) (λ v n r. r) k f w h)))
    (λ k w m x e r. r ∙ ap y (sym (run-took true (λ v. v) (λ v n r. r) k f w m e))) k

pub stretch-append : (b : Bool) (w n : Walk) (r t : List Stretch) → stretch_if b w n (r ++ t) ≡ stretch_if b w n r ++ t
unfolding stretch_if
stretch-append true w n r t = refl
stretch-append false w n r t = refl

trace-rest : (y : Walk → List Stretch) (k : ℕ) (f : List ℕ) (w : Walk) → walk_on y stretch_of k f w ≡ trace k f w ++ y (last k f w)
trace-rest y k f =
    run_along true y stretch_of f (λ k w x. x ≡ trace k f w ++ y (last k f w))
    (λ k w h. rw (run-halts true (λ v. []) stretch_of k f w h, run-halts true (λ v. v) (λ v n r. r) k f w h))
    (λ k w m x e r. ap (stretch_of w m) r ∙ stretch-append (ends_radial w.due w.rest.todo) w m (trace k f m) (y (last k f m))
    ∙ sym (ap₂ (λ (t : List Stretch) (v : Walk). t ++ y v) (run-took true (λ v. []) stretch_of k f w m e) (run-took true (λ v. v) (λ v n r. r) k f w m e))) k

-- ---- the longer file's run goes through the stop of the shorter's, and every whole radial of A is in A ++ C

module _ (A C : List ℕ) where
  pub through : stop (A ++ C) ≡ last (fuel (A ++ C)) (A ++ C) (stop A)
  through = run-grows (λ v. v) (λ v n r. r) (fuel A) (fuel (A ++ C)) A C at_start (enough (A ++ C) at_start) ∙ last_rest _ (fuel A) A at_start

  pub kept : stretches (A ++ C) ≡ stretches A ++ trace (fuel (A ++ C)) (A ++ C) (stop A)
  kept = run-grows (λ v. []) stretch_of (fuel A) (fuel (A ++ C)) A C at_start (enough (A ++ C) at_start) ∙ trace-rest _ (fuel A) A at_start

  -- where the longer file's step stays at the shorter's stop, the two stop there
  pub record Rests (t : Step) : Type 0 where
    pub at : stop (A ++ C) ≡ stop A
    pub radials : stretches (A ++ C) ≡ stretches A
    pub told : ending (A ++ C) ≡ t

  pub rests : (t : Step) → Stays t → step_of (A ++ C) (stop A) ≡ t → Rests t
  rests t h e =
      let s = subst⁻¹ Stays e h in
      let a = through ∙ run-stays true (λ v. v) (λ v n r. r) (fuel (A ++ C)) (A ++ C) (stop A) s in
      record {
        at = a;
        radials = kept ∙ ap (λ (t : List Stretch). stretches A ++ t) (run-stays true (λ v. []) stretch_of (fuel (A ++ C)) (A ++ C) (stop A) s) ∙ append-nil (stretches A);
        told = ap (step_of (A ++ C)) a ∙ e;
      }

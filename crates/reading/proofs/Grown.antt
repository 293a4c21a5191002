-- Growth: the statement of specs/Growth, for every A and every C with a byte at least. Assumes nothing.
use Prim.Native.Nat.{ℕ, ◌+◌, ◌-◌, ◌<◌, ◌≤◌}
use native.Mathlib.Decide.{dec_le}
use native.Mathlib.Omega.{arith}
use mathlib.Core.Logic.{dite}
use mathlib.Core.Path.{◌≡◌, sym, ap, ◌∙◌}
use mathlib.Core.Bool.{Bool, true, false}
use mathlib.Core.List.{List, [], ◌++◌}
use lib.ListN.{length, drop, length-drop}
use lib.Seq.{take-append-le, drop-append-le}
use Rattle.walk.specs.declared.due.Due.TheVariants as due
use Rattle.walk.specs.declared.due.Walk.{Walk}
use Rattle.reading.specs.declared.Stretch.{Stretch}
use Rattle.reading.specs.declared.step.Step.TheVariants.{Open, Refused}
use Rattle.walk.specs.Due.{size_of, ends_radial, at_start}
use Rattle.reading.specs.Step.{step_of}
use Rattle.reading.specs.Reading.{last, fuel, stop, ending, ending_told, stretch, stretch_if, stretch_of, trace, told, bytes_of}
use Rattle.reading.specs.Growth.{Same, Further, read, refused, Grows}
use Rattle.reading.proofs.Run.{Plain, took, taken, Stays, run_holds, last-holds, last_within}
use Rattle.reading.proofs.Run as run
use Rattle.reading.proofs.Exactly.{step-of, step-done, step-open, refused-inside}
use Rattle.reading.proofs.Loops.{last_step}
use Rattle.reading.proofs.Growing.{keeps-refused, grows-complete, grows-open, through, kept, rests}

-- ---- a stretch within A has the same bytes in A ++ C

bytes_same : (A C : List ℕ) (s : Stretch) → s.end ≤ length A → bytes_of (A ++ C) s ≡ bytes_of A s
bytes_same A C s h =
    dite (dec_le s.start (length A))
    (λ k. let l = length-drop s.start A in
    rw (drop-append-le s.start A C k) (take-append-le (s.end - s.start) (drop s.start A) C (omega arith)))
    (λ k. let z : s.end - s.start ≡ 0 = omega arith in rw z)

same_if : (b : Bool) (A C : List ℕ) (w m : Walk) (r : List Stretch) → m.at ≤ length A → Same A (A ++ C) r → Same A (A ++ C) (stretch_if b w m r)
unfolding stretch_if
same_if true A C w m r h s = (bytes_same A C (stretch w m) h, s)
same_if false A C w m r h s = s

same-trace : (k : ℕ) (A C : List ℕ) (w : Walk) → Same A (A ++ C) (trace k A w)
same-trace k A C =
    run_holds true (λ v. []) stretch_of A (λ w r. Same A (A ++ C) r) (λ w. tt)
    (λ w m r e s. same_if (ends_radial w.due w.rest.todo) A C w m r (taken A w m e).within s) k

-- ---- a walk goes on, never back

pub last-onward : (k : ℕ) (f : List ℕ) (w : Walk) → w.at ≤ (last k f w).at
last-onward k f w = last-holds true f (λ v. w.at ≤ v.at) (λ v m e h. let t = (taken f v m e).end in omega arith) k w (omega arith)

-- ---- the theorem

module _ (A C : List ℕ) (some : 0 < length C) where
  within : (stop A).at ≤ length A
  within = last_within true (fuel A) A at_start (omega arith)

  goes_on : Plain (step_of (A ++ C) (stop A)) → (stop A).at < (stop A).at + size_of (stop A) → Further A (A ++ C)
  unfolding Stays ending_told
  goes_on (run.took m e) s =
      let t = (taken (A ++ C) (stop A) m e).end in
      let l = last-onward (fuel (A ++ C)) (A ++ C) m in
      let q : stop (A ++ C) ≡ last (fuel (A ++ C)) (A ++ C) m = through A C ∙ last_step (A ++ C) (stop A) m e in
      read (rw q (omega arith))
  goes_on (run.refused n p e) s =
      let r = rests A C (Refused n p) tt e in
      let i = refused-inside (A ++ C) (stop A) n p e s in
      refused n p (ap ending_told r.told) (ap (λ (x : Walk). x.at) r.at) i.0 i.1

  pub grows : Grows A C
  unfolding Stays ending_told
  grows =
      record {
        later = trace (fuel (A ++ C)) (A ++ C) (stop A);
        radials = kept A C;
        bytes = same-trace (fuel A) A C at_start;
        refused = λ n p e.
            let s = step-of (ending A) n p e in
            ap ending_told ((rests A C (Refused n p) tt (keeps-refused A C (stop A) n p s)).told ∙ sym s);
        complete = λ e.
            ap ending_told (rests A C (Refused 25 (length A)) tt (grows-complete A C (stop A) within (step-done (ending A) e) some)).told;
        wants = λ n e. (grows-open A C (stop A) n within (step-open (ending A) n e)).some;
        fewer = λ n e c.
            let r = rests A C (Open (n - length C)) tt ((grows-open A C (stop A) n within (step-open (ending A) n e)).still c) in
            (r.radials, ap ending_told r.told);
        enough = λ n e c.
            let o = grows-open A C (stop A) n within (step-open (ending A) n e) in
            goes_on (o.further c) o.size;
      }

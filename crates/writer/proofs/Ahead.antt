-- A block that is due after another has a byte at least, so a reading stops where its bytes end. Assumes nothing.
use Prim.Native.Nat.{ℕ, zero, suc, ◌+◌, ◌≤◌}
use native.Mathlib.Omega.{arith}
use mathlib.Core.Path.{◌≡◌, sym, ap, subst, subst⁻¹, ◌∙◌}
use mathlib.Core.Bool.{true, false}
use mathlib.Core.List.{List, ◌++◌}
use lib.Dec.{lit<}
use lib.ListN.{length}
use mir.Syntax.{w32}
use Rattle.rules.specs.Tiling.{length_ok, length_clauses}
use Rattle.rules.proofs.Numbers.{below}
use Rattle.moment.specs.declared.Moment.{Moment}
use Rattle.moment.specs.Moment.{moment_check, moment_rules}
use Rattle.rules.proofs.Judged.{all_hold}
use Rattle.walk.specs.declared.due.Due.{Due}
use Rattle.walk.specs.declared.due.Due.TheVariants as due
use Rattle.walk.specs.declared.due.Walk.{Walk}
use Rattle.reading.specs.declared.step.Step.TheVariants.{Took}
use Rattle.walk.specs.Due.{size_at, is_end, moment_due}
use Rattle.walk.specs.After.{after_cut, after_data}
use Rattle.reading.specs.Step.{take_generic, take_site, take_task, take_cut, take_radial, take_moment, take_data, block_at, step_of}
use Rattle.reading.specs.Reading.{last, fuel, stop}
use Rattle.reading.proofs.Run.{settle-took, settle-fine, took-inj, due-either, taken, Stays, View, here, short, over, done, view, is-short, is-done, run-stays}
use Rattle.reading.proofs.Loops.{last_step}
use Rattle.reading.proofs.Growing.{through}

-- a block that is due here has a byte
unfoldable Some : Due → Walk → Type 0
Some d w = is_end d ≡ false → 1 ≤ size_at d w.rest.length

-- number 24 keeps data from being empty
length_some : (todo left bin n : ℕ) → length_ok todo left bin n ≡ true → 1 ≤ n
unfolding length_clauses
length_some todo left bin zero e =
    let f : false ≡ true = rw (sym (below w32 1 32768 0 (lit< tt) (omega arith))) at e in
    absurd (let z : ◌≡◌ {A = ℕ} 0 1 = cc in omega arith)
length_some todo left bin (suc n) e = omega arith

moment-some : (r : Moment) (w m : Walk) → take_moment r w ≡ Took m → Some m.due m
unfolding take_moment moment_check Some size_at
moment-some r w m e =
    let h = all_hold (moment_rules r (moment_due w)) (settle-fine _ _ _ m e) in
    subst (λ (x : Walk). Some x.due x) (settle-took _ _ _ m e) (λ i. length_some w.rest.todo w.rest.left r.bin_length r.length h.1.1.1.1.0)

some-on : (d : Due) (p : List ℕ) (w m : Walk) → block_at d p w ≡ Took m → Some m.due m
unfolding block_at take_generic take_site take_task take_cut take_radial take_data after_data Some size_at is_end
some-on due.Generic p w m e = subst (λ (x : Walk). Some x.due x) (settle-took _ _ _ m e) (λ i. omega arith)
some-on due.Site p w m e = subst (λ (x : Walk). Some x.due x) (settle-took _ _ _ m e) (λ i. omega arith)
some-on due.Task p w m e = subst (λ (x : Walk). Some x.due x) (settle-took _ _ _ m e) (λ i. omega arith)
some-on due.Cut p w m e = subst (λ (x : Walk). Some x.due x) (settle-took _ _ _ m e) (due-either Some _ due.Radial due.Cut (after_cut w (w.at + 256)) (λ i. omega arith) (λ i. omega arith))
some-on due.Radial p w m e = subst (λ (x : Walk). Some x.due x) (settle-took _ _ _ m e) (λ i. omega arith)
some-on due.Moment p w m e = moment-some _ w m e
some-on due.Data p w m e =
    let n = after_data w (w.at + w.rest.length) in
    subst (λ (x : Walk). Some x.due x) (took-inj n m e)
    (due-either Some _ due.Moment _ n (λ i. omega arith) (due-either Some _ due.Nothing due.Radial n (λ i. absurd (let z : ◌≡◌ {A = ℕ} 0 1 = cc in omega arith)) (λ i. omega arith)))
some-on due.Nothing p w m e = absurd (let z : ◌≡◌ {A = ℕ} 0 1 = cc in omega arith)

-- after a block that ends where the bytes end, no block is taken
pub stays_after : (f : List ℕ) (w m : Walk) → step_of f w ≡ Took m → m.at ≡ length f → Stays (step_of f m)
unfolding Stays Some
stays_after f w m e l = go (view f m)
  where
    go : View f m → Stays (step_of f m)
    go (here i h) = absurd (let s = some-on w.due _ w m (taken f w m e).block i in omega arith)
    go (short i h) = subst⁻¹ Stays (is-short true f m i h) tt
    go (over i h) = absurd (omega arith)
    go (done i h) = subst⁻¹ Stays (is-done true f m i h) tt

-- one block more, which ends where the bytes end: the reading stops after it
pub stops-next : (A C : List ℕ) (w m : Walk) → stop A ≡ w → step_of (A ++ C) w ≡ Took m → m.at ≡ length (A ++ C) → stop (A ++ C) ≡ m
stops-next A C w m s e l =
    through A C
    ∙ ap (last (fuel (A ++ C)) (A ++ C)) s
    ∙ last_step (A ++ C) w m e
    ∙ run-stays true (λ v. v) (λ v n r. r) (fuel (A ++ C)) (A ++ C) m (stays_after (A ++ C) w m e l)

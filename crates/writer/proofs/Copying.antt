-- The blocks that reading a file accepts, put one after the other, give the file's bytes again. Assumes nothing.
use Prim.Native.Nat.{ℕ, ◌≤◌}
use native.Mathlib.Omega.{arith}
use mathlib.Core.Bool.{true}
use mathlib.Core.Path.{◌≡◌, refl, ap, subst, ◌∙◌}
use mathlib.Core.List.{List}
use lib.ListN.{length, take}
use Rattle.le.specs.Le.{Bytes}
use Rattle.walk.specs.declared.due.Walk.{Walk}
use Rattle.reading.specs.declared.step.Step.TheVariants.{Took}
use Rattle.walk.specs.Due.{at_start}
use Rattle.reading.specs.Reading.{last, fuel, stop}
use Rattle.reading.specs.Step.{step_of}
use Rattle.reading.proofs.Run.{taken, run_holds}
use Rattle.writer.specs.Agree.{written, Agrees}
use Rattle.writer.specs.Put.{Outcome, put}
use Rattle.writer.specs.Trips.{block_in, FromFile, Copies, begun, next, CopyOf}
use Rattle.writer.proofs.Again.{same_bytes, same_length}
use Rattle.writer.proofs.Runs.{start}

module _ (f room : List ℕ) (bytes : Bytes f) where
  -- a copy up to a walk, and what it holds
  record Copied (w : Walk) (held : List ℕ) : Type 0 where
    copies : Copies f room w held
    agree : Agrees w held
    same : written w held ≡ take w.at f
    long : length held ≡ length room

  record CopiedTo (w : Walk) : Type 0 where
    held : List ℕ
    is : Copied w held

  -- one block more
  one_more : (w m : Walk) (held : List ℕ) → Copied w held → step_of f w ≡ Took m → m.at ≤ length room → Copied m (put (block_in w.due f w) w held).room
  one_more w m held c e h =
      let t = (taken f w m e).end in
      let l = c.long in
      let from : FromFile f w m held = record { bytes = bytes; reads = e; agree = c.agree; same = c.same; suffices = omega arith } in
      let s = same_bytes f w m held from in
      let o = s.taken in
      record {
        copies = subst (λ (x : Walk). Copies f room x (put (block_in w.due f w) w held).room) (ap (λ (x : Outcome). x.walk) o) (next c.copies (ap (λ (x : Outcome). x.answer) o));
        agree = s.agree;
        same = s.bytes;
        long = same_length f w m held from ∙ l;
      }

  -- and so on to the walk at which a run stops, which goes on and never back
  copy-on : (k : ℕ) (w : Walk) → (w.at ≤ (last k f w).at) × ((held : List ℕ) → Copied w held → (last k f w).at ≤ length room → CopiedTo (last k f w))
  copy-on =
      run_holds true (λ v. v) (λ v n r. r) f (λ w v. (w.at ≤ v.at) × ((held : List ℕ) → Copied w held → v.at ≤ length room → CopiedTo v))
      (λ w. (omega arith, λ held c h. record { held = held; is = c }))
      (λ w m v e r. let t = (taken f w m e).end in let o = r.0 in (omega arith, λ held c h. r.1 _ (one_more w m held c e (omega arith)) h))

  pub copy_of : (stop f).at ≤ length room → CopyOf f room
  copy_of h =
      let c = (copy-on (fuel f) at_start).1 room (record { copies = begun; agree = start room; same = refl; long = refl }) h in
      record { held = c.held; copies = c.is.copies; agree = c.is.agree; bytes = c.is.same }

-- Where the last kept radial lies: its cut is one of the task's, and it stands in the file behind their blocks. Assumes nothing.
use Prim.Native.Nat.{ℕ, suc, ◌+◌}
use native.Mathlib.Omega.{arith}
use mathlib.Core.List.{List, ◌++◌}
use mathlib.Core.Path.{◌≡◌, sym, ap, subst, ◌∙◌}
use lib.ListN.{length, length-append}
use Rattle.std.specs.Prelude.{Some, None}
use Rattle.le.specs.Le.{run, Bytes}
use Rattle.radial.proofs.Trips as radial-trip
use Rattle.radial.specs.Radial.{radial_bytes}
use Rattle.rules.proofs.Allowed.{cuts-allowed}
use Rattle.rules.proofs.Numbers.{most_cuts-most}
use Rattle.task.specs.declared.Task.{Task}
use Rattle.reading.specs.declared.Stretch.{Stretch}
use Rattle.volume.specs.Volume.{bytes_of_moment, bytes_of_radial, bytes_of_volume}
use Rattle.volume.specs.Accepted.{volume_of}
use Rattle.volume.specs.InPlace.{task_block}
use Rattle.volume.specs.Meaning.{volume_stretches}
use Rattle.volume.proofs.Placed.{front}
use Rattle.mend.specs.Kept.{kept, last_or, last_kept}
use Rattle.mend.specs.Mend.{cut_number, Lies}
use Rattle.mend.proofs.Behind.{volume-long, begun-cuts}
use Rattle.mend.proofs.Keeping.{last_end}
use Rattle.mend.proofs.Seen.{Seen, seen, some, none}
use Rattle.mend.proofs.View.{stretch_behind, View}

-- ---- the last kept radial is the one that the structure has

pub last-seen : (f : List ℕ) (v : View f) → last_kept f ≡ Some (stretch_behind v.begun v.final)
last-seen f v = ap (last_or None) v.kept ∙ last_end None (volume_stretches (volume_of v.begun)) (stretch_behind v.begun v.final)

pub record Viewed (f : List ℕ) (s : Stretch) : Type 0 where
  pub view : View f
  pub is : stretch_behind view.begun view.final ≡ s

pub viewed : (f : List ℕ) → Bytes f → (s : Stretch) → last_kept f ≡ Some s → Viewed f s
unfolding last_or
viewed f bs s e = by (seen f bs)
  where
    by : Seen f → Viewed f s
    by (some v t) = let h = last-seen f v in record { view = v; is = cc }
    by (none k t) = let h = ap (last_or None) k in absurd (let z : ◌≡◌ {A = ℕ} 0 1 = cc in omega arith)

-- ---- where it lies

module _ (f : List ℕ) (v : View f) where
  -- the file's task is the structure's
  pub task-is : task_block f ≡ v.begun.task
  task-is = (front f (volume_of v.begun) (bytes_of_radial v.final ++ v.rest) v.last.begun.headed v.bytes).task

  -- as many cuts as have radials, and the dropped ones
  pub cuts_are : suc (length v.begun.closed) + length v.begun.later ≡ cut_number f
  cuts_are =
      let cuts = begun-cuts v.begun v.last.begun in
      let t = ap (λ (t : Task). t.cut_number) task-is in
      omega arith

  pub view-lies : Lies f (stretch_behind v.begun v.final)
  view-lies =
      let b = v.begun in
      let r = v.final in
      let cuts = cuts_are in
      let t = ap (λ (t : Task). t.cut_number) task-is in
      let few = ((cuts-allowed b.task.scan_type b.task.cut_number).0 v.last.begun.headed.task.1.1.1.1.0).1 in
      let most = most_cuts-most b.task.scan_type in
      let number = v.last.begun.headed.number in
      let long = volume-long (volume_of b) v.last.begun.headed in
      let head = radial-trip.length-is r.header v.last.radial.fits in
      let body = length-append (radial_bytes r.header) (run bytes_of_moment r.moments) in
      let all = sym (ap length v.bytes) ∙ length-append (bytes_of_volume (volume_of b)) (bytes_of_radial r ++ v.rest) in
      let rest = length-append (bytes_of_radial r) v.rest in
      record { first = omega arith; last = omega arith; few = omega arith; start = omega arith; header = omega arith; end = omega arith }

pub lies : (f : List ℕ) → Bytes f → (s : Stretch) → last_kept f ≡ Some s → Lies f s
lies f bs s e = let v = viewed f bs s e in subst (Lies f) v.is (view-lies f v.view)

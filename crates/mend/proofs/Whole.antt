-- The mended volume is the closed volume of the structure, so it is complete, and its radials answer as the file's kept ones. Assumes nothing.
use Prim.Native.Nat.{ℕ, ◌+◌, ◌*◌, ◌-◌, ◌≤◌}
use native.Mathlib.Omega.{arith}
use mathlib.Core.Bool.{cond}
use mathlib.Core.List.{List, [], ◌∷◌, ◌++◌}
use mathlib.Core.Path.{◌≡◌, sym, ap, subst, ◌∙◌}
use lib.Dec.{eqb}
use lib.ListN.{length}
use Rattle.rules.specs.States.{closing}
use Rattle.task.specs.declared.Task.{Task}
use Rattle.reading.specs.declared.Stretch.{Stretch}
use Rattle.reading.specs.Reading.{stretches, told}
use Rattle.volume.specs.Volume.{IsVolume, bytes_of_volume}
use Rattle.volume.specs.Meaning.{volume_stretches}
use Rattle.hope.proofs.Meaning.{means}
use Rattle.ask.specs.Answers.{radial_of_file}
use Rattle.mend.specs.Answers.{Alike}
use Rattle.mend.specs.Closed.{gap_of, state_of}
use Rattle.mend.specs.Kept.{kept}
use Rattle.mend.specs.Mend.{last_state, mended}
use Rattle.mend.proofs.Bytes.{closed-bytes}
use Rattle.mend.proofs.Closed.{is-volume}
use Rattle.mend.proofs.Lying.{task-is, cuts_are}
use Rattle.mend.proofs.Nth.{Pairs, pairs-long}
use Rattle.mend.proofs.Paired.{Moved, paired, answers}
use Rattle.mend.proofs.View.{stretch_behind, View, cuts_of, closed_volume}

module _ (f : List ℕ) (v : View f) where
  abbrev last : Stretch
  last = stretch_behind v.begun v.final

  is : IsVolume (closed_volume v.begun v.final)
  is = is-volume v.begun v.final v.last

  own : stretches (bytes_of_volume (closed_volume v.begun v.final)) ≡ volume_stretches (closed_volume v.begun v.final)
  own = (means.reads (closed_volume v.begun v.final) is).radials

  pub complete : told (mended f last) ≡ 0 ∷ []
  complete = ap told (sym (closed-bytes f v)) ∙ (means.reads (closed_volume v.begun v.final) is).complete

  -- the dropped cut blocks, by the number of dropped cuts
  gap_is : 256 * length v.begun.later ≡ gap_of f last
  gap_is = let n = cuts_are f v in omega arith

  -- the kept radials of the file, and those of the volume, side by side
  pub pairs : Pairs (Moved f (mended f last) (gap_of f last)) (kept f) (stretches (mended f last))
  pairs =
      let g = bytes_of_volume (closed_volume v.begun v.final) in
      subst (λ (h : List ℕ). Pairs (Moved f h (gap_of f last)) (kept f) (stretches h)) (closed-bytes f v)
      (subst (λ (n : ℕ). Pairs (Moved f g n) (kept f) (stretches g)) gap_is
      (subst (Pairs (Moved f g (256 * length v.begun.later)) (kept f)) (sym own) (paired f v is)))

  pub radials : length (stretches (mended f last)) ≡ length (kept f)
  radials = pairs-long pairs

  pub answer : (later : List Stretch) → stretches f ≡ kept f ++ later → (n : ℕ) → 1 ≤ n → n ≤ length (kept f) → Alike f (mended f last) n (gap_of f last) (state_of f last n)
  answer later first n one most =
      let k = cuts_of v.begun in
      let g = bytes_of_volume (closed_volume v.begun v.final) in
      let state : closing v.begun.task.scan_type k k ≡ last_state f last = ap (λ (t : Task). closing t.scan_type k k) (sym (task-is f v)) in
      subst (λ (h : List ℕ). Alike f h n (gap_of f last) (state_of f last n)) (closed-bytes f v)
      (subst (λ (x : ℕ). Alike f g n x (state_of f last n)) gap_is
      (subst (λ (x : ℕ). Alike f g n (256 * length v.begun.later) (cond (eqb n (length (kept f))) x (radial_of_file f n).header.state)) state (answers f v is own later first n one most)))

-- A complete file, whatever follows it, is handed back as it is: no cut is dropped, and its last radial closes it already. Assumes nothing.
use Prim.Native.Nat.{ℕ, ◌-◌}
use native.Mathlib.Omega.{arith}
use borrow.Author.Tests.{eq-eqb}
use mathlib.Core.List.{List, [], ◌∷◌, ◌++◌, append-nil}
use mathlib.Core.Path.{◌≡◌, sym, ap, ap₂, subst, ◌∙◌}
use lib.ListN.{length, length-append}
use Rattle.le.specs.Le.{le, Bytes}
use Rattle.le.proofs.Here.{split}
use Rattle.le.proofs.Laws.{le-own, part_in}
use Rattle.radial.specs.Radial.{radial_at}
use Rattle.reading.specs.declared.Stretch.{Stretch}
use Rattle.reading.specs.Reading.{stretches, told}
use Rattle.volume.specs.Volume.{Volume, IsVolume, bytes_of_radial, bytes_of_volume}
use Rattle.volume.specs.Accepted.{volume, volume_of, complete, follow}
use Rattle.volume.specs.Meaning.{Holds, volume_stretches}
use Rattle.hope.specs.Meaning.{plainly, Hopeful}
use Rattle.hope.proofs.Made.{none-bytes}
use Rattle.hope.proofs.Meaning.{means}
use Rattle.mend.specs.declared.report.Field.TheVariants.{Same}
use Rattle.mend.specs.Closed.{HandedBack}
use Rattle.mend.specs.Mend.{behind_cut, cut_number, field_of, last_state, mended}
use Rattle.mend.proofs.Bytes.{unbroken}
use Rattle.mend.proofs.Fields.{state-in}
use Rattle.mend.proofs.Lying.{cuts_are, last-seen, view-lies}
use Rattle.mend.proofs.Pieces.{split-bytes}
use Rattle.mend.proofs.Reports.{state-written}
use Rattle.mend.proofs.Seen.{ClosedView, volume-view}
use Rattle.mend.proofs.View.{stretch_behind}

-- the radials of a volume are those of any file that begins with it
radials-of : (v : Volume) → IsVolume v → (C : List ℕ) → Bytes (bytes_of_volume v ++ C) → stretches (bytes_of_volume v ++ C) ≡ volume_stretches v
radials-of v is C bs = by C bs
  where
    hopeful : Hopeful (volume v)
    hopeful = record { is = is; hope = record { volume = v; is = is; more = []; bytes = none-bytes; begins = sym (append-nil (bytes_of_volume v)) } }

    by : (C : List ℕ) → Bytes (bytes_of_volume v ++ C) → stretches (bytes_of_volume v ++ C) ≡ volume_stretches v
    by [] bs = (means.tells (volume v) [] _ bs hopeful (plainly _ _ _ (complete v))).radials
    by (x ∷ xs) bs = (means.tells (volume v) (x ∷ xs) _ bs hopeful (plainly _ _ _ (follow v x xs))).radials

-- a field whose contents stay is not named
unnamed : (place written old new : ℕ) → old ≡ new → field_of place written old new ≡ Same
unfolding field_of
unnamed place written old new e = rw (eq-eqb old new e)

module _ (A C : List ℕ) (bs : Bytes (A ++ C)) (whole : told A ≡ 0 ∷ []) where
  own : Bytes A
  own = (split-bytes A C bs).0

  h : Holds A
  h = means.holds A own whole

  view : ClosedView (A ++ C) [] C
  view =
      let e : bytes_of_volume h.volume ++ C ≡ A ++ C = ap (λ (x : List ℕ). x ++ C) h.bytes in
      (volume-view (A ++ C) h.volume C h.is e (ap stretches (sym e) ∙ radials-of h.volume h.is C (subst Bytes (sym e) bs))).0

  abbrev f : List ℕ
  f = A ++ C

  abbrev s : Stretch
  s = stretch_behind view.view.begun view.view.final

  begins : A ++ C ≡ mended f s ++ C
  begins = unbroken f view.view view.cuts view.closes ∙ ap (λ (x : List ℕ). mended f s ++ x) view.behind

  long : length A ≡ length (mended f s)
  long = let l = ap length begins in let a = length-append A C in let b = length-append (mended f s) C in omega arith

  number : cut_number f ≡ s.cut
  number = let c = cuts_are f view.view in let l = ap length view.cuts in omega arith

  same : A ≡ mended f s
  same = (split A (mended f s) C C long begins).0

  end : s.end ≡ length A
  end =
      let v = view.view in
      let a = ap length v.bytes ∙ length-append A C in
      let b = length-append (bytes_of_volume (volume_of v.begun)) (bytes_of_radial v.final ++ v.rest) in
      let c = length-append (bytes_of_radial v.final) v.rest in
      let d = ap length view.behind in
      omega arith

  state : (radial_at f s.start).state ≡ last_state f s
  state =
      let l = view-lies f view.view in
      let e = end in
      let n = number in
      let z : s.start - (behind_cut (cut_number f) - behind_cut s.cut) ≡ s.start = omega arith in
      sym (state-in f s.start)
      ∙ sym (le-own 4 f s.start)
      ∙ ap (λ (x : List ℕ). le 4 x 0) (part_in 4 A C s.start (omega arith))
      ∙ le-own 4 A s.start
      ∙ ap₂ (le 4) same (sym z)
      ∙ state-written f s l

  pub handed-back : HandedBack A C
  handed-back =
      let n = number in
      record {
        last = s;
        found = last-seen f view.view;
        same = sym same;
        no_number = unnamed 336 336 (cut_number f) s.cut number;
        no-state = unnamed s.start _ (radial_at f s.start).state (last_state f s) state;
        no-cuts = omega arith;
        from = end;
        to = length-append A C;
      }

-- The mended volume is made of the file's leading whole radials: its records are the file's, but for the two fields. Assumes nothing.
use Prim.Native.Nat.{ℕ, ◌+◌, ◌-◌, ◌≤◌}
use native.Mathlib.Omega.{arith}
use mathlib.Core.List.{List, [], ◌++◌, append_assoc, append-nil}
use mathlib.Core.Path.{◌≡◌, sym, ap, ap₂, subst, ◌∙◌}
use lib.ListN.{length, drop, length-append}
use lib.Seq.{drop-drop}
use Rattle.std.specs.Prelude.{Option, Some}
use Rattle.le.specs.Le.{bytes, part, Bytes}
use Rattle.le.proofs.Laws.{length-bytes, part_in, part-past}
use Rattle.cut.specs.Cut.{cut_at, cut_of}
use Rattle.generic.specs.Generic.{generic_at, generic_of}
use Rattle.radial.specs.Radial.{radial_at}
use Rattle.site.specs.Site.{site_at, site_of}
use Rattle.walk.specs.Due.{cut_place}
use Rattle.reading.specs.declared.Stretch.{Stretch}
use Rattle.reading.specs.Reading.{bytes_of, nth, stretches}
use Rattle.volume.specs.InPlace.{task_block}
use Rattle.volume.proofs.Placed as placed
use Rattle.hope.proofs.Made.{append-bytes, number-bytes}
use Rattle.ask.proofs.Growing.{nth-kept}
use Rattle.ask.specs.Answers.{radial_told}
use Rattle.mend.specs.Answers.{with_state}
use Rattle.mend.specs.Kept.{kept}
use Rattle.mend.specs.Made.{with_cuts, SameRadial, MadeOf}
use Rattle.mend.specs.Mend.{behind_cut, last_state, mended}
use Rattle.mend.proofs.Bytes.{closed-bytes, view-pieces}
use Rattle.mend.proofs.Closed.{is-volume}
use Rattle.mend.proofs.Lying.{task-is, cuts_are, view-lies}
use Rattle.mend.proofs.Nth.{Nth, pairs-nth}
use Rattle.mend.proofs.Own.{alike}
use Rattle.mend.proofs.Pieces.{Pieces, mended-is, split-bytes}
use Rattle.mend.proofs.Reports.{cuts-written}
use Rattle.mend.proofs.View.{stretch_behind, View, closed_volume}
use Rattle.mend.proofs.Whole.{complete, pairs, radials}

-- ---- bytes

pub mended-bytes : (f : List ℕ) (s : Stretch) → Pieces f s → Bytes f → Bytes (mended f s)
mended-bytes f s p bs =
    let a = split-bytes p.a _ (subst Bytes p.file bs) in
    let n = split-bytes p.n _ a.1 in
    let b = split-bytes p.b _ n.1 in
    let c = split-bytes p.c _ b.1 in
    let r = split-bytes p.r _ c.1 in
    let o = split-bytes p.o _ r.1 in
    let d = split-bytes p.d _ o.1 in
    subst Bytes (sym (mended-is f s p))
    (append-bytes _ _ a.0 (append-bytes _ _ (number-bytes 4 s.cut) (append-bytes _ _ b.0 (append-bytes _ _ r.0 (append-bytes _ _ (number-bytes 4 (last_state f s)) d.0)))))

-- ---- the records before the radials

module _ (f : List ℕ) (s : Stretch) (p : Pieces f s) where
  -- up to the cut number the two are the same
  front_same : (n at : ℕ) → at + n ≤ 336 → part n (mended f s) at ≡ part n f at
  front_same n at h =
      ap (λ (x : List ℕ). part n x at) (mended-is f s p)
      ∙ part_in n p.a _ at (omega arith)
      ∙ sym (ap (λ (x : List ℕ). part n x at) p.file ∙ part_in n p.a _ at (omega arith))

  -- and from there to the end of the last kept cut's block
  cuts-same : (n at : ℕ) → 340 ≤ at → at + n ≤ behind_cut s.cut → part n (mended f s) at ≡ part n f at
  cuts-same n at h k =
      let new = length-bytes 4 s.cut in
      in-cuts p.a (bytes 4 s.cut) _ _ (mended-is f s p) (omega arith)
      ∙ sym (in-cuts p.a p.n _ _ p.file (omega arith))
    where
      in-cuts : (a x y g : List ℕ) → g ≡ a ++ (x ++ (p.b ++ y)) → length a + length x ≡ 340 → part n g at ≡ part n p.b (at - 340)
      in-cuts a x y g e l =
          let q = length-append a x in
          let z : at ≡ length (a ++ x) + (at - 340) = omega arith in
          ap (λ (i : List ℕ). part n i at) (e ∙ sym (append_assoc a x (p.b ++ y)))
          ∙ ap (part n ((a ++ x) ++ (p.b ++ y))) z
          ∙ part-past n (a ++ x) (p.b ++ y) (at - 340)
          ∙ part_in n p.b y (at - 340) (omega arith)

-- ---- all

module _ (f : List ℕ) (bs : Bytes f) (v : View f) (later : List Stretch) (first : stretches f ≡ kept f ++ later) where
  abbrev s : Stretch
  s = stretch_behind v.begun v.final

  abbrev g : List ℕ
  g = mended f (stretch_behind v.begun v.final)

  task-made : task_block g ≡ with_cuts v.begun.task s.cut
  task-made = (placed.front g (closed_volume v.begun v.final) [] (is-volume v.begun v.final v.last).headed (append-nil _ ∙ closed-bytes f v)).task

  radial-made : (n : ℕ) → 1 ≤ n → n ≤ length (stretches g) → SameRadial f g n
  unfolding radial_told
  radial-made n one most =
      let c = radials f v in
      let x : Nth _ _ _ n = pairs-nth (pairs f v) n one (omega arith) in
      let given : nth (stretches f) n ≡ Some x.s = ap (λ (l : List Stretch). nth l n) first ∙ nth-kept (kept f) later n x.s x.here in
      let state = (radial_at g x.u.start).state in
      let h = (alike f g n _ x.s x.u given x.there x.pair.start x.pair.long x.pair.behind).header in
      record {
        old = x.s;
        new = x.u;
        given = given;
        made = x.there;
        header =
            ap (λ (w : Option Stretch). (radial_told g w).header) (sym x.there)
            ∙ h
            ∙ ap (λ (w : Option Stretch). with_state (radial_told f w).header state) given;
        moments = sym (drop-drop 60 4 (bytes_of g x.u)) ∙ ap (drop 60) x.pair.behind ∙ drop-drop 60 4 (bytes_of f x.s);
      }

  pub made : MadeOf f g
  unfolding generic_at site_at cut_at
  made =
      let p = view-pieces f v in
      let n = cuts-written f s (view-lies f v) in
      let c = cuts_are f v in
      record {
        bytes = mended-bytes f s p bs;
        complete = complete f v;
        generic = ap generic_of (front_same f s p 32 0 (omega arith));
        site = ap site_of (front_same f s p 128 32 (omega arith));
        task = task-made ∙ ap₂ with_cuts (sym (task-is f v)) (sym (cuts-written f s (view-lies f v)));
        fewer = omega arith;
        cuts = λ k one most. ap cut_of (cuts-same f s p 256 (cut_place k) (omega arith) (omega arith));
        radials = radial-made;
      }

-- The mended volume's bytes are those of the closed volume of the structure: both are made of the file's pieces. Assumes nothing.
use Prim.Native.Nat.{ℕ, suc}
use native.Mathlib.Omega.{arith}
use mathlib.Core.List.{List, [], ◌∷◌, ◌++◌, append_assoc, append-nil}
use mathlib.Core.Path.{◌≡◌, sym, ap, ap₂, ◌∙◌}
use lib.ListN.{length, length-append}
use Rattle.le.specs.Le.{bytes, run}
use Rattle.le.proofs.Laws.{length-bytes, run-append}
use Rattle.rules.specs.States.{closing}
use Rattle.cut.specs.declared.Cut.{Cut}
use Rattle.cut.specs.Cut.{cut_bytes}
use Rattle.generic.specs.Generic.{generic_bytes}
use Rattle.generic.proofs.Trips as generic-trip
use Rattle.site.specs.Site.{site_bytes}
use Rattle.site.proofs.Trips as site-trip
use Rattle.task.specs.declared.Task.{Task}
use Rattle.volume.specs.Volume.{VolumeRadial, Closes, bytes_of_radial, bytes_of_volume}
use Rattle.volume.specs.Accepted.{Begun, volume_of}
use Rattle.volume.specs.InPlace.{task_block}
use Rattle.mend.specs.Mend.{mended}
use Rattle.mend.proofs.Behind.{cuts-long, volume-long, begun-cuts, whole-bytes}
use Rattle.mend.proofs.Fields.{task_front, task_back, task-parts, task-front, task-back, radial_back, radial-parts}
use Rattle.mend.proofs.Lying.{task-is, cuts_are}
use Rattle.mend.proofs.Pieces.{Pieces, mended-is}
use Rattle.mend.proofs.Splits.{cuts-apart}
use Rattle.mend.proofs.View.{stretch_behind, View, cuts_of, closed_begun, closed_radial, closed_volume}

-- ---- a beginning and the radial behind it, in pieces

abbrev front : Begun → List ℕ
front b = generic_bytes b.generic ++ site_bytes b.site ++ task_front b.task

abbrev kept_cuts : Begun → List ℕ
kept_cuts b = task_back b.task ++ run cut_bytes (b.early ++ (b.cut ∷ []))

abbrev kept_radials : Begun → List ℕ
kept_radials b = run (run bytes_of_radial) (b.closed ++ (b.now ∷ []))

begun-pieces : (b : Begun) (r : VolumeRadial) (rest : List ℕ) → bytes_of_volume (volume_of b) ++ (bytes_of_radial r ++ rest)
    ≡ front b ++ (bytes 4 b.task.cut_number ++ (kept_cuts b ++ (run cut_bytes b.later ++ (kept_radials b ++ (bytes 4 r.header.state ++ (radial_back r ++ rest))))))
begun-pieces b r rest =
    let gs = generic_bytes b.generic ++ site_bytes b.site in
    let cuts = ap (run cut_bytes) (sym (append_assoc b.early (b.cut ∷ []) b.later)) ∙ run-append cut_bytes (b.early ++ (b.cut ∷ [])) b.later in
    ap₂ (λ (t c : List ℕ). (((gs ++ t) ++ c) ++ kept_radials b) ++ (bytes_of_radial r ++ rest)) (task-parts b.task) cuts
    ∙ ap (λ (x : List ℕ). (((gs ++ (task_front b.task ++ (bytes 4 b.task.cut_number ++ task_back b.task))) ++ (run cut_bytes (b.early ++ (b.cut ∷ [])) ++ run cut_bytes b.later)) ++ kept_radials b) ++ (x ++ rest)) (radial-parts r)
    ∙ regroup gs (task_front b.task) (bytes 4 b.task.cut_number) (task_back b.task) (run cut_bytes (b.early ++ (b.cut ∷ []))) (run cut_bytes b.later) (kept_radials b) (bytes 4 r.header.state) (radial_back r) rest
  where
    regroup : (g t n u c e l o h x : List ℕ) → (((g ++ (t ++ (n ++ u))) ++ (c ++ e)) ++ l) ++ ((o ++ h) ++ x) ≡ (g ++ t) ++ (n ++ ((u ++ c) ++ (e ++ (l ++ (o ++ (h ++ x))))))
    regroup g t n u c e l o h x = simp append_assoc

-- ---- the pieces of a file, by its structure

module _ (f : List ℕ) (v : View f) where
  pub view-pieces : Pieces f (stretch_behind v.begun v.final)
  view-pieces =
      let b = v.begun in
      let h = v.last.begun.headed in
      let generic = generic-trip.length-is b.generic h.generic.0 in
      let site = site-trip.length-is b.site h.site.0 in
      let task = task-front b.task h.task.0 in
      let back = task-back b.task h.task.0 in
      let cuts = begun-cuts b v.last.begun in
      let long = volume-long (volume_of b) h in
      let number = h.number in
      let t = ap (λ (t : Task). t.cut_number) (task-is f v) in
      let keeps = length-append b.early (b.cut ∷ []) in
      let ok = cuts-apart b.early b.cut b.later h.cuts in
      let kept = cuts-long (b.early ++ (b.cut ∷ [])) ok.0 in
      let dropped = cuts-long b.later ok.1 in
      let state = length-bytes 4 v.final.header.state in
      let radial = ap length (radial-parts v.final) ∙ length-append (bytes 4 v.final.header.state) (radial_back v.final) in
      record {
        a = front b;
        n = bytes 4 b.task.cut_number;
        b = kept_cuts b;
        c = run cut_bytes b.later;
        r = kept_radials b;
        o = bytes 4 v.final.header.state;
        d = radial_back v.final;
        rest = v.rest;
        file = sym v.bytes ∙ begun-pieces b v.final v.rest;
        to_number = length-append (generic_bytes b.generic ++ site_bytes b.site) (task_front b.task) ∙ (let x = length-append (generic_bytes b.generic) (site_bytes b.site) in omega arith);
        number = length-bytes 4 b.task.cut_number;
        to-dropped = let x = length-append (task_back b.task) (run cut_bytes (b.early ++ (b.cut ∷ []))) in omega arith;
        to-radials = omega arith;
        to-state = omega arith;
        state = state;
        to_end = omega arith;
      }

  -- ---- the closed volume is made of them

  pub closed-bytes : bytes_of_volume (closed_volume v.begun v.final) ≡ mended f (stretch_behind v.begun v.final)
  unfolding view-pieces run
  closed-bytes =
      let b = v.begun in
      let r = v.final in
      let k = cuts_of b in
      let state = ap (λ (t : Task). closing t.scan_type k k) (sym (task-is f v)) in
      sym (append-nil (bytes_of_volume (closed_volume b r)))
      ∙ whole-bytes (closed_begun b) (closed_radial b r) []
      ∙ begun-pieces (closed_begun b) (closed_radial b r) []
      ∙ ap₂ (λ (x : ℕ) (l : List ℕ). front b ++ (bytes 4 k ++ (kept_cuts b ++ (kept_radials b ++ (bytes 4 x ++ l))))) state (append-nil (radial_back r))
      ∙ sym (mended-is f (stretch_behind b r) view-pieces)

  -- where no cut is dropped and the last radial closes the volume, the file begins with what it becomes
  pub unbroken : v.begun.later ≡ [] → Closes v.begun.task (suc (length v.begun.closed)) v.final → f ≡ mended f (stretch_behind v.begun v.final) ++ v.rest
  unfolding view-pieces run
  unbroken e closes =
      let b = v.begun in
      let k = cuts_of b in
      let number : b.task.cut_number ≡ k = let c = cuts_are f v in let l = ap length e in let t = ap (λ (t : Task). t.cut_number) (task-is f v) in omega arith in
      let state : v.final.header.state ≡ closing (task_block f).scan_type k k = closes ∙ ap₂ (λ (x n : ℕ). closing x n k) (ap (λ (t : Task). t.scan_type) (sym (task-is f v))) number in
      view-pieces.file
      ∙ ap₂ (λ (n x : ℕ). front b ++ (bytes 4 n ++ (kept_cuts b ++ (run cut_bytes b.later ++ (kept_radials b ++ (bytes 4 x ++ (radial_back v.final ++ v.rest))))))) number state
      ∙ ap (λ (l : List Cut). front b ++ (bytes 4 k ++ (kept_cuts b ++ (run cut_bytes l ++ (kept_radials b ++ (bytes 4 (closing (task_block f).scan_type k k) ++ (radial_back v.final ++ v.rest))))))) e
      ∙ regroup (front b) (bytes 4 k) (kept_cuts b) (kept_radials b) (bytes 4 (closing (task_block f).scan_type k k)) (radial_back v.final) v.rest
      ∙ ap (λ (l : List ℕ). l ++ v.rest) (sym (mended-is f (stretch_behind b v.final) view-pieces))
    where
      regroup : (a n b r o d x : List ℕ) → a ++ (n ++ (b ++ (r ++ (o ++ (d ++ x))))) ≡ (a ++ (n ++ (b ++ (r ++ (o ++ d))))) ++ x
      regroup a n b r o d x = simp append_assoc

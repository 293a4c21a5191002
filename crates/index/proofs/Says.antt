-- What the index of a complete file says, by its own bytes alone: all of its numbers fit them, since the file is the bytes of a volume,
-- which sets the most cuts and radials. So one radial's place is read where `place_at` has it, in either form. Assumes nothing.
use Prim.Native.Nat.{ℕ, zero, suc, ◌+◌, ◌-◌, ◌*◌}
use native.Mathlib.Nat.{add-zero}
use native.Mathlib.Omega.{arith}
use mathlib.Core.Bool.{true, cond, ◌&&◌}
use mathlib.Core.List.{List, [], ◌∷◌, append-nil, map}
use mathlib.Core.Path.{◌≡◌, refl, sym, ap, subst, ◌∙◌}
use borrow.Author.Tests.{le-leb}
use lib.Dec.{leb, leb-suc-zero, leb-suc-suc}
use lib.ListN.{length}
use Rattle.std.specs.Prelude.{Some, None}
use Rattle.le.specs.Le.{Bytes, le, items}
use Rattle.le.proofs.Laws.{le-part}
use Rattle.task.specs.declared.Task.{Task}
use Rattle.task.specs.Task.{task_at, task_of}
use Rattle.reading.specs.declared.Stretch.{Stretch}
use Rattle.reading.specs.Reading.{told, stop, stretches, nth}
use Rattle.volume.specs.InPlace.{task_block}
use Rattle.volume.specs.Meaning.{volume_stretches}
use Rattle.volume.specs.Volume.{Volume, IsVolume, bytes_of_volume}
use Rattle.volume.proofs.Placed.{front}
use Rattle.volume.proofs.Tells.{same_number}
use Rattle.hope.proofs.Meaning.{means}
use Rattle.index.specs.Answer.{right_for}
use Rattle.index.specs.Forms.{Contents, Fit, radials_at, places_at, said_by, place_said, start_of_found, contents_of}
use Rattle.index.specs.Index.{index_of}
use Rattle.index.proofs.Contents.{fit}
use Rattle.index.proofs.Forms.{says_back}
use Rattle.index.proofs.Same.{right-only}
use Rattle.index.proofs.Walked.{cuts-read}

-- ---- a complete file and its volume

pub record Of (v : Volume) (f : List ℕ) : Type 0 where
  pub ok : IsVolume v
  pub cuts : (stop f).plan.cuts ≡ (task_block f).cut_number
  pub layers : (task_block f).cut_number ≡ length v.layers
  pub radials : stretches f ≡ volume_stretches v

cuts-in : (f : List ℕ) → told f ≡ 0 ∷ [] → (stop f).plan.cuts ≡ (task_block f).cut_number
unfolding task_at task_of
cuts-in f e = cuts-read f e ∙ sym (le-part 4 256 f 160 176 (omega arith))

pub of-volume : (v : Volume) → IsVolume v → Of v (bytes_of_volume v)
of-volume v ok =
    let read = means.reads v ok in
    let task = (front (bytes_of_volume v) v [] ok.headed (append-nil (bytes_of_volume v))).task in
    let number = ap (λ (t : Task). t.cut_number) task in
    let same = same_number v.task 1 0 v.cuts v.layers ok.layers in
    let headed = ok.headed.number in
    record { ok = ok; cuts = cuts-in (bytes_of_volume v) read.complete; layers = omega arith; radials = read.radials }

pub of-file : (f : List ℕ) → Bytes f → told f ≡ 0 ∷ [] → (v : Volume) × Of v f
of-file f bs e = let h = means.holds f bs e in (h.volume, subst (Of h.volume) h.bytes (of-volume h.volume h.is))

-- ---- its index

module _ (f : List ℕ) {v : Volume} (o : Of v f) where
  pub fits : Fit (task_block f).cut_number (stretches f)
  fits = rw (o.layers, o.radials) (fit v o.ok)

  pub says : said_by (index_of f) ≡ contents_of f
  says = says_back (stop f).plan.cuts (stretches f) (rw o.cuts fits)

-- ---- one radial's place

at_place : (m : ℕ) (ss : List Stretch) (x : List ℕ) (at n : ℕ) → items (le 8) 8 m x at ≡ map (λ (s : Stretch). s.start) ss
    → cond (leb 1 n && leb n m) (Some (le 8 x (at + 8 * (n - 1)))) None ≡ start_of_found (nth ss n)
unfolding items nth
at_place zero [] x at zero e = refl
at_place zero [] x at (suc n) e = rw (leb-suc-zero n, le-leb 1 (suc n) (omega arith))
at_place zero (s ∷ ss) x at n e = absurd (let z : ◌≡◌ {A = ℕ} 0 1 = cc in omega arith)
at_place (suc m) [] x at n e = absurd (let z : ◌≡◌ {A = ℕ} 0 1 = cc in omega arith)
at_place (suc m) (s ∷ ss) x at zero e = refl
at_place (suc m) (s ∷ ss) x at (suc zero) e =
    let first : le 8 x at ≡ s.start = cc in
    rw (le-leb 1 (suc m) (omega arith), add-zero at) (ap Some first)
at_place (suc m) (s ∷ ss) x at (suc (suc n)) e =
    let rest : items (le 8) 8 m x (at + 8) ≡ map (λ (s : Stretch). s.start) ss = cc in
    let next : at + 8 * (suc (suc n) - 1) ≡ at + 8 + 8 * (suc n - 1) = omega arith in
    rw (leb-suc-suc (suc n) m, le-leb 1 (suc (suc n)) (omega arith), next) (rw (le-leb 1 (suc n) (omega arith)) at (at_place m ss x (at + 8) (suc n) rest))

-- an index that is right for a file leads to each whole radial, by its number, and to no other place
pub leads : (f x : List ℕ) → Bytes f → right_for f x ≡ true → (n : ℕ) → place_said x n ≡ start_of_found (nth (stretches f) n)
unfolding said_by place_said
leads f x bs r n =
    let e = right-only f x r in
    let o = (of-file f bs e.0).1 in
    let c : said_by x ≡ contents_of f = ap said_by (sym e.1) ∙ says f o in
    at_place (le 4 x (radials_at x)) (stretches f) x (places_at x) n (ap (λ (c : Contents). c.places) c)

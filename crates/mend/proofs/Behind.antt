-- A radial behind a volume's beginning: where it lies and what bytes it has, how long the beginning is, and that it is kept where another
-- of its cut is before it. Assumes nothing.
use Prim.Native.Nat.{ℕ, ◌+◌, ◌-◌, ◌*◌, ◌≤◌}
use native.Mathlib.Omega.{arith}
use mathlib.Core.List.{List, [], ◌∷◌, ◌++◌, append_assoc}
use mathlib.Core.Path.{◌≡◌, refl, sym, ap, ap₂, ◌∙◌}
use lib.ListN.{length, length-append}
use Rattle.le.specs.Le.{run}
use Rattle.le.proofs.Laws.{run_end}
use Rattle.cut.specs.declared.Cut.{Cut}
use Rattle.cut.specs.Cut.{cut_bytes}
use Rattle.cut.proofs.Trips as cut-trip
use Rattle.generic.specs.Generic.{generic_bytes}
use Rattle.generic.proofs.Trips as generic-trip
use Rattle.site.specs.Site.{site_bytes}
use Rattle.site.proofs.Trips as site-trip
use Rattle.task.specs.Task.{task_bytes}
use Rattle.task.proofs.Trips as task-trip
use Rattle.reading.specs.declared.Stretch.{Stretch}
use Rattle.reading.specs.Reading.{bytes_of}
use Rattle.volume.specs.Volume.{VolumeRadial, Volume, Headed, CutsOk, bytes_of_radial, bytes_of_volume}
use Rattle.volume.specs.Accepted.{Begun, BegunOk, volume_of}
use Rattle.volume.specs.Meaning.{layer_stretches, layers_stretches, end_of, first_place, volume_stretches}
use Rattle.volume.proofs.Layers.{ends_at, stretches-end}
use Rattle.volume.proofs.Tells.{same_number}
use Rattle.mend.specs.Kept.{kept_after}
use Rattle.mend.proofs.Keeping.{last_cut, cut-join, kept-with}
use Rattle.mend.proofs.Pieces.{mid}
use Rattle.mend.proofs.View.{stretch_at, stretch_behind, cuts_of, whole}

-- ---- how long a volume is, and where its last layer ends

end_is : (at : ℕ) (l : List VolumeRadial) → end_of at l ≡ at + length (run bytes_of_radial l)
unfolding run
end_is at [] = omega arith
end_is at (b ∷ bs) = let h = end_is (at + length (bytes_of_radial b)) bs in let k = length-append (bytes_of_radial b) (run bytes_of_radial bs) in omega arith

ends_is : (at : ℕ) (ls : List (List VolumeRadial)) → ends_at at ls ≡ at + length (run (run bytes_of_radial) ls)
unfolding run
ends_is at [] = omega arith
ends_is at (l ∷ ls) =
    let h = ends_is (end_of at l) ls in
    let g = end_is at l in
    let k = length-append (run bytes_of_radial l) (run (run bytes_of_radial) ls) in
    omega arith

pub cuts-long : (cs : List Cut) → CutsOk cs → length (run cut_bytes cs) ≡ 256 * length cs
unfolding run
cuts-long [] ok = refl
cuts-long (c ∷ cs) ok =
    let h = cuts-long cs ok.2 in
    let g = cut-trip.length-is c ok.0 in
    let k = length-append (cut_bytes c) (run cut_bytes cs) in
    omega arith

pub volume-long : (v : Volume) → Headed v → length (bytes_of_volume v) ≡ first_place v + length (run (run bytes_of_radial) v.layers)
volume-long v h =
    let a = generic-trip.length-is v.generic h.generic.0 in
    let b = site-trip.length-is v.site h.site.0 in
    let c = task-trip.length-is v.task h.task.0 in
    let d = cuts-long v.cuts h.cuts in
    simp length-append (omega arith)

ends-here : (v : Volume) → Headed v → ends_at (first_place v) v.layers ≡ length (bytes_of_volume v)
ends-here v h = ends_is (first_place v) v.layers ∙ sym (volume-long v h)

-- as many cuts as have radials, and those behind them
pub record BegunCuts (b : Begun) : Type 0 where
  pub early : length b.early ≡ length b.closed
  pub all : cuts_of b + length b.later ≡ b.task.cut_number

pub begun-cuts : (b : Begun) → BegunOk b → BegunCuts b
begun-cuts b ok =
    let early = same_number b.task 1 0 b.early b.closed ok.closed in
    let cuts = length-append b.early (b.cut ∷ b.later) in
    let number = ok.headed.number in
    record { early = early; all = omega arith }

-- ---- where one radial more lies

stretch-end : (k at : ℕ) (l : List VolumeRadial) (r : VolumeRadial) → layer_stretches k at (l ++ (r ∷ [])) ≡ layer_stretches k at l ++ (stretch_at k (end_of at l) r ∷ [])
stretch-end k at [] r = refl
stretch-end k at (b ∷ bs) r = ap (λ (x : List Stretch). stretch_at k at b ∷ x) (stretch-end k (at + length (bytes_of_radial b)) bs r)

ends-end : (at : ℕ) (ls : List (List VolumeRadial)) (l : List VolumeRadial) → end_of (ends_at at ls) l ≡ ends_at at (ls ++ (l ∷ []))
ends-end at [] l = refl
ends-end at (m ∷ ms) l = ends-end (end_of at m) ms l

stretches-more : (k at : ℕ) (ls : List (List VolumeRadial)) (l : List VolumeRadial) (r : VolumeRadial)
    → layers_stretches k at (ls ++ ((l ++ (r ∷ [])) ∷ [])) ≡ layers_stretches k at (ls ++ (l ∷ [])) ++ (stretch_at (k + length ls) (ends_at at (ls ++ (l ∷ []))) r ∷ [])
stretches-more k at ls l r =
    let j = k + length ls in
    let last = ends_at at ls in
    stretches-end k at ls (l ++ (r ∷ []))
    ∙ ap (λ (x : List Stretch). layers_stretches k at ls ++ x) (stretch-end j last l r)
    ∙ sym (append_assoc (layers_stretches k at ls) (layer_stretches j last l) (stretch_at j (end_of last l) r ∷ []))
    ∙ ap₂ (λ (x : List Stretch) (i : ℕ). x ++ (stretch_at j i r ∷ [])) (sym (stretches-end k at ls l)) (ends-end at ls l)

-- ---- behind a beginning

layer-cut : (b k at : ℕ) (l : List VolumeRadial) → 1 ≤ length l → last_cut b (layer_stretches k at l) ≡ k
unfolding last_cut
layer-cut b k at [] h = absurd (omega arith)
layer-cut b k at (x ∷ []) h = refl
layer-cut b k at (x ∷ (y ∷ ys)) h = layer-cut k k (at + length (bytes_of_radial x)) (y ∷ ys) (omega arith)

module _ (b : Begun) where
  -- the cut of its last radial, where its last layer has one
  pub begun-cut : 1 ≤ length b.now → last_cut 0 (volume_stretches (volume_of b)) ≡ cuts_of b
  begun-cut some =
      let at = first_place (volume_of b) in
      let closed = layers_stretches 1 at b.closed in
      ap (last_cut 0) (stretches-end 1 at b.closed b.now)
      ∙ cut-join 0 closed (layer_stretches (1 + length b.closed) (ends_at at b.closed) b.now)
      ∙ layer-cut (last_cut 0 closed) (1 + length b.closed) (ends_at at b.closed) b.now some
      ∙ omega arith

  module _ (r : VolumeRadial) where
    pub whole-stretches : Headed (volume_of b) → volume_stretches (whole b r) ≡ volume_stretches (volume_of b) ++ (stretch_behind b r ∷ [])
    whole-stretches h =
        let number : 1 + length b.closed ≡ cuts_of b = omega arith in
        stretches-more 1 (first_place (volume_of b)) b.closed b.now r
        ∙ ap₂ (λ (k at : ℕ). volume_stretches (volume_of b) ++ (stretch_at k at r ∷ [])) number (ends-here (volume_of b) h)

    pub whole-bytes : (rest : List ℕ) → bytes_of_volume (whole b r) ++ rest ≡ bytes_of_volume (volume_of b) ++ (bytes_of_radial r ++ rest)
    whole-bytes rest =
        let y = (generic_bytes b.generic ++ site_bytes b.site ++ task_bytes b.task) ++ run cut_bytes (b.early ++ (b.cut ∷ b.later)) in
        let c = run (run bytes_of_radial) b.closed in
        ap (λ (l : List ℕ). (y ++ l) ++ rest) (run_end (run bytes_of_radial) b.closed (b.now ++ (r ∷ [])) ∙ ap (λ (l : List ℕ). c ++ l) (run_end bytes_of_radial b.now r))
        ∙ regroup y c (run bytes_of_radial b.now) (bytes_of_radial r) rest
        ∙ ap (λ (l : List ℕ). (y ++ l) ++ (bytes_of_radial r ++ rest)) (sym (run_end (run bytes_of_radial) b.closed b.now))
      where
        regroup : (a b c d e : List ℕ) → (a ++ (b ++ (c ++ d))) ++ e ≡ (a ++ (b ++ c)) ++ (d ++ e)
        regroup a b c d e = simp append_assoc

    -- its own bytes in a file
    pub behind-bytes : (f rest : List ℕ) → bytes_of_volume (volume_of b) ++ (bytes_of_radial r ++ rest) ≡ f → bytes_of f (stretch_behind b r) ≡ bytes_of_radial r
    behind-bytes f rest e =
        let n = length (bytes_of_volume (volume_of b)) in
        ap (λ (l : List ℕ). bytes_of l (stretch_behind b r)) (sym e) ∙ mid (bytes_of_volume (volume_of b)) (bytes_of_radial r) rest n (n + length (bytes_of_radial r) - n) refl (omega arith)

    -- all are kept where another of its cut is before it
    pub whole-kept : Headed (volume_of b) → 1 ≤ length b.now → kept_after 0 (volume_stretches (whole b r)) ≡ volume_stretches (whole b r)
    whole-kept h some =
        ap (kept_after 0) (whole-stretches h)
        ∙ kept-with 0 (volume_stretches (volume_of b)) (stretch_behind b r) (sym (begun-cut some))
        ∙ sym (whole-stretches h)

    pub whole-cut : Headed (volume_of b) → last_cut 0 (volume_stretches (whole b r)) ≡ cuts_of b
    unfolding last_cut
    whole-cut h = ap (last_cut 0) (whole-stretches h) ∙ cut-join 0 (volume_stretches (volume_of b)) (stretch_behind b r ∷ [])

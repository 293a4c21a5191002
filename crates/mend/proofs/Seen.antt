-- Any file by its structure: it has a last radial that is kept, with another of its cut before it, or it has no two radials. Assumes
-- nothing.
use Prim.Native.Nat.{ℕ, suc, ◌+◌, ◌≤◌}
use native.Mathlib.Omega.{arith}
use mathlib.Core.List.{List, [], ◌∷◌, ◌++◌, append_assoc, append-nil}
use mathlib.Core.Path.{◌≡◌, refl, sym, ap, subst, subst⁻¹, ◌∙◌}
use lib.ListN.{length, length-append}
use borrow.Author.Tests.{ne_eqb}
use Rattle.le.specs.Le.{run, Bytes}
use Rattle.le.proofs.Laws.{run_end}
use Rattle.cut.specs.declared.Cut.{Cut}
use Rattle.cut.specs.Cut.{cut_bytes}
use Rattle.generic.specs.declared.Generic.{Generic}
use Rattle.generic.specs.Generic.{generic_bytes}
use Rattle.moment.specs.Moment.{moment_bytes}
use Rattle.site.specs.declared.Site.{Site}
use Rattle.site.specs.Site.{site_bytes}
use Rattle.task.specs.declared.Task.{Task}
use Rattle.task.specs.Task.{task_bytes}
use Rattle.reading.specs.declared.Stretch.{Stretch}
use Rattle.reading.specs.Reading.{stretches}
use Rattle.volume.specs.Volume.{VolumeRadial, Volume, IsVolume, Headed, Closes, LayerOk, LayersOk, bytes_of_radial, bytes_of_volume}
use Rattle.volume.specs.Accepted.{Begun, BegunOk, Accepted, AcceptedOk, nothing, generic, site, task, radials, radial, moment, volume, volume_of, bytes_of_accepted, radials_in, UnclosedOk}
use Rattle.volume.specs.InPlace.{of_cut}
use Rattle.volume.specs.Meaning.{layer_stretches, layers_stretches, end_of, first_place, volume_stretches, accepted_stretches}
use Rattle.volume.proofs.Grow.{moved, headed-as}
use Rattle.volume.proofs.Layers.{ends_at, stretches-end}
use Rattle.volume.proofs.Most.{volume-most}
use Rattle.volume.proofs.Placed.{apart-end}
use Rattle.volume.proofs.Sense.{sense}
use Rattle.volume.proofs.Tells.{same_number}
use Rattle.hope.specs.Meaning.{Parts}
use Rattle.hope.proofs.Meaning.{means}
use Rattle.mend.specs.Kept.{kept_after, kept}
use Rattle.mend.proofs.Behind.{whole-stretches, whole-bytes, whole-kept, whole-cut}
use Rattle.mend.proofs.Keeping.{last_cut, kept-without}
use Rattle.mend.proofs.Nth.{of-join}
use Rattle.mend.proofs.Splits.{Ended, with-last, ended, Before, unclosed-last, layer-last, layers-last}
use Rattle.mend.proofs.View.{cuts_of, whole, Last, View}

-- ---- closed layers end with a radial behind a beginning

is_last : (b : Begun) (r : VolumeRadial) → Headed (volume_of b) → LayersOk b.task 1 0 b.early b.closed → Before b.task b.cut (cuts_of b) (radials_in b.closed) 0 b.now r → 1 ≤ length b.now → Last b r
is_last b r h closed now two =
    record {
      begun = record { headed = h; closed = closed; now = now.0 };
      radial = moved b.task b.cut (cuts_of b) _ (0 + length b.now) _ (length b.now) r refl (omega arith) now.1;
      two = two;
    }

view_of : (b : Begun) (r : VolumeRadial) (f rest : List ℕ) → Last b r → bytes_of_volume (whole b r) ++ rest ≡ f → kept f ≡ volume_stretches (whole b r) → View f
view_of b r f rest l e k =
    record { begun = b; final = r; last = l; rest = rest; bytes = sym (whole-bytes b r rest) ∙ e; kept = k ∙ whole-stretches b r l.begun.headed }

-- one that closes its cut, with these cuts and bytes behind it
pub record ClosedView (f : List ℕ) (later : List Cut) (rest : List ℕ) : Type 0 where
  pub view : View f
  pub cuts : view.begun.later ≡ later
  pub behind : view.rest ≡ rest
  pub closes : Closes view.begun.task (suc (length view.begun.closed)) view.final

module _ (f : List ℕ) (g : Generic) (s : Site) (t : Task) (later : List Cut) (rest : List ℕ) where
  abbrev layered : List Cut → List (List VolumeRadial) → Volume
  layered cs ls = record { generic = g; site = s; task = t; cuts = cs; layers = ls }

  -- a file that begins with these closed layers, and where their radials lie; that these are what is kept may go by that they are kept among
  -- themselves, and by the cut of their last radial
  abbrev lie : List Cut → List (List VolumeRadial) → List Stretch
  lie cs ls = volume_stretches (layered cs ls)

  abbrev Shown : List Cut → List (List VolumeRadial) → Type 0
  Shown cs ls =
      Headed (layered cs ls) → bytes_of_volume (layered cs ls) ++ rest ≡ f → (kept_after 0 (lie cs ls) ≡ lie cs ls → last_cut 0 (lie cs ls) ≡ length ls → kept f ≡ lie cs ls)
      → ClosedView f later rest × (kept f ≡ lie cs ls)

  closed-view : (early : List Cut) (c : Cut) (closed : List (List VolumeRadial)) (l : List VolumeRadial) (r : VolumeRadial) → LayersOk t 1 0 (early ++ (c ∷ [])) (closed ++ ((l ++ (r ∷ [])) ∷ []))
      → Shown (early ++ (c ∷ later)) (closed ++ ((l ++ (r ∷ [])) ∷ []))
  unfolding view_of
  closed-view early c closed l r ok h e k =
      let b : Begun = record { generic = g; site = s; task = t; early = early; closed = closed; cut = c; now = l; later = later } in
      let x = layers-last t early closed c (l ++ (r ∷ [])) 1 0 ok in
      let y : 1 + length closed ≡ suc (length closed) = omega arith in
      let z : 0 + radials_in closed ≡ radials_in closed = omega arith in
      let layer : LayerOk t c (suc (length closed)) (radials_in closed) 0 (l ++ (r ∷ [])) = rw (y, z) at x.1 in
      let last = layer-last t c (suc (length closed)) l (radials_in closed) 0 r layer in
      let two = sense.two t c (suc (length closed)) (radials_in closed) (l ++ (r ∷ [])) layer in
      let n = length-append l (r ∷ []) in
      let m = length-append closed ((l ++ (r ∷ [])) ∷ []) in
      let headed = headed-as (layered (early ++ (c ∷ later)) (closed ++ ((l ++ (r ∷ [])) ∷ []))) _ _ refl h in
      let all = k (whole-kept b r headed (omega arith)) (whole-cut b r headed ∙ omega arith) in
      (record { view = view_of b r f rest (is_last b r headed x.0 (last.0.0, last.0.1) (omega arith)) e all; cuts = refl {a = later}; behind = refl {a = rest}; closes = last.1 }, all)

  layers-view : {cs : List Cut} {ls : List (List VolumeRadial)} → Ended cs → Ended ls → LayersOk t 1 0 cs ls → Shown (cs ++ later) ls
  layers-view (with-last early c) (with-last closed l) ok =
      let layer = (layers-last t early closed c l 1 0 ok).1 in
      let two = sense.two t c (1 + length closed) (0 + radials_in closed) l layer in
      subst⁻¹ (λ (cs : List Cut). Shown cs (closed ++ (l ∷ []))) (append_assoc early (c ∷ []) later) (by (ended l (omega arith)) ok)
    where
      by : {l : List VolumeRadial} → Ended l → LayersOk t 1 0 (early ++ (c ∷ [])) (closed ++ (l ∷ [])) → Shown (early ++ (c ∷ later)) (closed ++ (l ∷ []))
      by (with-last init r) ok = closed-view early c closed init r ok

-- ---- any file

-- what of a file's radials is kept: all, or all but a last one of a cut that no other is of
pub data Tail (f : List ℕ) : Type 0 where
  all : stretches f ≡ kept f → Tail f
  one : (s : Stretch) → stretches f ≡ kept f ++ (s ∷ []) → of_cut s.cut (kept f) ≡ 0 → Tail f

pub data Seen (f : List ℕ) : Type 0 where
  some : View f → Tail f → Seen f
  none : kept f ≡ [] → Tail f → Seen f

-- no radial is of a cut behind the layers
none_of : (k at : ℕ) (l : List VolumeRadial) (j : ℕ) → (j ≡ k → ⊥) → of_cut k (layer_stretches j at l) ≡ 0
none_of k at [] j n = refl
none_of k at (b ∷ bs) j n = rw (ne_eqb j k n) (let h = none_of k (at + length (bytes_of_radial b)) bs j n in omega arith)

none-behind : (k at j : ℕ) (ls : List (List VolumeRadial)) → j + length ls ≤ k → of_cut k (layers_stretches j at ls) ≡ 0
none-behind k at j [] h = refl
none-behind k at j (l ∷ ls) h =
    let a = none_of k at l j (λ e. omega arith) in
    let b = none-behind k (end_of at l) (suc j) ls (omega arith) in
    of-join k (layer_stretches j at l) (layers_stretches (suc j) (end_of at l) ls) ∙ omega arith

module _ (f : List ℕ) (b : Begun) (rest : List ℕ) (ok : BegunOk b) (e : bytes_of_volume (volume_of b) ++ rest ≡ f) (r : stretches f ≡ volume_stretches (volume_of b)) where
  -- the last layer has two radials
  with-now : {m : List VolumeRadial} → Ended m → b.now ≡ m → 2 ≤ length m → Seen f
  with-now (with-last init x) q two =
      let n = length-append init (x ∷ []) in
      let c : Begun = record { generic = b.generic; site = b.site; task = b.task; early = b.early; closed = b.closed; cut = b.cut; now = init; later = b.later } in
      let now = unclosed-last b.task b.cut (cuts_of b) init (radials_in b.closed) 0 x (subst (UnclosedOk b.task b.cut (cuts_of b) (radials_in b.closed) 0) q ok.now) in
      let headed = headed-as (volume_of b) _ _ refl ok.headed in
      let same : volume_of b ≡ whole c x =
      ap (λ (y : List VolumeRadial). record { generic = b.generic; site = b.site; task = b.task; cuts = b.early ++ (b.cut ∷ b.later); layers = b.closed ++ (y ∷ []) }) q in
      let lie = r ∙ ap volume_stretches same in
      let keeps = ap (kept_after 0) lie ∙ whole-kept c x headed (omega arith) in
      some (view_of c x f rest (is_last c x headed ok.closed now (omega arith)) (ap (λ (v : Volume). bytes_of_volume v ++ rest) (sym same) ∙ e) keeps) (all (lie ∙ sym keeps))

  -- it has none, or one: what is kept are the closed layers
  abbrev lie-closed : List Stretch
  lie-closed = layers_stretches 1 (first_place (volume_of b)) b.closed

  abbrev lie-now : List VolumeRadial → List Stretch
  lie-now m = layer_stretches (1 + length b.closed) (ends_at (first_place (volume_of b)) b.closed) m

  module _ (m : List VolumeRadial) (q : b.now ≡ m) (few : length m ≤ 1) where
    lie_both : stretches f ≡ lie-closed ++ lie-now m
    lie_both = r ∙ stretches-end 1 (first_place (volume_of b)) b.closed b.now ∙ ap (λ (x : List VolumeRadial). lie-closed ++ lie-now x) q

    behind-closed : kept_after 0 lie-closed ≡ lie-closed → last_cut 0 lie-closed ≡ length b.closed → kept f ≡ lie-closed
    behind-closed own last = ap (kept_after 0) lie_both ∙ go m few
      where
        go : (m : List VolumeRadial) → length m ≤ 1 → kept_after 0 (lie-closed ++ lie-now m) ≡ lie-closed
        go [] h = ap (kept_after 0) (append-nil lie-closed) ∙ own
        go (x ∷ []) h = kept-without 0 _ _ (λ z. let y : 1 + length b.closed ≡ length b.closed = z ∙ last in omega arith)
        go (x ∷ (y ∷ ys)) h = absurd (omega arith)

    closed-tail : kept f ≡ lie-closed → Tail f
    closed-tail k = go m few (lie_both ∙ ap (λ (l : List Stretch). l ++ lie-now m) (sym k))
      where
        go : (m : List VolumeRadial) → length m ≤ 1 → stretches f ≡ kept f ++ lie-now m → Tail f
        go [] h is = all (is ∙ append-nil (kept f))
        go (x ∷ []) h is = one _ is (ap (of_cut (1 + length b.closed)) k ∙ none-behind (1 + length b.closed) (first_place (volume_of b)) 1 b.closed (omega arith))
        go (x ∷ (y ∷ ys)) h is = absurd (omega arith)

    by-closed : (c : List (List VolumeRadial)) → b.closed ≡ c → Seen f
    unfolding kept_after last_cut
    by-closed [] z =
        let at = first_place (volume_of b) in
        let own = subst⁻¹ (λ (c : List (List VolumeRadial)). kept_after 0 (layers_stretches 1 at c) ≡ layers_stretches 1 at c) z refl in
        let k = behind-closed own (ap (λ (c : List (List VolumeRadial)). last_cut 0 (layers_stretches 1 at c)) z ∙ sym (ap length z)) in
        none (k ∙ ap (layers_stretches 1 at) z) (closed-tail k)
    by-closed (l ∷ ls) z =
        let some-closed = ap length z in
        let early = same_number b.task 1 0 b.early b.closed ok.closed in
        let y = (generic_bytes b.generic ++ site_bytes b.site ++ task_bytes b.task) ++ run cut_bytes (b.early ++ (b.cut ∷ b.later)) in
        let n = run bytes_of_radial b.now in
        let x =
        layers-view f b.generic b.site b.task (b.cut ∷ b.later) (n ++ rest) (ended b.early (omega arith)) (ended b.closed (omega arith)) ok.closed (headed-as (volume_of b) _ _ refl ok.headed)
        (regroup y (run (run bytes_of_radial) b.closed) n rest ∙ ap (λ (x : List ℕ). (y ++ x) ++ rest) (sym (run_end (run bytes_of_radial) b.closed b.now)) ∙ e)
        behind-closed in
        some x.0.view (closed-tail x.1)
      where
        regroup : (a b c d : List ℕ) → (a ++ b) ++ (c ++ d) ≡ (a ++ (b ++ c)) ++ d
        regroup a b c d = simp append_assoc

  begun-seen : (m : List VolumeRadial) → b.now ≡ m → Seen f
  begun-seen [] q = by-closed [] q (omega arith) b.closed refl
  begun-seen (x ∷ []) q = by-closed (x ∷ []) q (omega arith) b.closed refl
  begun-seen (x ∷ (y ∷ ys)) q = with-now (ended (x ∷ (y ∷ ys)) (omega arith)) q (omega arith)

pub volume-view : (f : List ℕ) (v : Volume) (rest : List ℕ) → IsVolume v → bytes_of_volume v ++ rest ≡ f → stretches f ≡ volume_stretches v → ClosedView f [] rest × (stretches f ≡ kept f)
volume-view f v rest is e r =
    let n = (volume-most v is).some in
    let m = same_number v.task 1 0 v.cuts v.layers is.layers in
    let view = layers-view f v.generic v.site v.task [] rest (ended v.cuts (omega arith)) (ended v.layers n) is.layers in
    let x = subst (λ (cs : List Cut). Shown f v.generic v.site v.task [] rest cs v.layers) (append-nil v.cuts) view (headed-as v _ _ refl is.headed) e (λ own last. ap (kept_after 0) r ∙ own) in
    (x.0, r ∙ sym x.1)

pub seen : (f : List ℕ) → Bytes f → Seen f
unfolding kept_after
seen f bs = by p.accepted p.rest p.hopeful.is p.bytes p.told.radials
  where
    p : Parts f
    p = means.accepts f bs

    early : stretches f ≡ [] → Seen f
    early r = let k = ap (kept_after 0) r in none k (all (r ∙ sym k))

    by : (a : Accepted) (rest : List ℕ) → AcceptedOk a → bytes_of_accepted a ++ rest ≡ f → stretches f ≡ accepted_stretches a → Seen f
    by nothing rest ok e r = early r
    by (generic g) rest ok e r = early r
    by (site g s) rest ok e r = early r
    by (task g s t cs) rest ok e r = early r
    by (radials b) rest ok e r = begun-seen f b rest ok e r b.now refl
    by (radial b x) rest ok e r = begun-seen f b (bytes_of_radial x ++ rest) ok.0 (sym (append_assoc (bytes_of_volume (volume_of b)) (bytes_of_radial x) rest) ∙ e) r b.now refl
    by (moment b x m) rest ok e r = begun-seen f b ((bytes_of_radial x ++ moment_bytes m) ++ rest) ok.0 (apart-end (bytes_of_volume (volume_of b)) (bytes_of_radial x) (moment_bytes m) rest ∙ e) r b.now refl
    by (volume v) rest ok e r = let x = volume-view f v rest ok e r in some x.0.view (all x.1)

pub tail_of : (f : List ℕ) → Bytes f → Tail f
tail_of f bs = by (seen f bs)
  where
    by : Seen f → Tail f
    by (some v t) = t
    by (none k t) = t

-- The cuts and layers of a volume's beginning, read, back over each as in Forth. Assumes nothing.
use Prim.Native.Nat.{ℕ, suc, ◌+◌, ◌-◌, ◌*◌, ◌≤◌}
use native.Mathlib.Omega.{arith}
use mathlib.Core.Path.{◌≡◌, refl, sym, ap, subst, subst⁻¹, ◌∙◌}
use mathlib.Core.Bool.{Bool, false}
use mathlib.Core.List.{List, [], ◌∷◌, ◌++◌, append_assoc, append-nil}
use lib.Dec.{leb}
use lib.ListN.{length, take}
use borrow.Author.Tests.{le-ltb, lt-leb}
use Rattle.le.specs.Le.{run}
use Rattle.le.proofs.Laws.{part-take}
use Rattle.le.proofs.Here.{At}
use Rattle.le.proofs.Coded.{stands}
use Rattle.rules.specs.Check.{Hold}
use Rattle.cut.specs.declared.Cut.{Cut}
use Rattle.cut.specs.Cut.{cut_of, cut_at, cut_bytes, cut_rules, CutFits}
use Rattle.cut.proofs.Trips as cut-trip
use Rattle.task.specs.declared.Task.{Task}
use Rattle.walk.specs.declared.due.Due.TheVariants as due
use Rattle.walk.specs.declared.due.Count.{Count}
use Rattle.walk.specs.declared.due.Present.{Present}
use Rattle.walk.specs.declared.due.Rest.{Rest}
use Rattle.walk.specs.declared.due.Walk.{Walk}
use Rattle.walk.specs.Due.{cut_place, is_end, ends_radial, size_at, due_if}
use Rattle.walk.specs.After.{after_cut}
use Rattle.reading.specs.declared.Stretch.{Stretch}
use Rattle.reading.specs.Reading.{stretch_if}
use Rattle.volume.specs.Volume.{VolumeRadial, bytes_of_radial, LayersOk, CutsOk}
use Rattle.volume.specs.Accepted.{radials_in}
use Rattle.volume.specs.Meaning.{layer_stretches, end_of, layers_stretches}
use Rattle.volume.proofs.Runs.{Finishes, before-block}
use Rattle.reading.proofs.Exactly.{holding, settles-cut}
use Rattle.volume.proofs.Takes.{walk_at, plan_of, radial_walk, closed_walk, cut_walk}
use Rattle.volume.proofs.Forth.{layer, layer-then}

-- ---- the cuts, where they stand

-- the cuts from k on stand in the file, and from place `base` on each is known
abbrev pub CutsAt : List ℕ → ℕ → ℕ → List Cut → Type 0
CutsAt f base k [] = Unit {0}
CutsAt f base k (c ∷ cs) = ((n : ℕ) → base ≤ n → cut_at (take n f) (cut_place k) ≡ c) × CutsAt f base (suc k) cs

pub cuts-at : (f : List ℕ) (base k : ℕ) (cs : List Cut) (g : List ℕ) → 1 ≤ k → base ≡ cut_place k + 256 * length cs → CutsOk cs → At f (cut_place k) (run cut_bytes cs ++ g) → CutsAt f base k cs
unfolding run cut_at
cuts-at f base k [] g o e ok a = tt
cuts-at f base k (c ∷ cs) g o e ok a =
    let x = stands cut-trip.coded f (cut_place k) c (run cut_bytes cs ++ g) ok.0 (subst (At f (cut_place k)) (append_assoc (cut_bytes c) (run cut_bytes cs) g) a) in
    let z : cut_place k + 256 ≡ cut_place (suc k) = omega arith in (
      λ n h. ap cut_of (part-take 256 f (cut_place k) n (omega arith) ∙ sym (part-take 256 f (cut_place k) (cut_place k + 256) (omega arith))) ∙ x.is,
      cuts-at f base (suc k) cs g (omega arith) (omega arith) ok.2 (subst (λ (n : ℕ). At f n (run cut_bytes cs ++ g)) z x.next),
    )

-- the cut behind some others
pub cut-behind : (f : List ℕ) (base k : ℕ) (cs : List Cut) (c : Cut) (later : List Cut) → CutsAt f base k (cs ++ (c ∷ later)) → (n : ℕ) → base ≤ n → cut_at (take n f) (cut_place (k + length cs)) ≡ c
cut-behind f base k [] c later ca n h = let z : k ≡ k + 0 = omega arith in subst (λ (i : ℕ). cut_at (take n f) (cut_place i) ≡ c) z (ca.0 n h)
cut-behind f base k (d ∷ ds) c later ca n h =
    let z : suc k + length ds ≡ k + suc (length ds) = omega arith in
    subst (λ (i : ℕ). cut_at (take n f) (cut_place i) ≡ c) z (cut-behind f base (suc k) ds c later ca.1 n h)

-- ---- the layers

-- where the last of some layers ends
abbrev pub ends_at : ℕ → List (List VolumeRadial) → ℕ
ends_at at [] = at
ends_at at (l ∷ ls) = ends_at (end_of at l) ls

pub end_after : (at : ℕ) (l : List VolumeRadial) → at ≤ end_of at l
end_after at [] = omega arith
end_after at (b ∷ bs) = let h = end_after (at + length (bytes_of_radial b)) bs in omega arith

pub ends-after : (at : ℕ) (ls : List (List VolumeRadial)) → at ≤ ends_at at ls
ends-after at [] = omega arith
ends-after at (l ∷ ls) = let h = end_after at l in let g = ends-after (end_of at l) ls in omega arith

-- where the radials of one layer more lie
pub stretches-end : (k at : ℕ) (ls : List (List VolumeRadial)) (l : List VolumeRadial) → layers_stretches k at (ls ++ (l ∷ [])) ≡ layers_stretches k at ls ++ layer_stretches (k + length ls) (ends_at at ls) l
stretches-end k at [] l =
    let z : k ≡ k + 0 = omega arith in
    append-nil (layer_stretches k at l) ∙ ap (λ (i : ℕ). layer_stretches i at l) z
stretches-end k at (m ∷ ms) l =
    let z : suc k + length ms ≡ k + suc (length ms) = omega arith in
    ap (λ (r : List Stretch). layer_stretches k at m ++ r) (stretches-end (suc k) (end_of at m) ms l)
    ∙ sym (append_assoc (layer_stretches k at m) (layers_stretches (suc k) (end_of at m) ms) (layer_stretches (suc k + length ms) (ends_at (end_of at m) ms) l))
    ∙ ap (λ (i : ℕ). layers_stretches k at (m ∷ ms) ++ layer_stretches i (ends_at (end_of at m) ms) l) z

module _ (f : List ℕ) (E : Walk → Type 0) (t : Task) where
  -- some of them, and a further cut's
  pub layers-on : (cs : List Cut) (ls : List (List VolumeRadial)) (c : Cut) (later : List Cut) (k before at base : ℕ) (g : List ℕ) (pr : Present) (re : Rest) (ss : List Stretch) → CutsAt f base k (cs ++ (c ∷ later)) → base ≤ at
      → k + length cs ≤ t.cut_number → LayersOk t k before cs ls → At f at (run (run bytes_of_radial) ls ++ g)
      → ((pr : Present) (re : Rest) → At f (ends_at at ls) g → Finishes f E (radial_walk t (k + length ls) (before + radials_in ls) 0 (ends_at at ls) pr re) ss)
      → Finishes f E (radial_walk t k before 0 at pr re) (layers_stretches k at ls ++ ss)
  unfolding run
  layers-on [] [] c later k before at base g pr re ss ca b n ok a next =
      let y : k + 0 ≡ k = omega arith in
      let z : before + 0 ≡ before = omega arith in
      subst (λ (x : ℕ). Finishes f E (radial_walk t x before 0 at pr re) ss) y (subst (λ (x : ℕ). Finishes f E (radial_walk t (k + 0) x 0 at pr re) ss) z (next pr re a))
  layers-on [] (l ∷ ls) c later k before at base g pr re ss ca b n ok a next = absurd ok
  layers-on (d ∷ ds) [] c later k before at base g pr re ss ca b n ok a next = absurd ok
  layers-on (d ∷ ds) (l ∷ ls) c later k before at base g pr re ss ca b n ok a next =
      let e = end_of at l in
      let h = end_after at l in
      let y : k + suc (length ls) ≡ suc k + length ls = omega arith in
      let z : before + (length l + radials_in ls) ≡ before + length l + radials_in ls = omega arith in
      subst⁻¹ (Finishes f E (radial_walk t k before 0 at pr re)) (append_assoc (layer_stretches k at l) (layers_stretches (suc k) e ls) ss)
      (layer-then f E t d k l before at (run (run bytes_of_radial) ls ++ g) pr re _ (omega arith) (λ m h. ca.0 m (omega arith)) ok.0
      (subst (At f at) (append_assoc (run bytes_of_radial l) (run (run bytes_of_radial) ls) g) a)
      (λ pr re i. layers-on ds ls c later (suc k) (before + length l) e base g pr re ss ca.1 (omega arith) (omega arith) ok.1 i
      (λ pr re i. subst (λ (x : ℕ). Finishes f E (radial_walk t x (before + length l + radials_in ls) 0 (ends_at e ls) pr re) ss) y
      (subst (λ (x : ℕ). Finishes f E (radial_walk t (k + suc (length ls)) x 0 (ends_at e ls) pr re) ss) z (next pr re i)))))

  -- all of them, and the volume is over
  pub layers-whole : (cs : List Cut) (c : Cut) (ls : List (List VolumeRadial)) (l : List VolumeRadial) (k before at base : ℕ) (g : List ℕ) (pr : Present) (re : Rest) (ss : List Stretch) → CutsAt f base k (c ∷ cs) → base ≤ at
      → k + length cs ≡ t.cut_number → LayersOk t k before (c ∷ cs) (l ∷ ls) → At f at (run (run bytes_of_radial) (l ∷ ls) ++ g)
      → ((co : Count) (pr : Present) (re : Rest) → At f (ends_at at (l ∷ ls)) g → Finishes f E (walk_at due.Nothing (plan_of t) co pr (ends_at at (l ∷ ls)) re) ss)
      → Finishes f E (radial_walk t k before 0 at pr re) (layers_stretches k at (l ∷ ls) ++ ss)
  unfolding run due_if
  layers-whole [] c [] l k before at base g pr re ss ca b n ok a next =
      subst⁻¹ (Finishes f E (radial_walk t k before 0 at pr re)) (append_assoc (layer_stretches k at l) [] ss)
      (layer f E t c k l before 0 at g pr re ss (λ m h. ca.0 m (omega arith)) ok.0 (subst (At f at) (append_assoc (run bytes_of_radial l) [] g) a)
      (λ pr re i. subst⁻¹ (λ (x : Bool). Finishes f E (closed_walk x t k (before + length l) (end_of at l) pr re) ss) (le-ltb k t.cut_number (omega arith)) (next _ pr re i)))
  layers-whole [] c (m ∷ ms) l k before at base g pr re ss ca b n ok a next = absurd ok.1
  layers-whole (d ∷ ds) c [] l k before at base g pr re ss ca b n ok a next = absurd ok.1
  layers-whole (d ∷ ds) c (m ∷ ms) l k before at base g pr re ss ca b n ok a next =
      let e = end_of at l in
      let h = end_after at l in
      let others = run (run bytes_of_radial) (m ∷ ms) in
      subst⁻¹ (Finishes f E (radial_walk t k before 0 at pr re)) (append_assoc (layer_stretches k at l) (layers_stretches (suc k) e (m ∷ ms)) ss)
      (layer-then f E t c k l before at (others ++ g) pr re _ (omega arith) (λ m h. ca.0 m (omega arith)) ok.0 (subst (At f at) (append_assoc (run bytes_of_radial l) others g) a)
      (λ pr re i. layers-whole ds d ms m (suc k) (before + length l) e base g pr re ss ca.1 (omega arith) (omega arith) ok.1 i next))

  -- ---- the cuts, taken

  -- the walk behind a cut, where so many more are to come
  abbrev behind_cut : ℕ → ℕ → Walk
  behind_cut at more = after_cut (cut_walk t 1 at (suc more)) at

  one-cut : (c : Cut) (j at todo : ℕ) (g : List ℕ) (ss : List Stretch) → CutFits c → Hold (cut_rules c) → At f at (cut_bytes c ++ g)
      → (At f (at + 256) g → Finishes f E (after_cut (cut_walk t j at todo) (at + 256)) ss) → Finishes f E (cut_walk t j at todo) ss
  unfolding is_end size_at ends_radial stretch_if
  one-cut c j at todo g ss fits rules a next =
      let w = cut_walk t j at todo in
      let x = stands cut-trip.coded f at c g fits a in
      before-block f E w _ false _ refl x.room (settles-cut (take (at + 256) f) w c x.is ∙ holding (cut_rules c) _ _ rules) refl (next x.next)

  pub cuts-on : (cs : List Cut) (c : Cut) (more j at end : ℕ) (g : List ℕ) (ss : List Stretch) → CutsOk (c ∷ cs) → At f at (run cut_bytes (c ∷ cs) ++ g) → end ≡ at + 256 * length (c ∷ cs)
      → (At f end g → Finishes f E (behind_cut end more) ss) → Finishes f E (cut_walk t j at (length (c ∷ cs) + more)) ss
  unfolding run due_if
  cuts-on [] c more j at end g ss ok a e next =
      let z : end ≡ at + 256 = omega arith in
      let y : 1 + more ≡ suc more = omega arith in
      one-cut c j at (1 + more) g ss ok.0 ok.1 (subst (At f at) (append_assoc (cut_bytes c) [] g) a)
      (λ i. subst⁻¹ (λ (n : ℕ). Finishes f E (after_cut (cut_walk t j at n) (at + 256)) ss) y (subst (λ (n : ℕ). Finishes f E (behind_cut n more) ss) z (next (subst⁻¹ (λ (n : ℕ). At f n g) z i))))
  cuts-on (d ∷ ds) c more j at end g ss ok a e next =
      let n = length (d ∷ ds) + more in
      let b : leb (length (c ∷ (d ∷ ds)) + more) 1 ≡ false = lt-leb (length (c ∷ (d ∷ ds)) + more) 1 (omega arith) in
      let o : length (c ∷ (d ∷ ds)) + more - 1 ≡ n = omega arith in
      one-cut c j at (length (c ∷ (d ∷ ds)) + more) (run cut_bytes (d ∷ ds) ++ g) ss ok.0 ok.1 (subst (At f at) (append_assoc (cut_bytes c) (run cut_bytes (d ∷ ds)) g) a)
      (λ i. rw (b, o) (cuts-on ds d more 1 (at + 256) end g ss ok.2 i (omega arith) next))

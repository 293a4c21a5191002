-- A volume's structure taken apart at its last radial: lists, layers and cuts, with what their parts keep of the rules. Assumes nothing.
use Prim.Native.Nat.{ℕ, suc, ◌+◌, ◌≤◌}
use native.Mathlib.Omega.{arith}
use mathlib.Core.List.{List, [], ◌∷◌, ◌++◌}
use mathlib.Core.Path.{◌≡◌, subst}
use lib.ListN.{length}
use Rattle.cut.specs.declared.Cut.{Cut}
use Rattle.task.specs.declared.Task.{Task}
use Rattle.volume.specs.Volume.{VolumeRadial, CutsOk, RadialOk, Closes, LayerOk, LayersOk}
use Rattle.volume.specs.Accepted.{UnclosedOk, radials_in}
use Rattle.volume.proofs.Grow.{moved}

-- ---- the last of a list

pub data Ended {A : Type 0} : List A → Type 0 where
  with-last : (init : List A) (last : A) → Ended (init ++ (last ∷ []))

pub ended : {A : Type 0} (l : List A) → 1 ≤ length l → Ended l
ended [] h = absurd (omega arith)
ended (x ∷ []) h = with-last [] x
ended {A} (x ∷ (y ∷ ys)) h = more (ended (y ∷ ys) (omega arith))
  where
    more : {l : List A} → Ended l → Ended (x ∷ l)
    more (with-last init last) = with-last (x ∷ init) last

-- ---- the last radial of a layer

module _ (t : Task) (c : Cut) (k : ℕ) where
  -- those before it do not close the cut, and it keeps its rules in its place
  abbrev pub Before : ℕ → ℕ → List VolumeRadial → VolumeRadial → Type 0
  Before before in_cut l r = UnclosedOk t c k before in_cut l × RadialOk t c k (before + length l) (in_cut + length l) r

  further : (before in_cut : ℕ) (m : VolumeRadial) (ms : List VolumeRadial) (r : VolumeRadial) → RadialOk t c k before in_cut m → (Closes t k m → ⊥)
      → Before (suc before) (suc in_cut) ms r → Before before in_cut (m ∷ ms) r
  further before in_cut m ms r ok n b =
      ((ok, n, b.0), moved t c k (suc before + length ms) (suc in_cut + length ms) (before + suc (length ms)) (in_cut + suc (length ms)) r (omega arith) (omega arith) b.1)

  here : (before in_cut : ℕ) (r : VolumeRadial) → RadialOk t c k before in_cut r → Before before in_cut [] r
  here before in_cut r ok = (tt, moved t c k before in_cut (before + 0) (in_cut + 0) r (omega arith) (omega arith) ok)

  pub unclosed-last : (l : List VolumeRadial) (before in_cut : ℕ) (r : VolumeRadial) → UnclosedOk t c k before in_cut (l ++ (r ∷ [])) → Before before in_cut l r
  unclosed-last [] before in_cut r ok = here before in_cut r ok.0
  unclosed-last (m ∷ ms) before in_cut r ok = further before in_cut m ms r ok.0 ok.1 (unclosed-last ms (suc before) (suc in_cut) r ok.2)

  pub layer-last : (l : List VolumeRadial) (before in_cut : ℕ) (r : VolumeRadial) → LayerOk t c k before in_cut (l ++ (r ∷ [])) → Before before in_cut l r × Closes t k r
  layer-last [] before in_cut r ok = (here before in_cut r ok.0, ok.1)
  layer-last (m ∷ []) before in_cut r ok =
      let x = layer-last [] (suc before) (suc in_cut) r ok.2 in
      (further before in_cut m [] r ok.0 ok.1 (x.0.0, x.0.1), x.1)
  layer-last (m ∷ (n ∷ ns)) before in_cut r ok =
      let x = layer-last (n ∷ ns) (suc before) (suc in_cut) r ok.2 in
      (further before in_cut m (n ∷ ns) r ok.0 ok.1 (x.0.0, x.0.1), x.1)

-- ---- the last layer

pub layers-last : (t : Task) (cs : List Cut) (ls : List (List VolumeRadial)) (c : Cut) (l : List VolumeRadial) (k before : ℕ) → LayersOk t k before (cs ++ (c ∷ [])) (ls ++ (l ∷ []))
    → LayersOk t k before cs ls × LayerOk t c (k + length ls) (before + radials_in ls) 0 l
layers-last t [] [] c l k before ok =
    let y : k ≡ k + 0 = omega arith in
    let z : before ≡ before + 0 = omega arith in
    (tt, subst (λ (i : ℕ). LayerOk t c i (before + 0) 0 l) y (subst (λ (i : ℕ). LayerOk t c k i 0 l) z ok.0))
layers-last t [] (m ∷ []) c l k before ok = absurd ok.1
layers-last t [] (m ∷ (n ∷ ns)) c l k before ok = absurd ok.1
layers-last t (d ∷ []) [] c l k before ok = absurd ok.1
layers-last t (d ∷ (e ∷ es)) [] c l k before ok = absurd ok.1
layers-last t (d ∷ ds) (m ∷ ms) c l k before ok =
    let x = layers-last t ds ms c l (suc k) (before + length m) ok.1 in
    let y : suc k + length ms ≡ k + suc (length ms) = omega arith in
    let z : before + length m + radials_in ms ≡ before + (length m + radials_in ms) = omega arith in
    ((ok.0, x.0), subst (λ (i : ℕ). LayerOk t c i (before + (length m + radials_in ms)) 0 l) y (subst (λ (i : ℕ). LayerOk t c (suc k + length ms) i 0 l) z x.1))

-- ---- the cuts up to the last that is kept, and those behind it

pub cuts-apart : (cs : List Cut) (c : Cut) (later : List Cut) → CutsOk (cs ++ (c ∷ later)) → CutsOk (cs ++ (c ∷ [])) × CutsOk later
cuts-apart [] c later ok = ((ok.0, ok.1, tt), ok.2)
cuts-apart (d ∷ ds) c later ok = let x = cuts-apart ds c later ok.2 in ((ok.0, ok.1, x.0), x.1)

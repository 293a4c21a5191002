-- The volume that a beginning and the radial behind it become is one: early radials keep their rules where the task has fewer cuts, and the
-- last closes the last cut. Assumes nothing.
use Prim.Native.Nat.{ℕ, zero, suc, ◌+◌, ◌^◌, ◌≤◌, ◌<◌}
use native.Mathlib.Omega.{arith}
use mathlib.Core.Path.{◌≡◌, refl, sym, subst, ◌∙◌}
use mathlib.Core.Bool.{Bool, true, false, cond}
use mathlib.Core.Logic.{◌⊎◌, inl, inr}
use mathlib.Core.List.{List, [], ◌∷◌, ◌++◌}
use lib.Dec.{ltb}
use lib.ListN.{length, length-append}
use borrow.Author.Tests.{lt-ltb}
use Rattle.rules.specs.States.{rhi, closing, state_ok}
use Rattle.rules.proofs.Allowed.{cuts-allowed, first-allowed, other-allowed}
use Rattle.rules.proofs.Numbers.{closing-small, opens-only}
use Rattle.cut.specs.declared.Cut.{Cut}
use Rattle.radial.specs.declared.Radial.{Radial}
use Rattle.task.specs.declared.Task.{Task}
use Rattle.radial.specs.Radial.{RadialFits}
use Rattle.task.specs.Task.{TaskFits}
use Rattle.volume.specs.Volume.{VolumeMoment, VolumeRadial, IsVolume, Headed, TaskOk, MomentsOk, RadialOk, LayerOk, LayersOk}
use Rattle.volume.specs.Accepted.{Begun, UnclosedOk, radials_in}
use Rattle.volume.proofs.Grow.{layer-end, layers-end}
use Rattle.mend.specs.Answers.{with_state}
use Rattle.mend.specs.Made.{with_cuts}
use Rattle.mend.proofs.Behind.{begun-cuts}
use Rattle.mend.proofs.Splits.{cuts-apart}
use Rattle.mend.proofs.View.{Last, cuts_of, closed_task, closed_radial, closed_volume}

-- ---- states where the number of cuts differs

closing-early : (scan n m k : ℕ) → k < n → k < m → closing scan n k ≡ closing scan m k
unfolding closing
closing-early scan n m k h i = rw (lt-ltb k n h, lt-ltb k m i)

state-same : (scan n m k in_cut s : ℕ) → closing scan n k ≡ closing scan m k → state_ok scan n k in_cut s ≡ state_ok scan m k in_cut s
unfolding state_ok
state-same scan n m k in_cut s e = rw e

closing-not-one : (scan n k : ℕ) → 1 ≡ closing scan n k → ⊥
unfolding closing
closing-not-one scan n k = go (rhi scan) (ltb k n)
  where
    go : (r a : Bool) → ◌≡◌ {A = ℕ} 1 (cond r 6 (cond a 2 4)) → ⊥
    go true a e = omega arith
    go false true e = omega arith
    go false false e = omega arith

-- a state that closes no cut is allowed, and closes none, whatever the number of cuts
state-open : (scan n m k in_cut s : ℕ) → state_ok scan n k in_cut s ≡ true → (s ≡ closing scan n k → ⊥) → (state_ok scan m k in_cut s ≡ true) × (s ≡ closing scan m k → ⊥)
state-open scan n m k zero s ok never =
    let e = (first-allowed scan n k s).0 ok in
    ((first-allowed scan m k s).1 e, λ z. opens-only scan m k (sym e ∙ z))
state-open scan n m k (suc i) s ok never = go ((other-allowed scan n k (suc i) s (omega arith)).0 ok)
  where
    go : (s ≡ 1) ⊎ (s ≡ closing scan n k) → (state_ok scan m k (suc i) s ≡ true) × (s ≡ closing scan m k → ⊥)
    go (inl e) = ((other-allowed scan m k (suc i) s (omega arith)).1 (inl e), λ z. closing-not-one scan m k (sym e ∙ z))
    go (inr e) = absurd (never e)

-- ---- radials and layers where the number of cuts differs

module _ (t : Task) (n : ℕ) where
  recast : (c : Cut) (k before in_cut : ℕ) (r : VolumeRadial) → state_ok t.scan_type n k in_cut r.header.state ≡ true → RadialOk t c k before in_cut r → RadialOk (with_cuts t n) c k before in_cut r
  recast c k before in_cut r e ok = record { fits = ok.fits; rules = (e, ok.rules.1); count = ok.count; moments = ok.moments }

  now-open : (c : Cut) (k before in_cut : ℕ) (l : List VolumeRadial) → UnclosedOk t c k before in_cut l → UnclosedOk (with_cuts t n) c k before in_cut l
  now-open c k before in_cut [] ok = tt
  now-open c k before in_cut (r ∷ rs) ok =
      let s = state-open t.scan_type t.cut_number n k in_cut r.header.state ok.0.rules.0 ok.1 in
      (recast c k before in_cut r s.0 ok.0, s.1, now-open c k (suc before) (suc in_cut) rs ok.2)

  layer-early : (c : Cut) (k before in_cut : ℕ) (l : List VolumeRadial) → closing t.scan_type n k ≡ closing t.scan_type t.cut_number k → LayerOk t c k before in_cut l → LayerOk (with_cuts t n) c k before in_cut l
  layer-early c k before in_cut l e = go before in_cut l
    where
      one : (before in_cut : ℕ) (r : VolumeRadial) → RadialOk t c k before in_cut r → RadialOk (with_cuts t n) c k before in_cut r
      one before in_cut r ok = recast c k before in_cut r (state-same t.scan_type n t.cut_number k in_cut r.header.state e ∙ ok.rules.0) ok

      go : (before in_cut : ℕ) (l : List VolumeRadial) → LayerOk t c k before in_cut l → LayerOk (with_cuts t n) c k before in_cut l
      go before in_cut [] ok = absurd ok
      go before in_cut (r ∷ []) ok = (one before in_cut r ok.0, ok.1 ∙ sym e)
      go before in_cut (r ∷ (m ∷ ms)) ok = (one before in_cut r ok.0, λ z. ok.1 (z ∙ e), go (suc before) (suc in_cut) (m ∷ ms) ok.2)

  layers-early : n ≤ t.cut_number → (cs : List Cut) (ls : List (List VolumeRadial)) (k before : ℕ) → k + length ls ≤ n → LayersOk t k before cs ls → LayersOk (with_cuts t n) k before cs ls
  layers-early few [] [] k before h ok = tt
  layers-early few [] (l ∷ ls) k before h ok = absurd ok
  layers-early few (c ∷ cs) [] k before h ok = absurd ok
  layers-early few (c ∷ cs) (l ∷ ls) k before h ok = (
    layer-early c k before 0 l (closing-early t.scan_type n t.cut_number k (omega arith) (omega arith)) ok.0,
    layers-early few cs ls (suc k) (before + length l) (omega arith) ok.1,
  )

-- ---- the blocks before the radials

fits-fewer : (t : Task) (n : ℕ) → n ≤ t.cut_number → TaskFits t → TaskFits (with_cuts t n)
fits-fewer t n few f =
    record {
      name = f.name;
      description = f.description;
      reserved = f.reserved;
      polarization = f.polarization;
      scan_type = f.scan_type;
      pulse_width = f.pulse_width;
      start_time = f.start_time;
      cut_number = omega arith;
      noise_h = f.noise_h;
      noise_v = f.noise_v;
      calibration_h = f.calibration_h;
      calibration_v = f.calibration_v;
      noise_temperature_h = f.noise_temperature_h;
      noise_temperature_v = f.noise_temperature_v;
      zdr_calibration = f.zdr_calibration;
      phase_calibration = f.phase_calibration;
      ldr_calibration = f.ldr_calibration;
    }

task-fewer : (t : Task) (n : ℕ) → 1 ≤ n → n ≤ t.cut_number → TaskOk t → TaskOk (with_cuts t n)
task-fewer t n some few ok =
    let rules = ok.1 in
    let most = (cuts-allowed t.scan_type t.cut_number).0 rules.1.1.1.0 in
    let number = (cuts-allowed t.scan_type n).1 (some, omega arith) in
    (fits-fewer t n few ok.0, (rules.0, (rules.1.0, (rules.1.1.0, (number, tt)))))

-- ---- the last radial

fits_kept : (h : Radial) (x : ℕ) → x < 256 ^ 4 → RadialFits h → RadialFits (with_state h x)
fits_kept h x small f =
    record {
      reserved = f.reserved;
      state = small;
      spot_blank = f.spot_blank;
      sequence = f.sequence;
      radial_number = f.radial_number;
      elevation_number = f.elevation_number;
      azimuth = f.azimuth;
      elevation = f.elevation;
      seconds = f.seconds;
      microseconds = f.microseconds;
      length_of_data = f.length_of_data;
      moment_number = f.moment_number;
    }

moments-kept : (c : Cut) (h : Radial) (x : ℕ) (before ms : List VolumeMoment) → MomentsOk c h before ms → MomentsOk c (with_state h x) before ms
moments-kept c h x before [] ok = tt
moments-kept c h x before (m ∷ ms) ok = (ok.0, ok.1, ok.2, moments-kept c h x (m ∷ before) ms ok.3)

module _ (b : Begun) (r : VolumeRadial) (last : Last b r) where
  last_ok : RadialOk (closed_task b) b.cut (cuts_of b) (radials_in b.closed + length b.now) (length b.now) (closed_radial b r)
  last_ok =
      let k = cuts_of b in
      let scan = b.task.scan_type in
      let ok = last.radial in
      let small = closing-small scan k k in
      record {
        fits = fits_kept r.header (closing scan k k) (omega arith) ok.fits;
        rules = ((other-allowed scan k k (length b.now) (closing scan k k) last.two).1 (inr refl), ok.rules.1);
        count = ok.count;
        moments = moments-kept b.cut r.header (closing scan k k) [] r.moments ok.moments;
      }

  headed : Headed (closed_volume b r)
  headed =
      let h = last.begun.headed in
      let cuts = begun-cuts b last.begun in
      let l = length-append b.early (b.cut ∷ []) in
      record {
        generic = h.generic;
        site = h.site;
        task = task-fewer b.task (cuts_of b) (omega arith) (omega arith) h.task;
        number = omega arith;
        cuts = (cuts-apart b.early b.cut b.later h.cuts).0;
      }

  last-layer : LayerOk (closed_task b) b.cut (1 + length b.closed) (0 + radials_in b.closed) 0 (b.now ++ (closed_radial b r ∷ []))
  last-layer =
      let t = closed_task b in
      let k : cuts_of b ≡ 1 + length b.closed = omega arith in
      let before : radials_in b.closed ≡ 0 + radials_in b.closed = omega arith in
      let in_cut : length b.now ≡ 0 + length b.now = omega arith in
      let now = now-open b.task (cuts_of b) b.cut (cuts_of b) (radials_in b.closed) 0 b.now last.begun.now in
      let ok = subst (λ (i : ℕ). RadialOk t b.cut (cuts_of b) (radials_in b.closed + length b.now) i (closed_radial b r)) in_cut last_ok in
      let layer = layer-end t b.cut (cuts_of b) b.now (radials_in b.closed) 0 (closed_radial b r) now ok refl in
      rw (← k, ← before) layer

  layers : LayersOk (closed_task b) 1 0 (b.early ++ (b.cut ∷ [])) (closed_volume b r).layers
  layers =
      let cuts = begun-cuts b last.begun in
      let early = layers-early b.task (cuts_of b) (omega arith) b.early b.closed 1 0 (omega arith) last.begun.closed in
      layers-end (closed_task b) b.early b.closed b.cut _ 1 0 early last-layer

  pub is-volume : IsVolume (closed_volume b r)
  is-volume = record { headed = headed; layers = layers }

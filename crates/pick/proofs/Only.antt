-- A volume with the wanted moments only is a volume, where each of its radials has one left. Assumes nothing.
use Prim.Native.Nat.{ℕ, suc, ◌+◌, ◌^◌, ◌≤◌, ◌<◌}
use native.Mathlib.Nat.{lt_of_le_of_lt}
use native.Mathlib.Omega.{arith}
use mathlib.Core.Path.{◌≡◌, refl, sym, ◌∙◌}
use mathlib.Core.List.{List, [], ◌∷◌, map}
use lib.Bits.{and_le_l}
use lib.Dec.{lit<}
use lib.ListN.{length, length-map}
use mir.Syntax.{w32}
use Rattle.rules.proofs.Numbers.{inside, most}
use Rattle.cut.specs.declared.Cut.{Cut}
use Rattle.radial.specs.declared.Radial.{Radial}
use Rattle.task.specs.declared.Task.{Task}
use Rattle.cut.specs.Cut.{CutFits}
use Rattle.radial.specs.Radial.{RadialFits}
use Rattle.volume.specs.Volume.{VolumeMoment, VolumeRadial, Volume, IsVolume, tiled, RadialOk, LayerOk, LayersOk, CutsOk}
use Rattle.volume.proofs.Sense.{sense}
use Rattle.pick.specs.Only.{only_moments, only_radial, only_cut, only_volume, with_mask, with_moments, SomeLeft, AllLeft}
use Rattle.pick.proofs.Left.{less, each-33, number-left, moments-left}

-- ---- the cuts

-- a cut's record with a mask of 64 bits is one that its type holds
mask_fits : (c : Cut) (mask : ℕ) → mask < 256 ^ 8 → CutFits c → CutFits (with_mask c mask)
mask_fits c mask small f =
    record {
      mask_reserved = f.mask_reserved;
      reserved = f.reserved;
      process_mode = f.process_mode;
      wave_form = f.wave_form;
      prf1 = f.prf1;
      prf2 = f.prf2;
      unfold_mode = f.unfold_mode;
      azimuth = f.azimuth;
      elevation = f.elevation;
      start_angle = f.start_angle;
      end_angle = f.end_angle;
      angular_resolution = f.angular_resolution;
      scan_speed = f.scan_speed;
      log_resolution = f.log_resolution;
      doppler_resolution = f.doppler_resolution;
      maximum_range1 = f.maximum_range1;
      maximum_range2 = f.maximum_range2;
      start_range = f.start_range;
      sample1 = f.sample1;
      sample2 = f.sample2;
      phase_mode = f.phase_mode;
      atmospheric_loss = f.atmospheric_loss;
      nyquist_speed = f.nyquist_speed;
      moments_mask = small;
      size_mask = f.size_mask;
      filter_mask = f.filter_mask;
      sqi_threshold = f.sqi_threshold;
      sig_threshold = f.sig_threshold;
      csr_threshold = f.csr_threshold;
      log_threshold = f.log_threshold;
      cpa_threshold = f.cpa_threshold;
      pmi_threshold = f.pmi_threshold;
      dplog_threshold = f.dplog_threshold;
      thresholds_reserved = f.thresholds_reserved;
      db_mask = f.db_mask;
      dbz_mask = f.dbz_mask;
      velocity_mask = f.velocity_mask;
      spectrum_width_mask = f.spectrum_width_mask;
      dp_mask = f.dp_mask;
      scan_sync = f.scan_sync;
      direction = f.direction;
      clutter_classifier = f.clutter_classifier;
      clutter_filter = f.clutter_filter;
      clutter_notch_width = f.clutter_notch_width;
      clutter_window = f.clutter_window;
    }

-- cuts keep their rules, none of which looks at the moments mask
cuts-left : (wanted : ℕ) (cs : List Cut) → CutsOk cs → CutsOk (map (only_cut wanted) cs)
cuts-left wanted [] ok = tt
cuts-left wanted (c ∷ cs) ok = (mask_fits c _ (lt_of_le_of_lt (and_le_l c.moments_mask wanted) ok.0.moments_mask) ok.0, ok.1, cuts-left wanted cs ok.2)

-- ---- the radials

-- a radial's record with two numbers of 32 bits is one that its type holds
moments-fit : (r : Radial) (n k : ℕ) → n < 256 ^ 4 → k < 256 ^ 4 → RadialFits r → RadialFits (with_moments r n k)
moments-fit r n k a b f =
    record {
      reserved = f.reserved;
      state = f.state;
      spot_blank = f.spot_blank;
      sequence = f.sequence;
      radial_number = f.radial_number;
      elevation_number = f.elevation_number;
      azimuth = f.azimuth;
      elevation = f.elevation;
      seconds = f.seconds;
      microseconds = f.microseconds;
      length_of_data = a;
      moment_number = b;
    }

-- what is not empty has at least one
some : (ps : List VolumeMoment) → (ps ≡ [] → ⊥) → 1 ≤ length ps
some [] h = absurd (h refl)
some (p ∷ ps) h = omega arith

-- a radial keeps its rules where it has a moment left
radial-left : (wanted : ℕ) (t : Task) (c : Cut) (k before in_cut : ℕ) (b : VolumeRadial) → (only_moments wanted b.moments ≡ [] → ⊥) → RadialOk t c k before in_cut b → RadialOk t (only_cut wanted c) k before in_cut (only_radial wanted b)
radial-left wanted t c k before in_cut b left ok =
    let qs = only_moments wanted b.moments in
    let fewer = less wanted b.moments in
    let filled = sense.filled t c k before in_cut b ok in
    let count = ok.count in
    let one = some qs left in
    let room = each-33 wanted c b.header [] b.moments ok.moments in
    let long = ok.fits.length_of_data in
    let many = ok.fits.moment_number in
    let h = ok.rules in
    let last = h.1.1.1.1.1.1.1.1.1 in
    let far = most w32 1 100000 b.header.length_of_data (lit< tt) last.0 in
    let rule-18 = sym (inside w32 1 100000 (tiled qs) (lit< tt) (omega arith) (omega arith)) in
    let rule-19 = number-left _ _ (tiled qs) (length qs) one (omega arith) room last.1.0 in
    record {
      fits = moments-fit b.header (tiled qs) (length qs) (omega arith) (omega arith) ok.fits;
      rules = (h.0, (h.1.0, (h.1.1.0, (h.1.1.1.0, (h.1.1.1.1.0, (h.1.1.1.1.1.0, (h.1.1.1.1.1.1.0, (h.1.1.1.1.1.1.1.0, (h.1.1.1.1.1.1.1.1.0, (rule-18, (rule-19, tt)))))))))));
      count = refl;
      moments = moments-left wanted c b.header (tiled qs) (length qs) [] [] b.moments (λ u z. z) (omega arith) (omega arith) ok.moments;
    }

-- so does a layer whose radials have: the states are the same
layer-left : (wanted : ℕ) (t : Task) (c : Cut) (k before in_cut : ℕ) (l : List VolumeRadial) → SomeLeft wanted l → LayerOk t c k before in_cut l → LayerOk t (only_cut wanted c) k before in_cut (map (only_radial wanted) l)
layer-left wanted t c k before in_cut [] left ok = absurd ok
layer-left wanted t c k before in_cut (b ∷ []) left ok = (radial-left wanted t c k before in_cut b left.0 ok.0, ok.1)
layer-left wanted t c k before in_cut (b ∷ (n ∷ ns)) left ok = (
  radial-left wanted t c k before in_cut b left.0 ok.0,
  ok.1,
  layer-left wanted t c k (suc before) (suc in_cut) (n ∷ ns) left.1 ok.2,
)

-- and so do the layers, each behind as many radials as before
layers-left : (wanted : ℕ) (t : Task) (k before : ℕ) (cs : List Cut) (ls : List (List VolumeRadial)) → AllLeft wanted ls → LayersOk t k before cs ls → LayersOk t k before (map (only_cut wanted) cs) (map (map (only_radial wanted)) ls)
layers-left wanted t k before [] [] left ok = tt
layers-left wanted t k before [] (l ∷ ls) left ok = absurd ok
layers-left wanted t k before (c ∷ cs) [] left ok = absurd ok
layers-left wanted t k before (c ∷ cs) (l ∷ ls) left ok = (
  layer-left wanted t c k before 0 l left.0 ok.0,
  rw (length-map l (only_radial wanted)) (layers-left wanted t (suc k) (before + length l) cs ls left.1 ok.1),
)

-- ---- the volume

-- it is a volume
pub only-is : (wanted : ℕ) (v : Volume) → IsVolume v → AllLeft wanted v.layers → IsVolume (only_volume wanted v)
only-is wanted v ok left =
    let h = ok.headed in
    let same = length-map v.cuts (only_cut wanted) in
    record {
      headed = record { generic = h.generic; site = h.site; task = h.task; number = same ∙ h.number; cuts = cuts-left wanted v.cuts h.cuts };
      layers = layers-left wanted v.task 1 0 v.cuts v.layers left ok.layers;
    }

-- A volume with the wanted moments only (document 02, #111), by its structure: record for record. Nothing here knows where a block stands.
use Rattle.std.specs.Prelude.{ℕ, cond, List, [], ◌∷◌, map, ◌≡◌, length}
use Rattle.std.specs.Int.Bits.{bit_and}
use Rattle.rules.specs.Masks.{bit}
use Rattle.cut.specs.declared.Cut.{Cut}
use Rattle.radial.specs.declared.Radial.{Radial}
use Rattle.volume.specs.Volume.{VolumeMoment, VolumeRadial, Volume, tiled}

-- ---- the fields that change

-- a cut's record with another moments mask (table 2-5)
abbrev pub with_mask : Cut → ℕ → Cut
with_mask c mask =
    record {
      process_mode = c.process_mode;
      wave_form = c.wave_form;
      prf1 = c.prf1;
      prf2 = c.prf2;
      unfold_mode = c.unfold_mode;
      azimuth = c.azimuth;
      elevation = c.elevation;
      start_angle = c.start_angle;
      end_angle = c.end_angle;
      angular_resolution = c.angular_resolution;
      scan_speed = c.scan_speed;
      log_resolution = c.log_resolution;
      doppler_resolution = c.doppler_resolution;
      maximum_range1 = c.maximum_range1;
      maximum_range2 = c.maximum_range2;
      start_range = c.start_range;
      sample1 = c.sample1;
      sample2 = c.sample2;
      phase_mode = c.phase_mode;
      atmospheric_loss = c.atmospheric_loss;
      nyquist_speed = c.nyquist_speed;
      moments_mask = mask;
      size_mask = c.size_mask;
      filter_mask = c.filter_mask;
      sqi_threshold = c.sqi_threshold;
      sig_threshold = c.sig_threshold;
      csr_threshold = c.csr_threshold;
      log_threshold = c.log_threshold;
      cpa_threshold = c.cpa_threshold;
      pmi_threshold = c.pmi_threshold;
      dplog_threshold = c.dplog_threshold;
      thresholds_reserved = c.thresholds_reserved;
      db_mask = c.db_mask;
      dbz_mask = c.dbz_mask;
      velocity_mask = c.velocity_mask;
      spectrum_width_mask = c.spectrum_width_mask;
      dp_mask = c.dp_mask;
      mask_reserved = c.mask_reserved;
      scan_sync = c.scan_sync;
      direction = c.direction;
      clutter_classifier = c.clutter_classifier;
      clutter_filter = c.clutter_filter;
      clutter_notch_width = c.clutter_notch_width;
      clutter_window = c.clutter_window;
      reserved = c.reserved;
    }

-- a radial's record with another length of data and moment number (table 3-1)
abbrev pub with_moments : Radial → ℕ → ℕ → Radial
with_moments r length number =
    record {
      state = r.state;
      spot_blank = r.spot_blank;
      sequence = r.sequence;
      radial_number = r.radial_number;
      elevation_number = r.elevation_number;
      azimuth = r.azimuth;
      elevation = r.elevation;
      seconds = r.seconds;
      microseconds = r.microseconds;
      length_of_data = length;
      moment_number = number;
      reserved = r.reserved;
    }

-- ---- what is left

-- the moments whose type is wanted, as they are and in their order
abbrev pub only_moments : ℕ → List VolumeMoment → List VolumeMoment
only_moments wanted [] = []
only_moments wanted (p ∷ ps) = cond (bit wanted p.header.data_type) (p ∷ only_moments wanted ps) (only_moments wanted ps)

-- a radial with these: its length of data and its moment number are theirs
abbrev pub only_radial : ℕ → VolumeRadial → VolumeRadial
only_radial wanted b =
    record {
      header = with_moments b.header (tiled (only_moments wanted b.moments)) (length (only_moments wanted b.moments));
      moments = only_moments wanted b.moments;
    }

-- a cut with those bits of its moments mask that are wanted
abbrev pub only_cut : ℕ → Cut → Cut
only_cut wanted c = with_mask c (bit_and c.moments_mask wanted)

abbrev pub only_volume : ℕ → Volume → Volume
only_volume wanted v =
    record {
      generic = v.generic;
      site = v.site;
      task = v.task;
      cuts = map (only_cut wanted) v.cuts;
      layers = map (map (only_radial wanted)) v.layers;
    }

-- ---- every radial has a moment left

abbrev pub SomeLeft : ℕ → List VolumeRadial → Type 0
SomeLeft wanted [] = Unit {0}
SomeLeft wanted (b ∷ bs) = (only_moments wanted b.moments ≡ [] → ⊥) × SomeLeft wanted bs

abbrev pub AllLeft : ℕ → List (List VolumeRadial) → Type 0
AllLeft wanted [] = Unit {0}
AllLeft wanted (l ∷ ls) = SomeLeft wanted l × AllLeft wanted ls

-- The cut block (table 2-5): its 256 bytes as a record, and back, and the rules that it must meet.
use Rattle.std.specs.Prelude.{ℕ, ◌<◌, ◌^◌, ◌≡◌, length, pos}
use mathlib.Core.List.{List, [], ◌∷◌, ◌++◌}
use Rattle.le.specs.Le.{le, bytes, part, run, int}
use Rattle.rules.specs.Ranges.{among}
use Rattle.cut.specs.declared.Cut.{Cut}
use Rattle.rules.specs.Check.{Check}
use Rattle.rules.specs.Check.{Rule, rule, verdict}

-- how many bytes the block has (table 2-5)
abbrev pub cut_size : ℕ
cut_size = 256

-- the record that 256 bytes hold, each field at its place
unfoldable pub cut_of : List ℕ → Cut
cut_of b =
    record {
      process_mode = le 4 b 0;
      wave_form = le 4 b 4;
      prf1 = le 4 b 8;
      prf2 = le 4 b 12;
      unfold_mode = le 4 b 16;
      azimuth = le 4 b 20;
      elevation = le 4 b 24;
      start_angle = le 4 b 28;
      end_angle = le 4 b 32;
      angular_resolution = le 4 b 36;
      scan_speed = le 4 b 40;
      log_resolution = le 4 b 44;
      doppler_resolution = le 4 b 48;
      maximum_range1 = le 4 b 52;
      maximum_range2 = le 4 b 56;
      start_range = le 4 b 60;
      sample1 = le 4 b 64;
      sample2 = le 4 b 68;
      phase_mode = le 4 b 72;
      atmospheric_loss = le 4 b 76;
      nyquist_speed = le 4 b 80;
      moments_mask = le 8 b 84;
      size_mask = le 8 b 92;
      filter_mask = le 4 b 100;
      sqi_threshold = le 4 b 104;
      sig_threshold = le 4 b 108;
      csr_threshold = le 4 b 112;
      log_threshold = le 4 b 116;
      cpa_threshold = le 4 b 120;
      pmi_threshold = le 4 b 124;
      dplog_threshold = le 4 b 128;
      thresholds_reserved = le 4 b 132;
      db_mask = le 4 b 136;
      dbz_mask = le 4 b 140;
      velocity_mask = le 4 b 144;
      spectrum_width_mask = le 4 b 148;
      dp_mask = le 4 b 152;
      mask_reserved = part 12 b 156;
      scan_sync = le 4 b 168;
      direction = le 4 b 172;
      clutter_classifier = le 2 b 176;
      clutter_filter = le 2 b 178;
      clutter_notch_width = le 2 b 180;
      clutter_window = le 2 b 182;
      reserved = part 72 b 184;
    }

-- the record at place `at` of a file
unfoldable pub cut_at : List ℕ → ℕ → Cut
cut_at f at = cut_of (part cut_size f at)

-- the record's 256 bytes
unfoldable pub cut_bytes : Cut → List ℕ
cut_bytes r =
    run (bytes 4) (r.process_mode ∷ r.wave_form ∷ r.prf1 ∷ r.prf2 ∷ r.unfold_mode ∷ r.azimuth ∷ r.elevation ∷ r.start_angle ∷ r.end_angle ∷ r.angular_resolution ∷ r.scan_speed ∷ r.log_resolution ∷ r.doppler_resolution ∷ r.maximum_range1 ∷ r.maximum_range2 ∷ r.start_range ∷ r.sample1 ∷ r.sample2 ∷ r.phase_mode ∷ r.atmospheric_loss ∷ r.nyquist_speed ∷ [])
    ++ bytes 8 r.moments_mask
    ++ bytes 8 r.size_mask
    ++ run (bytes 4) (r.filter_mask ∷ r.sqi_threshold ∷ r.sig_threshold ∷ r.csr_threshold ∷ r.log_threshold ∷ r.cpa_threshold ∷ r.pmi_threshold ∷ r.dplog_threshold ∷ r.thresholds_reserved ∷ r.db_mask ∷ r.dbz_mask ∷ r.velocity_mask ∷ r.spectrum_width_mask ∷ r.dp_mask ∷ [])
    ++ r.mask_reserved
    ++ run (bytes 4) (r.scan_sync ∷ r.direction ∷ [])
    ++ run (bytes 2) (r.clutter_classifier ∷ r.clutter_filter ∷ r.clutter_notch_width ∷ r.clutter_window ∷ [])
    ++ r.reserved

-- the record is one that its type holds
pub record CutFits (r : Cut) : Type 0 where
  pub mask_reserved : length r.mask_reserved ≡ 12
  pub reserved : length r.reserved ≡ 72
  pub process_mode : r.process_mode < 256 ^ 4
  pub wave_form : r.wave_form < 256 ^ 4
  pub prf1 : r.prf1 < 256 ^ 4
  pub prf2 : r.prf2 < 256 ^ 4
  pub unfold_mode : r.unfold_mode < 256 ^ 4
  pub azimuth : r.azimuth < 256 ^ 4
  pub elevation : r.elevation < 256 ^ 4
  pub start_angle : r.start_angle < 256 ^ 4
  pub end_angle : r.end_angle < 256 ^ 4
  pub angular_resolution : r.angular_resolution < 256 ^ 4
  pub scan_speed : r.scan_speed < 256 ^ 4
  pub log_resolution : r.log_resolution < 256 ^ 4
  pub doppler_resolution : r.doppler_resolution < 256 ^ 4
  pub maximum_range1 : r.maximum_range1 < 256 ^ 4
  pub maximum_range2 : r.maximum_range2 < 256 ^ 4
  pub start_range : r.start_range < 256 ^ 4
  pub sample1 : r.sample1 < 256 ^ 4
  pub sample2 : r.sample2 < 256 ^ 4
  pub phase_mode : r.phase_mode < 256 ^ 4
  pub atmospheric_loss : r.atmospheric_loss < 256 ^ 4
  pub nyquist_speed : r.nyquist_speed < 256 ^ 4
  pub moments_mask : r.moments_mask < 256 ^ 8
  pub size_mask : r.size_mask < 256 ^ 8
  pub filter_mask : r.filter_mask < 256 ^ 4
  pub sqi_threshold : r.sqi_threshold < 256 ^ 4
  pub sig_threshold : r.sig_threshold < 256 ^ 4
  pub csr_threshold : r.csr_threshold < 256 ^ 4
  pub log_threshold : r.log_threshold < 256 ^ 4
  pub cpa_threshold : r.cpa_threshold < 256 ^ 4
  pub pmi_threshold : r.pmi_threshold < 256 ^ 4
  pub dplog_threshold : r.dplog_threshold < 256 ^ 4
  pub thresholds_reserved : r.thresholds_reserved < 256 ^ 4
  pub db_mask : r.db_mask < 256 ^ 4
  pub dbz_mask : r.dbz_mask < 256 ^ 4
  pub velocity_mask : r.velocity_mask < 256 ^ 4
  pub spectrum_width_mask : r.spectrum_width_mask < 256 ^ 4
  pub dp_mask : r.dp_mask < 256 ^ 4
  pub scan_sync : r.scan_sync < 256 ^ 4
  pub direction : r.direction < 256 ^ 4
  pub clutter_classifier : r.clutter_classifier < 256 ^ 2
  pub clutter_filter : r.clutter_filter < 256 ^ 2
  pub clutter_notch_width : r.clutter_notch_width < 256 ^ 2
  pub clutter_window : r.clutter_window < 256 ^ 2

-- its rules in byte order (table 2-5): place, size, number, clauses
abbrev pub cut_rules : Cut → List Rule
cut_rules r =
    -- process mode (table 2-5): 1..2
    rule 0 4 9 (among (pos 1) (pos 2) (int r.process_mode) ∷ [])
    -- wave form (table 2-5): 0..6
    ∷ rule 4 4 9 (among (pos 0) (pos 6) (int r.wave_form) ∷ [])
    -- unfold mode (table 2-5): 1..4
    ∷ rule 16 4 9 (among (pos 1) (pos 4) (int r.unfold_mode) ∷ [])
    -- log resolution (table 2-5): 1..5000
    ∷ rule 44 4 9 (among (pos 1) (pos 5000) (int r.log_resolution) ∷ [])
    -- doppler resolution (table 2-5): 1..5000
    ∷ rule 48 4 9 (among (pos 1) (pos 5000) (int r.doppler_resolution) ∷ [])
    -- phase mode (table 2-5): 1..3
    ∷ rule 72 4 9 (among (pos 1) (pos 3) (int r.phase_mode) ∷ [])
    ∷ []

unfoldable pub cut_check : Cut → Check
cut_check r = verdict (cut_rules r)

-- The cut block (table 2-5): record to bytes to record, bytes to record to bytes, and how many
-- bytes there are. Assumes nothing.
use mathlib.Core.Path.{◌≡◌, refl, sym, ap, ◌∙◌}
use mathlib.Core.List.{List, [], ◌∷◌, ◌++◌}
use Prim.Native.Nat.{ℕ}
use native.Mathlib.Omega.{arith}
use lib.ListN.{length, length-append}
use Rattle.le.specs.Le.{le, bytes, part, run, items, Bytes}
use Rattle.le.proofs.Laws.{length-bytes, le_bytes, bytes_le, part-all, join, run-numbers, length_part, le-lt}
use Rattle.le.proofs.Coded.{Coded}
use Rattle.cut.specs.Cut.{cut_of, cut_bytes, cut_size, CutFits}
use Rattle.cut.specs.declared.Cut.{Cut}

-- the record's bytes, with other lists for those that stand before its end
abbrev bytes_with : Cut → List ℕ → List ℕ
bytes_with r l0 =
    run (bytes 4) (r.process_mode ∷ r.wave_form ∷ r.prf1 ∷ r.prf2 ∷ r.unfold_mode ∷ r.azimuth ∷ r.elevation ∷ r.start_angle ∷ r.end_angle ∷ r.angular_resolution ∷ r.scan_speed ∷ r.log_resolution ∷ r.doppler_resolution ∷ r.maximum_range1 ∷ r.maximum_range2 ∷ r.start_range ∷ r.sample1 ∷ r.sample2 ∷ r.phase_mode ∷ r.atmospheric_loss ∷ r.nyquist_speed ∷ [])
    ++ bytes 8 r.moments_mask
    ++ bytes 8 r.size_mask
    ++ run (bytes 4) (r.filter_mask ∷ r.sqi_threshold ∷ r.sig_threshold ∷ r.csr_threshold ∷ r.log_threshold ∷ r.cpa_threshold ∷ r.pmi_threshold ∷ r.dplog_threshold ∷ r.thresholds_reserved ∷ r.db_mask ∷ r.dbz_mask ∷ r.velocity_mask ∷ r.spectrum_width_mask ∷ r.dp_mask ∷ [])
    ++ l0
    ++ run (bytes 4) (r.scan_sync ∷ r.direction ∷ [])
    ++ run (bytes 2) (r.clutter_classifier ∷ r.clutter_filter ∷ r.clutter_notch_width ∷ r.clutter_window ∷ [])
    ++ r.reserved

pub there_and_back : (r : Cut) → CutFits r → cut_of (cut_bytes r) ≡ r
unfolding cut_of cut_bytes le bytes run part
there_and_back r h =
    let m0 = sym (part-all 12 r.mask_reserved h.mask_reserved) in
    let e0 = ap (λ (l : List ℕ). cut_of (bytes_with r l)) m0 in
    e0 ∙ (λ i. record {
      process_mode = le_bytes 4 r.process_mode [] h.process_mode i;
      wave_form = le_bytes 4 r.wave_form [] h.wave_form i;
      prf1 = le_bytes 4 r.prf1 [] h.prf1 i;
      prf2 = le_bytes 4 r.prf2 [] h.prf2 i;
      unfold_mode = le_bytes 4 r.unfold_mode [] h.unfold_mode i;
      azimuth = le_bytes 4 r.azimuth [] h.azimuth i;
      elevation = le_bytes 4 r.elevation [] h.elevation i;
      start_angle = le_bytes 4 r.start_angle [] h.start_angle i;
      end_angle = le_bytes 4 r.end_angle [] h.end_angle i;
      angular_resolution = le_bytes 4 r.angular_resolution [] h.angular_resolution i;
      scan_speed = le_bytes 4 r.scan_speed [] h.scan_speed i;
      log_resolution = le_bytes 4 r.log_resolution [] h.log_resolution i;
      doppler_resolution = le_bytes 4 r.doppler_resolution [] h.doppler_resolution i;
      maximum_range1 = le_bytes 4 r.maximum_range1 [] h.maximum_range1 i;
      maximum_range2 = le_bytes 4 r.maximum_range2 [] h.maximum_range2 i;
      start_range = le_bytes 4 r.start_range [] h.start_range i;
      sample1 = le_bytes 4 r.sample1 [] h.sample1 i;
      sample2 = le_bytes 4 r.sample2 [] h.sample2 i;
      phase_mode = le_bytes 4 r.phase_mode [] h.phase_mode i;
      atmospheric_loss = le_bytes 4 r.atmospheric_loss [] h.atmospheric_loss i;
      nyquist_speed = le_bytes 4 r.nyquist_speed [] h.nyquist_speed i;
      moments_mask = le_bytes 8 r.moments_mask [] h.moments_mask i;
      size_mask = le_bytes 8 r.size_mask [] h.size_mask i;
      filter_mask = le_bytes 4 r.filter_mask [] h.filter_mask i;
      sqi_threshold = le_bytes 4 r.sqi_threshold [] h.sqi_threshold i;
      sig_threshold = le_bytes 4 r.sig_threshold [] h.sig_threshold i;
      csr_threshold = le_bytes 4 r.csr_threshold [] h.csr_threshold i;
      log_threshold = le_bytes 4 r.log_threshold [] h.log_threshold i;
      cpa_threshold = le_bytes 4 r.cpa_threshold [] h.cpa_threshold i;
      pmi_threshold = le_bytes 4 r.pmi_threshold [] h.pmi_threshold i;
      dplog_threshold = le_bytes 4 r.dplog_threshold [] h.dplog_threshold i;
      thresholds_reserved = le_bytes 4 r.thresholds_reserved [] h.thresholds_reserved i;
      db_mask = le_bytes 4 r.db_mask [] h.db_mask i;
      dbz_mask = le_bytes 4 r.dbz_mask [] h.dbz_mask i;
      velocity_mask = le_bytes 4 r.velocity_mask [] h.velocity_mask i;
      spectrum_width_mask = le_bytes 4 r.spectrum_width_mask [] h.spectrum_width_mask i;
      dp_mask = le_bytes 4 r.dp_mask [] h.dp_mask i;
      mask_reserved = sym m0 i;
      scan_sync = le_bytes 4 r.scan_sync [] h.scan_sync i;
      direction = le_bytes 4 r.direction [] h.direction i;
      clutter_classifier = le_bytes 2 r.clutter_classifier [] h.clutter_classifier i;
      clutter_filter = le_bytes 2 r.clutter_filter [] h.clutter_filter i;
      clutter_notch_width = le_bytes 2 r.clutter_notch_width [] h.clutter_notch_width i;
      clutter_window = le_bytes 2 r.clutter_window [] h.clutter_window i;
      reserved = part-all 72 r.reserved h.reserved i;
    })

pub back-and-there : (b : List ℕ) → Bytes b → length b ≡ cut_size → cut_bytes (cut_of b) ≡ b
unfolding cut_of cut_bytes items
back-and-there b bs n =
    (join b 184 72 (join b 176 8 (join b 168 8 (join b 156 12 (join b 100 56 (join b 92 8 (join b 84 8 (run-numbers 4 21 b 0 bs)
    (bytes_le 8 b 84 bs))
    (bytes_le 8 b 92 bs))
    (run-numbers 4 14 b 100 bs))
    refl)
    (run-numbers 4 2 b 168 bs))
    (run-numbers 2 4 b 176 bs))
    refl)
    ∙ part-all 256 b n

-- how long a record's bytes are
pub length-is : (r : Cut) → CutFits r → length (cut_bytes r) ≡ cut_size
unfolding cut_bytes run
length-is r h = simp (length-append, length-bytes) (omega arith)

-- what bytes hold fits the record
pub fits-of : (b : List ℕ) → Bytes b → CutFits (cut_of b)
unfolding cut_of
fits-of b bs = search (le-lt, length_part)

abbrev pub coded : Coded Cut
coded =
    record { size = cut_size; enc = cut_bytes; dec = cut_of; Fits = CutFits; back = there_and_back; there = back-and-there; long = length-is; fits = fits-of }

-- Each call lays the next run behind those that stand already. Assumes nothing.
use mathlib.Core.List.{[], ◌∷◌}
use native.Mathlib.Omega.{arith}
use Rattle.le.specs.Le.{bytes, run}
use Rattle.le.proofs.Laws.{length-bytes, length_run, Laid, laid-first, laid_next}
use Rattle.cut.specs.Cut.{cut_bytes}
use Rattle.cut.proofs.Cut.write_here.Goals as goal

stands : (c : goal.After-slice_known-9-1) → Laid c.args.room.now c.args.at c.put_bytes-2.new.room 256 (cut_bytes c.args.self)
unfolding cut_bytes
stands c =
    let r = c.args.self in
    let fits = c.requires in
    let l0 = laid-first c.args.at 84 c.put_words.ensures (length_run (bytes 4) 4 (length-bytes 4) (r.process_mode ∷ r.wave_form ∷ r.prf1 ∷ r.prf2 ∷ r.unfold_mode ∷ r.azimuth ∷ r.elevation ∷ r.start_angle ∷ r.end_angle ∷ r.angular_resolution ∷ r.scan_speed ∷ r.log_resolution ∷ r.doppler_resolution ∷ r.maximum_range1 ∷ r.maximum_range2 ∷ r.start_range ∷ r.sample1 ∷ r.sample2 ∷ r.phase_mode ∷ r.atmospheric_loss ∷ r.nyquist_speed ∷ [])) (omega arith) in
    let l1 = laid_next 8 (bytes 8 r.moments_mask) l0 c.put_u64.ensures (length-bytes 8 r.moments_mask) (omega arith) in
    let l2 = laid_next 8 (bytes 8 r.size_mask) l1 c.put_u64-2.ensures (length-bytes 8 r.size_mask) (omega arith) in
    let l3 = laid_next 56 (run (bytes 4) (r.filter_mask ∷ r.sqi_threshold ∷ r.sig_threshold ∷ r.csr_threshold ∷ r.log_threshold ∷ r.cpa_threshold ∷ r.pmi_threshold ∷ r.dplog_threshold ∷ r.thresholds_reserved ∷ r.db_mask ∷ r.dbz_mask ∷ r.velocity_mask ∷ r.spectrum_width_mask ∷ r.dp_mask ∷ [])) l2 c.put_words-2.ensures (length_run (bytes 4) 4 (length-bytes 4) (r.filter_mask ∷ r.sqi_threshold ∷ r.sig_threshold ∷ r.csr_threshold ∷ r.log_threshold ∷ r.cpa_threshold ∷ r.pmi_threshold ∷ r.dplog_threshold ∷ r.thresholds_reserved ∷ r.db_mask ∷ r.dbz_mask ∷ r.velocity_mask ∷ r.spectrum_width_mask ∷ r.dp_mask ∷ [])) (omega arith) in
    let l4 = laid_next 12 r.mask_reserved l3 c.put_bytes.ensures.stored c.put_bytes.ensures.len (omega arith) in
    let l5 = laid_next 8 (run (bytes 4) (r.scan_sync ∷ r.direction ∷ [])) l4 c.put_words-3.ensures (length_run (bytes 4) 4 (length-bytes 4) (r.scan_sync ∷ r.direction ∷ [])) (omega arith) in
    let l6 = laid_next 8 (run (bytes 2) (r.clutter_classifier ∷ r.clutter_filter ∷ r.clutter_notch_width ∷ r.clutter_window ∷ [])) l5 c.put_halves.ensures (length_run (bytes 2) 2 (length-bytes 2) (r.clutter_classifier ∷ r.clutter_filter ∷ r.clutter_notch_width ∷ r.clutter_window ∷ [])) (omega arith) in
    let l7 = laid_next 72 r.reserved l6 c.put_bytes-2.ensures.stored c.put_bytes-2.ensures.len (omega arith) in
    l7

pub shape_of-room : goal.shape_of-room
shape_of-room c = (stands c).same

pub returns : goal.returns
returns c = (stands c).is

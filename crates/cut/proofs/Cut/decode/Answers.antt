-- Each field is what its call ensures. Assumes nothing.
use Rattle.cut.specs.Cut.{cut_of}
use Rattle.cut.proofs.Cut.decode.Goals as goal

pub returns : goal.returns
unfolding cut_of
returns c =
    λ i. record {
      process_mode = c.u32_at.ensures i;
      wave_form = c.u32_at-2.ensures i;
      prf1 = c.u32_at-3.ensures i;
      prf2 = c.u32_at-4.ensures i;
      unfold_mode = c.u32_at-5.ensures i;
      azimuth = c.u32_at-6.ensures i;
      elevation = c.u32_at-7.ensures i;
      start_angle = c.u32_at-8.ensures i;
      end_angle = c.u32_at-9.ensures i;
      angular_resolution = c.u32_at-10.ensures i;
      scan_speed = c.u32_at-11.ensures i;
      log_resolution = c.u32_at-12.ensures i;
      doppler_resolution = c.u32_at-13.ensures i;
      maximum_range1 = c.u32_at-14.ensures i;
      maximum_range2 = c.u32_at-15.ensures i;
      start_range = c.u32_at-16.ensures i;
      sample1 = c.u32_at-17.ensures i;
      sample2 = c.u32_at-18.ensures i;
      phase_mode = c.u32_at-19.ensures i;
      atmospheric_loss = c.u32_at-20.ensures i;
      nyquist_speed = c.u32_at-21.ensures i;
      moments_mask = c.u64_at.ensures i;
      size_mask = c.u64_at-2.ensures i;
      filter_mask = c.u32_at-22.ensures i;
      sqi_threshold = c.u32_at-23.ensures i;
      sig_threshold = c.u32_at-24.ensures i;
      csr_threshold = c.u32_at-25.ensures i;
      log_threshold = c.u32_at-26.ensures i;
      cpa_threshold = c.u32_at-27.ensures i;
      pmi_threshold = c.u32_at-28.ensures i;
      dplog_threshold = c.u32_at-29.ensures i;
      thresholds_reserved = c.u32_at-30.ensures i;
      db_mask = c.u32_at-31.ensures i;
      dbz_mask = c.u32_at-32.ensures i;
      velocity_mask = c.u32_at-33.ensures i;
      spectrum_width_mask = c.u32_at-34.ensures i;
      dp_mask = c.u32_at-35.ensures i;
      mask_reserved = c.bytes_at.ensures i;
      scan_sync = c.u32_at-36.ensures i;
      direction = c.u32_at-37.ensures i;
      clutter_classifier = c.u16_at.ensures i;
      clutter_filter = c.u16_at-2.ensures i;
      clutter_notch_width = c.u16_at-3.ensures i;
      clutter_window = c.u16_at-4.ensures i;
      reserved = c.bytes_at-2.ensures i;
    }

-- Document 01's small volume ("Numbers to try") is a volume: the definition holds of something. Assumes nothing.
use Prim.Native.Nat.{ℕ, ◌<◌, ◌^◌}
use native.Mathlib.Omega.{arith}
use mathlib.Core.Path.{◌≡◌, refl}
use mathlib.Core.List.{[], ◌∷◌}
use lib.Dec.{lit<}
use lib.Ieee.{le, of_int, of_bits}
use lib.ListN.{length}
use Rattle.le.specs.Le.{bytes, part, run}
use Rattle.le.proofs.Laws.{length_part}
use Rattle.rules.specs.Check.{Hold, also, verdict}
use Rattle.std.specs.Prelude.{Ok}
use Rattle.rules.proofs.Judged.{all_hold}
use Rattle.rules.specs.Ranges.{among, within, not_below_zero, count_clauses, between, angle}
use Rattle.rules.specs.States.{rhi, most_cuts, cut_number_clauses, opening, closing, state_ok}
use Rattle.rules.specs.Masks.{bit, with_bit, type_clauses, bin_length_clauses}
use Rattle.rules.specs.Tiling.{moment_number_clauses, tiles, length_clauses}
use Rattle.generic.specs.declared.Generic.{Generic}
use Rattle.generic.specs.Generic.{generic_bytes, generic_rules, GenericFits}
use Rattle.site.specs.declared.Site.{Site}
use Rattle.site.specs.Site.{site_bytes, site_rules, SiteFits}
use Rattle.task.specs.declared.Task.{Task}
use Rattle.task.specs.Task.{task_bytes, task_rules, TaskFits}
use Rattle.cut.specs.declared.Cut.{Cut}
use Rattle.cut.specs.Cut.{cut_bytes, cut_rules, CutFits}
use Rattle.radial.specs.declared.Radial.{Radial}
use Rattle.radial.specs.Radial.{radial_bytes, radial_rules, RadialFits}
use Rattle.moment.specs.declared.Moment.{Moment}
use Rattle.moment.specs.Moment.{moment_bytes, moment_rules, MomentFits}
use Rattle.volume.specs.Volume.{VolumeRadial, Volume, IsVolume, RadialOk, judged, judged_radial, bytes_of_volume}
use Rattle.volume.proofs.Meaning.{reads}
use Rattle.reading.specs.Reading.{plain_told, plain_stretches}

unfoldable pub small-generic : Generic
small-generic =
    record { magic = 0x4D545352; major = 0; minor = 0; generic_type = 1; product_type = 0; reserved = part 16 [] 0 }

unfoldable pub small-site : Site
small-site =
    record { code = part 8 [] 0; name = part 32 [] 0; latitude = 0; longitude = 0; antenna_height = 0; ground_height = 0; frequency = 0; beam_width_h = 0; beam_width_v = 0; rda_version = 0; radar_type = 0; reserved = part 54 [] 0 }

unfoldable pub small-task : ℕ → Task
small-task cuts =
    record { name = part 32 [] 0; description = part 128 [] 0; polarization = 1; scan_type = 0; pulse_width = 0; start_time = 0; cut_number = cuts; noise_h = 0; noise_v = 0; calibration_h = 0; calibration_v = 0; noise_temperature_h = 0; noise_temperature_v = 0; zdr_calibration = 0; phase_calibration = 0; ldr_calibration = 0; reserved = part 40 [] 0 }

unfoldable pub small_cut : ℕ → Cut
small_cut mask =
    record { process_mode = 1; wave_form = 0; prf1 = 0; prf2 = 0; unfold_mode = 1; azimuth = 0; elevation = 0; start_angle = 0; end_angle = 0; angular_resolution = 0; scan_speed = 0; log_resolution = 1; doppler_resolution = 1; maximum_range1 = 0; maximum_range2 = 0; start_range = 0; sample1 = 0; sample2 = 0; phase_mode = 1; atmospheric_loss = 0; nyquist_speed = 0; moments_mask = mask; size_mask = 0; filter_mask = 0; sqi_threshold = 0; sig_threshold = 0; csr_threshold = 0; log_threshold = 0; cpa_threshold = 0; pmi_threshold = 0; dplog_threshold = 0; thresholds_reserved = 0; db_mask = 0; dbz_mask = 0; velocity_mask = 0; spectrum_width_mask = 0; dp_mask = 0; mask_reserved = part 12 [] 0; scan_sync = 0; direction = 0; clutter_classifier = 0; clutter_filter = 0; clutter_notch_width = 0; clutter_window = 0; reserved = part 72 [] 0 }

unfoldable pub small-radial : ℕ → ℕ → ℕ → ℕ → Radial
small-radial state n i k =
    record { state = state; spot_blank = 0; sequence = n; radial_number = i; elevation_number = k; azimuth = 0; elevation = 0; seconds = 0; microseconds = 0; length_of_data = 36; moment_number = 1; reserved = part 20 [] 0 }

unfoldable pub small-moment : ℕ → Moment
small-moment type =
    record { data_type = type; scale = 2; offset = 66; bin_length = 1; flags = 0; length = 4; reserved = part 12 [] 0 }

-- radial n of the volume and number i of cut k, with one moment
unfoldable pub small-whole : ℕ → ℕ → ℕ → ℕ → ℕ → VolumeRadial
small-whole state n i k type =
    record { header = small-radial state n i k; moments = record { header = small-moment type; bytes = 0 ∷ 1 ∷ 66 ∷ 255 ∷ [] } ∷ [] }

unfoldable pub small : Volume
small =
    record {
      generic = small-generic;
      site = small-site;
      task = small-task 1;
      cuts = small_cut 2 ∷ [];
      layers = (small-whole 3 1 1 1 2 ∷ small-whole 4 2 2 1 2 ∷ []) ∷ [];
    }

-- and one of two cuts, whose masks have no type in common
unfoldable pub two : Volume
two =
    record {
      generic = small-generic;
      site = small-site;
      task = small-task 2;
      cuts = small_cut 2 ∷ small_cut 1 ∷ [];
      layers = (small-whole 3 1 1 1 2 ∷ small-whole 2 2 2 1 2 ∷ []) ∷ (small-whole 0 3 1 2 1 ∷ small-whole 4 4 2 2 1 ∷ []) ∷ [];
    }

generic-fits : GenericFits small-generic
unfolding small-generic
generic-fits = record { magic = lit< tt; major = lit< tt; minor = lit< tt; generic_type = lit< tt; product_type = lit< tt; reserved = length_part 16 [] 0 }

site-fits : SiteFits small-site
unfolding small-site
site-fits = record { code = length_part 8 [] 0; name = length_part 32 [] 0; latitude = lit< tt; longitude = lit< tt; antenna_height = lit< tt; ground_height = lit< tt; frequency = lit< tt; beam_width_h = lit< tt; beam_width_v = lit< tt; rda_version = lit< tt; radar_type = lit< tt; reserved = length_part 54 [] 0 }

task-fits : (n : ℕ) → n < 256 ^ 4 → TaskFits (small-task n)
unfolding small-task
task-fits n h = record { name = length_part 32 [] 0; description = length_part 128 [] 0; polarization = lit< tt; scan_type = lit< tt; pulse_width = lit< tt; start_time = lit< tt; cut_number = h; noise_h = lit< tt; noise_v = lit< tt; calibration_h = lit< tt; calibration_v = lit< tt; noise_temperature_h = lit< tt; noise_temperature_v = lit< tt; zdr_calibration = lit< tt; phase_calibration = lit< tt; ldr_calibration = lit< tt; reserved = length_part 40 [] 0 }

cut_fits : (mask : ℕ) → mask < 256 ^ 8 → CutFits (small_cut mask)
unfolding small_cut
cut_fits mask h = record { process_mode = lit< tt; wave_form = lit< tt; prf1 = lit< tt; prf2 = lit< tt; unfold_mode = lit< tt; azimuth = lit< tt; elevation = lit< tt; start_angle = lit< tt; end_angle = lit< tt; angular_resolution = lit< tt; scan_speed = lit< tt; log_resolution = lit< tt; doppler_resolution = lit< tt; maximum_range1 = lit< tt; maximum_range2 = lit< tt; start_range = lit< tt; sample1 = lit< tt; sample2 = lit< tt; phase_mode = lit< tt; atmospheric_loss = lit< tt; nyquist_speed = lit< tt; moments_mask = h; size_mask = lit< tt; filter_mask = lit< tt; sqi_threshold = lit< tt; sig_threshold = lit< tt; csr_threshold = lit< tt; log_threshold = lit< tt; cpa_threshold = lit< tt; pmi_threshold = lit< tt; dplog_threshold = lit< tt; thresholds_reserved = lit< tt; db_mask = lit< tt; dbz_mask = lit< tt; velocity_mask = lit< tt; spectrum_width_mask = lit< tt; dp_mask = lit< tt; mask_reserved = length_part 12 [] 0; scan_sync = lit< tt; direction = lit< tt; clutter_classifier = lit< tt; clutter_filter = lit< tt; clutter_notch_width = lit< tt; clutter_window = lit< tt; reserved = length_part 72 [] 0 }

moment-fits : (type : ℕ) → type < 256 ^ 4 → MomentFits (small-moment type)
unfolding small-moment
moment-fits type h = record { data_type = h; scale = lit< tt; offset = lit< tt; bin_length = lit< tt; flags = lit< tt; length = lit< tt; reserved = length_part 12 [] 0 }

radial-fits : (state n i k : ℕ) → state < 256 ^ 4 → n < 256 ^ 4 → i < 256 ^ 4 → k < 256 ^ 4 → RadialFits (small-radial state n i k)
unfolding small-radial
radial-fits state n i k hs hn hi hk = record { state = hs; spot_blank = lit< tt; sequence = hn; radial_number = hi; elevation_number = hk; azimuth = lit< tt; elevation = lit< tt; seconds = lit< tt; microseconds = lit< tt; length_of_data = lit< tt; moment_number = lit< tt; reserved = length_part 20 [] 0 }

-- the blocks before the radials keep their rules
head : Hold (generic_rules small-generic) × Hold (site_rules small-site) × Hold (task_rules (small-task 1)) × Hold (task_rules (small-task 2))
unfolding small-generic small-site small-task among angle between le of_int of_bits not_below_zero cut_number_clauses most_cuts also
head = (
  all_hold (generic_rules small-generic) refl,
  all_hold (site_rules small-site) refl,
  all_hold (task_rules (small-task 1)) refl,
  all_hold (task_rules (small-task 2)) refl,
)

cut-rules : (mask : ℕ) → Hold (cut_rules (small_cut mask))
unfolding small_cut among also
cut-rules mask = all_hold (cut_rules (small_cut mask)) refl

-- a radial of these numbers is one of its cut where its header and its moment keep their rules
radial-ok : (cuts mask k before in_cut state n i type : ℕ) → RadialFits (small-radial state n i k) → MomentFits (small-moment type)
    → verdict (radial_rules (small-radial state n i k) (judged_radial (small-task cuts) k before in_cut)) ≡ (Ok tt)
    → verdict (moment_rules (small-moment type) (judged (small_cut mask) (small-radial state n i k) [])) ≡ (Ok tt)
    → RadialOk (small-task cuts) (small_cut mask) k before in_cut (small-whole state n i k type)
unfolding small-whole small-radial small-moment
radial-ok cuts mask k before in_cut state n i type fits fit r m =
    let against = judged_radial (small-task cuts) k before in_cut in
    let due = judged (small_cut mask) (small-radial state n i k) [] in
    record {
      fits = fits;
      rules = all_hold (radial_rules (small-radial state n i k) against) r;
      count = refl;
      moments = (fit, all_hold (moment_rules (small-moment type) due) m, refl, tt);
    }

-- the two radials of the small volume, and the four of the other
pub record Radials : Type 0 where
  pub first : RadialOk (small-task 1) (small_cut 2) 1 0 0 (small-whole 3 1 1 1 2)
  pub second : RadialOk (small-task 1) (small_cut 2) 1 1 1 (small-whole 4 2 2 1 2)
  pub opens : RadialOk (small-task 2) (small_cut 2) 1 0 0 (small-whole 3 1 1 1 2)
  pub closes : RadialOk (small-task 2) (small_cut 2) 1 1 1 (small-whole 2 2 2 1 2)
  pub opens-next : RadialOk (small-task 2) (small_cut 1) 2 2 0 (small-whole 0 3 1 2 1)
  pub closes-last : RadialOk (small-task 2) (small_cut 1) 2 3 1 (small-whole 4 4 2 2 1)

pub small-radials-ok : Radials
unfolding small-task small_cut small-radial small-moment also among not_below_zero count_clauses angle between le of_int of_bits state_ok opening closing rhi moment_number_clauses type_clauses bit within with_bit bin_length_clauses length_clauses tiles
small-radials-ok =
    record {
      first = radial-ok 1 2 1 0 0 3 1 1 2 (radial-fits 3 1 1 1 (lit< tt) (lit< tt) (lit< tt) (lit< tt)) (moment-fits 2 (lit< tt)) refl refl;
      second = radial-ok 1 2 1 1 1 4 2 2 2 (radial-fits 4 2 2 1 (lit< tt) (lit< tt) (lit< tt) (lit< tt)) (moment-fits 2 (lit< tt)) refl refl;
      opens = radial-ok 2 2 1 0 0 3 1 1 2 (radial-fits 3 1 1 1 (lit< tt) (lit< tt) (lit< tt) (lit< tt)) (moment-fits 2 (lit< tt)) refl refl;
      closes = radial-ok 2 2 1 1 1 2 2 2 2 (radial-fits 2 2 2 1 (lit< tt) (lit< tt) (lit< tt) (lit< tt)) (moment-fits 2 (lit< tt)) refl refl;
      opens-next = radial-ok 2 1 2 2 0 0 3 1 1 (radial-fits 0 3 1 2 (lit< tt) (lit< tt) (lit< tt) (lit< tt)) (moment-fits 1 (lit< tt)) refl refl;
      closes-last = radial-ok 2 1 2 3 1 4 4 2 1 (radial-fits 4 4 2 2 (lit< tt) (lit< tt) (lit< tt) (lit< tt)) (moment-fits 1 (lit< tt)) refl refl;
    }

pub small_is : IsVolume small
unfolding small small-task small-whole small-radial closing rhi among
small_is =
    record {
      headed =
          record {
            generic = (generic-fits, head.0);
            site = (site-fits, head.1);
            task = (task-fits 1 (lit< tt), head.2);
            number = refl;
            cuts = (cut_fits 2 (lit< tt), cut-rules 2, tt);
          };
      layers = ((small-radials-ok.first, (λ e. omega arith), (small-radials-ok.second, refl)), tt);
    }

pub two_is : IsVolume two
unfolding two small-task small-whole small-radial closing rhi among
two_is =
    record {
      headed =
          record {
            generic = (generic-fits, head.0);
            site = (site-fits, head.1);
            task = (task-fits 2 (lit< tt), head.3);
            number = refl;
            cuts = (cut_fits 2 (lit< tt), cut-rules 2, (cut_fits 1 (lit< tt), cut-rules 1, tt));
          };
      layers = ((small-radials-ok.opens, (λ e. omega arith), (small-radials-ok.closes, refl)), ((small-radials-ok.opens-next, (λ e. omega arith), (small-radials-ok.closes-last, refl)), tt));
    }

-- so it is complete, and has its two radials where document 01 lists them
pub small-length : length (bytes_of_volume small) ≡ 872
unfolding small small-generic small-site small-task small_cut small-whole small-radial small-moment generic_bytes site_bytes task_bytes cut_bytes radial_bytes moment_bytes run bytes part
small-length = refl

pub small-told : plain_told (bytes_of_volume small) ≡ 0 ∷ []
small-told = (reads small small_is).complete

pub small-radials : plain_stretches (bytes_of_volume small) ≡ record { start = 672; end = 772; cut = 1 } ∷ record { start = 772; end = 872; cut = 1 } ∷ []
unfolding small small-whole small-radial small-moment radial_bytes moment_bytes run bytes part
small-radials = (reads small small_is).radials

-- the two cuts' radials, each judged by its own cut
pub two-told : plain_told (bytes_of_volume two) ≡ 0 ∷ []
two-told = (reads two two_is).complete

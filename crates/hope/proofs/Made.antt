-- Blocks that can be put where hope is left, one of each kind: their records fit, keep their rules, and are bytes. Assumes nothing.
use Prim.Native.Nat.{ℕ, zero, suc, ◌/◌, ◌%◌, ◌<◌}
use native.Mathlib.Omega.{arith}
use mathlib.Core.Path.{◌≡◌, refl, ap}
use mathlib.Core.List.{List, [], ◌∷◌, ◌++◌}
use lib.Dec.{lit<}
use lib.ListN.{length, get_or}
use Rattle.le.specs.Le.{bytes, run, Bytes}
use Rattle.std.specs.Prelude.{Ok}
use Rattle.rules.specs.Ranges.{among, not_below_zero, on_bits}
use Rattle.rules.specs.States.{rhi, most_cuts, cut_number_clauses}
use Rattle.rules.proofs.Judged.{fine-if}
use Rattle.rules.proofs.Four.{latitude, longitude}
use Rattle.generic.specs.declared.Generic.{Generic}
use Rattle.site.specs.declared.Site.{Site}
use Rattle.task.specs.declared.Task.{Task}
use Rattle.cut.specs.declared.Cut.{Cut}
use Rattle.generic.specs.Generic.{generic_check, generic_rules, generic_bytes, GenericFits}
use Rattle.site.specs.Site.{site_check, site_rules, site_bytes, SiteFits}
use Rattle.task.specs.Task.{task_check, task_rules, task_bytes, TaskFits}
use Rattle.cut.specs.Cut.{cut_check, cut_rules, cut_bytes, CutFits}

-- ---- bytes

pub none-bytes : Bytes []
none-bytes = record { byte = λ i. lit< tt }

pub more_bytes : (x : ℕ) (l : List ℕ) → x < 256 → Bytes l → Bytes (x ∷ l)
more_bytes x l h b = record { byte = go }
  where
    go : (i : ℕ) → get_or (x ∷ l) i 0 < 256
    go zero = h
    go (suc i) = b.byte i

pub append-bytes : (a b : List ℕ) → Bytes a → Bytes b → Bytes (a ++ b)
append-bytes [] b x y = y
append-bytes (h ∷ a) b x y = more_bytes h (a ++ b) (x.byte 0) (append-bytes a b (record { byte = λ i. x.byte (suc i) }) y)

pub number-bytes : (n x : ℕ) → Bytes (bytes n x)
unfolding bytes
number-bytes zero x = none-bytes
number-bytes (suc n) x = more_bytes (x % 256) (bytes n (x / 256)) (omega arith) (number-bytes n (x / 256))

pub run-bytes : (n : ℕ) (l : List ℕ) → Bytes (run (bytes n) l)
unfolding run
run-bytes n [] = none-bytes
run-bytes n (x ∷ l) = append-bytes (bytes n x) (run (bytes n) l) (number-bytes n x) (run-bytes n l)

unfoldable pub zeros : ℕ → List ℕ
zeros zero = []
zeros (suc n) = 0 ∷ zeros n

pub zeros-length : (n : ℕ) → length (zeros n) ≡ n
unfolding zeros
zeros-length zero = refl
zeros-length (suc n) = ap suc (zeros-length n)

pub zeros-bytes : (n : ℕ) → Bytes (zeros n)
unfolding zeros
zeros-bytes zero = none-bytes
zeros-bytes (suc n) = more_bytes 0 (zeros n) (lit< tt) (zeros-bytes n)

-- ---- the blocks before the radials: a task of one cut, and a cut of type 1

abbrev pub the_generic : Generic
the_generic = record { magic = 0x4D545352; major = 0; minor = 0; generic_type = 1; product_type = 0; reserved = zeros 16 }

pub generic-fits : GenericFits the_generic
generic-fits = search (zeros-length, lit<)

abbrev pub the_site : Site
the_site = record { code = zeros 8; name = zeros 32; latitude = 0; longitude = 0; antenna_height = 0; ground_height = 0; frequency = 0; beam_width_h = 0; beam_width_v = 0; rda_version = 0; radar_type = 0; reserved = zeros 54 }

pub site-fits : SiteFits the_site
site-fits = search (zeros-length, lit<)

abbrev pub the_task : Task
the_task = record { name = zeros 32; description = zeros 128; polarization = 1; scan_type = 0; pulse_width = 0; start_time = 0; cut_number = 1; noise_h = 0; noise_v = 0; calibration_h = 0; calibration_v = 0; noise_temperature_h = 0; noise_temperature_v = 0; zdr_calibration = 0; phase_calibration = 0; ldr_calibration = 0; reserved = zeros 40 }

pub task-fits : TaskFits the_task
task-fits = search (zeros-length, lit<)

abbrev pub the_cut : Cut
the_cut = record { process_mode = 1; wave_form = 0; prf1 = 0; prf2 = 0; unfold_mode = 1; azimuth = 0; elevation = 0; start_angle = 0; end_angle = 0; angular_resolution = 0; scan_speed = 0; log_resolution = 1; doppler_resolution = 1; maximum_range1 = 0; maximum_range2 = 0; start_range = 0; sample1 = 0; sample2 = 0; phase_mode = 1; atmospheric_loss = 0; nyquist_speed = 0; moments_mask = 1; size_mask = 0; filter_mask = 0; sqi_threshold = 0; sig_threshold = 0; csr_threshold = 0; log_threshold = 0; cpa_threshold = 0; pmi_threshold = 0; dplog_threshold = 0; thresholds_reserved = 0; db_mask = 0; dbz_mask = 0; velocity_mask = 0; spectrum_width_mask = 0; dp_mask = 0; mask_reserved = zeros 12; scan_sync = 0; direction = 0; clutter_classifier = 0; clutter_filter = 0; clutter_notch_width = 0; clutter_window = 0; reserved = zeros 72 }

pub cut_fits : CutFits the_cut
cut_fits = search (zeros-length, lit<)

pub generic-fine : generic_check the_generic ≡ (Ok tt)
unfolding generic_check among
generic-fine = fine-if (generic_rules the_generic) (refl, (refl, tt))

pub site-fine : site_check the_site ≡ (Ok tt)
unfolding site_check on_bits
site-fine = fine-if (site_rules the_site) (latitude 0 (lit< tt), (longitude 0 (lit< tt), tt))

pub task-fine : task_check the_task ≡ (Ok tt)
unfolding task_check among not_below_zero cut_number_clauses most_cuts rhi
task-fine = fine-if (task_rules the_task) (refl, (refl, (refl, (refl, tt))))

pub cut-fine : cut_check the_cut ≡ (Ok tt)
unfolding cut_check among
cut-fine = fine-if (cut_rules the_cut) (refl, (refl, (refl, (refl, (refl, (refl, tt))))))

pub generic-bytes : Bytes (generic_bytes the_generic)
unfolding generic_bytes
generic-bytes = search (append-bytes, number-bytes, run-bytes, zeros-bytes)

pub site-bytes : Bytes (site_bytes the_site)
unfolding site_bytes
site-bytes = search (append-bytes, number-bytes, run-bytes, zeros-bytes)

pub task-bytes : Bytes (task_bytes the_task)
unfolding task_bytes
task-bytes = search (append-bytes, run-bytes, zeros-bytes)

pub cut-bytes : Bytes (cut_bytes the_cut)
unfolding cut_bytes
cut-bytes = search (append-bytes, number-bytes, run-bytes, zeros-bytes) depth 12

-- What it is to be made of a file's leading whole radials (document 02, #107): the file's own records in their order, but for the two fields
-- that mending changes, the cut number and the state of a radial.
use Rattle.std.specs.Prelude.{ℕ, ◌≤◌, List, [], ◌∷◌, ◌≡◌, length, drop, Some}
use Rattle.le.specs.Le.{Bytes}
use Rattle.generic.specs.Generic.{generic_at, generic_size}
use Rattle.radial.specs.Radial.{radial_at, radial_size}
use Rattle.site.specs.Site.{site_at}
use Rattle.task.specs.declared.Task.{Task}
use Rattle.reading.specs.declared.Stretch.{Stretch}
use Rattle.reading.specs.Reading.{bytes_of, nth, stretches, told}
use Rattle.volume.specs.InPlace.{cut_block, task_block}
use Rattle.mend.specs.Answers.{with_state}
use Rattle.mend.specs.Mend.{cut_number}

-- a task's record with another cut number (table 2-4)
abbrev pub with_cuts : Task → ℕ → Task
with_cuts t n =
    record {
      name = t.name;
      description = t.description;
      polarization = t.polarization;
      scan_type = t.scan_type;
      pulse_width = t.pulse_width;
      start_time = t.start_time;
      cut_number = n;
      noise_h = t.noise_h;
      noise_v = t.noise_v;
      calibration_h = t.calibration_h;
      calibration_v = t.calibration_v;
      noise_temperature_h = t.noise_temperature_h;
      noise_temperature_v = t.noise_temperature_v;
      zdr_calibration = t.zdr_calibration;
      phase_calibration = t.phase_calibration;
      ldr_calibration = t.ldr_calibration;
      reserved = t.reserved;
    }

-- radial n of g is radial n of f: the same record but for the state, and the same bytes behind its header
pub record SameRadial (f g : List ℕ) (n : ℕ) : Type 0 where
  pub old : Stretch
  pub new : Stretch
  pub given : nth (stretches f) n ≡ Some old
  pub made : nth (stretches g) n ≡ Some new
  pub header : radial_at g new.start ≡ with_state (radial_at f old.start) (radial_at g new.start).state
  pub moments : drop radial_size (bytes_of g new) ≡ drop radial_size (bytes_of f old)

-- g is a complete volume, made of as many of f's leading whole radials as it has radials
pub record MadeOf (f g : List ℕ) : Type 0 where
  pub bytes : Bytes g
  pub complete : told g ≡ 0 ∷ []
  pub generic : generic_at g 0 ≡ generic_at f 0
  pub site : site_at g generic_size ≡ site_at f generic_size
  pub task : task_block g ≡ with_cuts (task_block f) (cut_number g)
  pub fewer : cut_number g ≤ cut_number f
  pub cuts : (k : ℕ) → 1 ≤ k → k ≤ cut_number g → cut_block g k ≡ cut_block f k
  pub radials : (n : ℕ) → 1 ≤ n → n ≤ length (stretches g) → SameRadial f g n

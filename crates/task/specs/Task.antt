-- The task block (table 2-4): its 256 bytes as a record, and back, and the rules that it must meet.
use Rattle.std.specs.Prelude.{ℕ, ◌<◌, ◌^◌, ◌≡◌, List, [], ◌∷◌, ◌++◌, length, pos}
use Rattle.le.specs.Le.{le, bytes, part, run, int}
use Rattle.rules.specs.Ranges.{among, not_below_zero}
use Rattle.rules.specs.States.{cut_number_clauses}
use Rattle.task.specs.declared.Task.{Task}
use Rattle.rules.specs.Check.{Check}
use Rattle.rules.specs.Check.{Rule, rule, verdict}

-- how many bytes the block has (table 2-4)
abbrev pub task_size : ℕ
task_size = 256

-- the record that 256 bytes hold, each field at its place
unfoldable pub task_of : List ℕ → Task
task_of b =
    record {
      name = part 32 b 0;
      description = part 128 b 32;
      polarization = le 4 b 160;
      scan_type = le 4 b 164;
      pulse_width = le 4 b 168;
      start_time = le 4 b 172;
      cut_number = le 4 b 176;
      noise_h = le 4 b 180;
      noise_v = le 4 b 184;
      calibration_h = le 4 b 188;
      calibration_v = le 4 b 192;
      noise_temperature_h = le 4 b 196;
      noise_temperature_v = le 4 b 200;
      zdr_calibration = le 4 b 204;
      phase_calibration = le 4 b 208;
      ldr_calibration = le 4 b 212;
      reserved = part 40 b 216;
    }

-- the record at place `at` of a file
unfoldable pub task_at : List ℕ → ℕ → Task
task_at f at = task_of (part task_size f at)

-- the record's 256 bytes
unfoldable pub task_bytes : Task → List ℕ
task_bytes r =
    r.name
    ++ r.description
    ++ run (bytes 4) (r.polarization ∷ r.scan_type ∷ r.pulse_width ∷ r.start_time ∷ r.cut_number ∷ r.noise_h ∷ r.noise_v ∷ r.calibration_h ∷ r.calibration_v ∷ r.noise_temperature_h ∷ r.noise_temperature_v ∷ r.zdr_calibration ∷ r.phase_calibration ∷ r.ldr_calibration ∷ [])
    ++ r.reserved

-- the record is one that its type holds
pub record TaskFits (r : Task) : Type 0 where
  pub name : length r.name ≡ 32
  pub description : length r.description ≡ 128
  pub reserved : length r.reserved ≡ 40
  pub polarization : r.polarization < 256 ^ 4
  pub scan_type : r.scan_type < 256 ^ 4
  pub pulse_width : r.pulse_width < 256 ^ 4
  pub start_time : r.start_time < 256 ^ 4
  pub cut_number : r.cut_number < 256 ^ 4
  pub noise_h : r.noise_h < 256 ^ 4
  pub noise_v : r.noise_v < 256 ^ 4
  pub calibration_h : r.calibration_h < 256 ^ 4
  pub calibration_v : r.calibration_v < 256 ^ 4
  pub noise_temperature_h : r.noise_temperature_h < 256 ^ 4
  pub noise_temperature_v : r.noise_temperature_v < 256 ^ 4
  pub zdr_calibration : r.zdr_calibration < 256 ^ 4
  pub phase_calibration : r.phase_calibration < 256 ^ 4
  pub ldr_calibration : r.ldr_calibration < 256 ^ 4

-- its rules in byte order (table 2-4): place, size, number, clauses
abbrev pub task_rules : Task → List Rule
task_rules r =
    -- polarization (table 2-4): 1..4
    rule 160 4 5 (among (pos 1) (pos 4) (int r.polarization) ∷ [])
    -- scan type (table 2-4): 0..6
    ∷ rule 164 4 6 (among (pos 0) (pos 6) (int r.scan_type) ∷ [])
    -- start time (table 2-4): not below 0
    ∷ rule 172 4 7 (not_below_zero (int r.start_time) ∷ [])
    -- cut number (table 2-4): 1..256, and 1 while scan type is 2
    ∷ rule 176 4 8 (cut_number_clauses r.scan_type r.cut_number)
    ∷ []

unfoldable pub task_check : Task → Check
task_check r = verdict (task_rules r)

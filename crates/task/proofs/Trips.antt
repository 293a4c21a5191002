-- The task block (table 2-4): record to bytes to record, bytes to record to bytes, and how many
-- bytes there are. Assumes nothing.
use mathlib.Core.Path.{◌≡◌, refl, sym, ap, ◌∙◌}
use mathlib.Core.List.{List, [], ◌∷◌, ◌++◌}
use Prim.Native.Nat.{ℕ}
use native.Mathlib.Omega.{arith}
use lib.ListN.{length, length-append}
use Rattle.le.specs.Le.{le, bytes, part, run, items, Bytes}
use Rattle.le.proofs.Laws.{length-bytes, le_bytes, part-all, join, run-numbers, length_part, le-lt}
use Rattle.le.proofs.Coded.{Coded}
use Rattle.task.specs.Task.{task_of, task_bytes, task_size, TaskFits}
use Rattle.task.specs.declared.Task.{Task}

-- the record's bytes, with other lists for those that stand before its end
abbrev bytes_with : Task → List ℕ → List ℕ → List ℕ
bytes_with r l0 l1 =
    l0
    ++ l1
    ++ run (bytes 4) (r.polarization ∷ r.scan_type ∷ r.pulse_width ∷ r.start_time ∷ r.cut_number ∷ r.noise_h ∷ r.noise_v ∷ r.calibration_h ∷ r.calibration_v ∷ r.noise_temperature_h ∷ r.noise_temperature_v ∷ r.zdr_calibration ∷ r.phase_calibration ∷ r.ldr_calibration ∷ [])
    ++ r.reserved

pub there_and_back : (r : Task) → TaskFits r → task_of (task_bytes r) ≡ r
unfolding task_of task_bytes le bytes run part
there_and_back r h =
    let m0 = sym (part-all 32 r.name h.name) in
    let m1 = sym (part-all 128 r.description h.description) in
    let e0 = ap (λ (l : List ℕ). task_of (bytes_with r l r.description)) m0 in
    let e1 = ap (λ (l : List ℕ). task_of (bytes_with r (part 32 r.name 0) l)) m1 in
    e0 ∙ e1 ∙ (λ i. record {
      name = sym m0 i;
      description = sym m1 i;
      polarization = le_bytes 4 r.polarization [] h.polarization i;
      scan_type = le_bytes 4 r.scan_type [] h.scan_type i;
      pulse_width = le_bytes 4 r.pulse_width [] h.pulse_width i;
      start_time = le_bytes 4 r.start_time [] h.start_time i;
      cut_number = le_bytes 4 r.cut_number [] h.cut_number i;
      noise_h = le_bytes 4 r.noise_h [] h.noise_h i;
      noise_v = le_bytes 4 r.noise_v [] h.noise_v i;
      calibration_h = le_bytes 4 r.calibration_h [] h.calibration_h i;
      calibration_v = le_bytes 4 r.calibration_v [] h.calibration_v i;
      noise_temperature_h = le_bytes 4 r.noise_temperature_h [] h.noise_temperature_h i;
      noise_temperature_v = le_bytes 4 r.noise_temperature_v [] h.noise_temperature_v i;
      zdr_calibration = le_bytes 4 r.zdr_calibration [] h.zdr_calibration i;
      phase_calibration = le_bytes 4 r.phase_calibration [] h.phase_calibration i;
      ldr_calibration = le_bytes 4 r.ldr_calibration [] h.ldr_calibration i;
      reserved = part-all 40 r.reserved h.reserved i;
    })

pub back-and-there : (b : List ℕ) → Bytes b → length b ≡ task_size → task_bytes (task_of b) ≡ b
unfolding task_of task_bytes items
back-and-there b bs n =
    (join b 216 40 (join b 160 56 (join b 32 128 refl
    refl)
    (run-numbers 4 14 b 160 bs))
    refl)
    ∙ part-all 256 b n

-- how long a record's bytes are
pub length-is : (r : Task) → TaskFits r → length (task_bytes r) ≡ task_size
unfolding task_bytes run
length-is r h = simp (length-append, length-bytes) (omega arith)

-- what bytes hold fits the record
pub fits-of : (b : List ℕ) → Bytes b → TaskFits (task_of b)
unfolding task_of
fits-of b bs = search (le-lt, length_part)

abbrev pub coded : Coded Task
coded =
    record { size = task_size; enc = task_bytes; dec = task_of; Fits = TaskFits; back = there_and_back; there = back-and-there; long = length-is; fits = fits-of }

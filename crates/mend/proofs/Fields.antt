-- The two fields in the records that hold them: a task's bytes around its cut number, a radial's behind its state, and both fields where a
-- file is read. Assumes nothing.
use Prim.Native.Nat.{ℕ, ◌+◌}
use native.Mathlib.Nat.{add-zero}
use native.Mathlib.Omega.{arith}
use mathlib.Core.List.{List, [], ◌∷◌, ◌++◌, append_assoc}
use mathlib.Core.Path.{◌≡◌, sym, ap, ◌∙◌}
use lib.ListN.{length, length-append}
use Rattle.le.specs.Le.{le, bytes, run}
use Rattle.le.proofs.Laws.{length-bytes, le-part}
use Rattle.task.specs.declared.Task.{Task}
use Rattle.task.specs.Task.{task_of, task_at, task_bytes, TaskFits}
use Rattle.radial.specs.Radial.{radial_of, radial_at, radial_bytes}
use Rattle.volume.specs.Volume.{VolumeRadial, bytes_of_moment, bytes_of_radial}
use Rattle.mend.specs.Mend.{cut_number}

-- ---- a task around its cut number

abbrev pub task_front : Task → List ℕ
task_front t = t.name ++ t.description ++ run (bytes 4) (t.polarization ∷ t.scan_type ∷ t.pulse_width ∷ t.start_time ∷ [])

abbrev pub task_back : Task → List ℕ
task_back t =
    run (bytes 4) (t.noise_h ∷ t.noise_v ∷ t.calibration_h ∷ t.calibration_v ∷ t.noise_temperature_h ∷ t.noise_temperature_v ∷ t.zdr_calibration ∷ t.phase_calibration ∷ t.ldr_calibration ∷ [])
    ++ t.reserved

pub task-parts : (t : Task) → task_bytes t ≡ task_front t ++ (bytes 4 t.cut_number ++ task_back t)
unfolding task_bytes run
task-parts t = simp append_assoc

pub task-front : (t : Task) → TaskFits t → length (task_front t) ≡ 176
unfolding run
task-front t h = simp (length-append, length-bytes) (omega arith)

pub task-back : (t : Task) → TaskFits t → length (task_back t) ≡ 76
unfolding run
task-back t h = simp (length-append, length-bytes) (omega arith)

-- ---- a radial behind its state

abbrev pub radial_back : VolumeRadial → List ℕ
radial_back b =
    let r = b.header in
    run (bytes 4) (r.spot_blank ∷ r.sequence ∷ r.radial_number ∷ r.elevation_number ∷ r.azimuth ∷ r.elevation ∷ r.seconds ∷ r.microseconds ∷ r.length_of_data ∷ r.moment_number ∷ [])
    ++ r.reserved
    ++ run bytes_of_moment b.moments

pub radial-parts : (b : VolumeRadial) → bytes_of_radial b ≡ bytes 4 b.header.state ++ radial_back b
unfolding radial_bytes run
radial-parts b = simp append_assoc

-- ---- where they are read

pub number_in : (f : List ℕ) → le 4 f 336 ≡ cut_number f
unfolding task_of task_at
number_in f = sym (le-part 4 256 f 160 176 (omega arith))

pub state-in : (f : List ℕ) (at : ℕ) → le 4 f at ≡ (radial_at f at).state
unfolding radial_of radial_at
state-in f at = sym (le-part 4 64 f at 0 (omega arith) ∙ ap (le 4 f) (add-zero at))

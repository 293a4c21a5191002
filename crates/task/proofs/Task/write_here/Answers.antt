-- Each call lays the next run behind those that stand already. Assumes nothing.
use mathlib.Core.List.{[], ◌∷◌}
use native.Mathlib.Omega.{arith}
use Rattle.le.specs.Le.{bytes, run}
use Rattle.le.proofs.Laws.{length-bytes, length_run, laid-first, laid_next}
use Rattle.task.specs.Task.{task_bytes}
use Rattle.task.proofs.Task.write_here.Goals as goal

pub returns : goal.returns
unfolding task_bytes
returns c =
    let r = c.args.self in
    let fits = c.requires in
    let l0 = laid-first c.args.at 32 c.put_bytes.ensures.stored c.put_bytes.ensures.len (omega arith) in
    let l1 = laid_next 128 r.description l0 c.put_bytes-2.ensures.stored c.put_bytes-2.ensures.len (omega arith) in
    let l2 = laid_next 56 (run (bytes 4) (r.polarization ∷ r.scan_type ∷ r.pulse_width ∷ r.start_time ∷ r.cut_number ∷ r.noise_h ∷ r.noise_v ∷ r.calibration_h ∷ r.calibration_v ∷ r.noise_temperature_h ∷ r.noise_temperature_v ∷ r.zdr_calibration ∷ r.phase_calibration ∷ r.ldr_calibration ∷ [])) l1 c.put_words.ensures (length_run (bytes 4) 4 (length-bytes 4) (r.polarization ∷ r.scan_type ∷ r.pulse_width ∷ r.start_time ∷ r.cut_number ∷ r.noise_h ∷ r.noise_v ∷ r.calibration_h ∷ r.calibration_v ∷ r.noise_temperature_h ∷ r.noise_temperature_v ∷ r.zdr_calibration ∷ r.phase_calibration ∷ r.ldr_calibration ∷ [])) (omega arith) in
    let l3 = laid_next 40 r.reserved l2 c.put_bytes-3.ensures.stored c.put_bytes-3.ensures.len (omega arith) in
    l3.is

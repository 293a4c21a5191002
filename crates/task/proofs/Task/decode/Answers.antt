-- Each field is what its call ensures. Assumes nothing.
use Rattle.task.specs.Task.{task_of}
use Rattle.task.proofs.Task.decode.Goals as goal

pub returns : goal.returns
unfolding task_of
returns c =
    λ i. record {
      name = c.bytes_at.ensures i;
      description = c.bytes_at-2.ensures i;
      polarization = c.u32_at.ensures i;
      scan_type = c.u32_at-2.ensures i;
      pulse_width = c.u32_at-3.ensures i;
      start_time = c.u32_at-4.ensures i;
      cut_number = c.u32_at-5.ensures i;
      noise_h = c.u32_at-6.ensures i;
      noise_v = c.u32_at-7.ensures i;
      calibration_h = c.u32_at-8.ensures i;
      calibration_v = c.u32_at-9.ensures i;
      noise_temperature_h = c.u32_at-10.ensures i;
      noise_temperature_v = c.u32_at-11.ensures i;
      zdr_calibration = c.u32_at-12.ensures i;
      phase_calibration = c.u32_at-13.ensures i;
      ldr_calibration = c.u32_at-14.ensures i;
      reserved = c.bytes_at-3.ensures i;
    }

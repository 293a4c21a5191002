-- Each field is what its call ensures. Assumes nothing.
use Rattle.radial.specs.Radial.{radial_of}
use Rattle.radial.proofs.Radial.decode.Goals as goal

pub returns : goal.returns
unfolding radial_of
returns c =
    λ i. record {
      state = c.u32_at.ensures i;
      spot_blank = c.u32_at-2.ensures i;
      sequence = c.u32_at-3.ensures i;
      radial_number = c.u32_at-4.ensures i;
      elevation_number = c.u32_at-5.ensures i;
      azimuth = c.u32_at-6.ensures i;
      elevation = c.u32_at-7.ensures i;
      seconds = c.u32_at-8.ensures i;
      microseconds = c.u32_at-9.ensures i;
      length_of_data = c.u32_at-10.ensures i;
      moment_number = c.u32_at-11.ensures i;
      reserved = c.bytes_at.ensures i;
    }

-- Each field is what its call ensures. Assumes nothing.
use Rattle.old.specs.Old.{old_of}
use Rattle.old.proofs.record.OldRadial.decode.Goals as goal

pub returns : goal.returns
unfolding old_of
returns c =
    λ i. record {
      mark = c.u16_at.ensures i;
      milliseconds = c.u32_at.ensures i;
      day = c.u16_at-2.ensures i;
      azimuth = c.u16_at-3.ensures i;
      state = c.u16_at-4.ensures i;
      elevation = c.u16_at-5.ensures i;
      elevation_number = c.u16_at-6.ensures i;
      reflectivity = c.u16_at-7.ensures i;
      doppler = c.u16_at-8.ensures i;
      resolution = c.u16_at-9.ensures i;
    }

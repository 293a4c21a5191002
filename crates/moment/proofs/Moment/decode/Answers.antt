-- Each field is what its call ensures. Assumes nothing.
use Rattle.moment.specs.Moment.{moment_of}
use Rattle.moment.proofs.Moment.decode.Goals as goal

pub returns : goal.returns
unfolding moment_of
returns c =
    λ i. record {
      data_type = c.u32_at.ensures i;
      scale = c.u32_at-2.ensures i;
      offset = c.u32_at-3.ensures i;
      bin_length = c.u16_at.ensures i;
      flags = c.u16_at-2.ensures i;
      length = c.u32_at-4.ensures i;
      reserved = c.bytes_at.ensures i;
    }

-- Each field is what its call ensures. Assumes nothing.
use Rattle.generic.specs.Generic.{generic_of}
use Rattle.generic.proofs.Generic.decode.Goals as goal

pub returns : goal.returns
unfolding generic_of
returns c =
    λ i. record {
      magic = c.u32_at.ensures i;
      major = c.u16_at.ensures i;
      minor = c.u16_at-2.ensures i;
      generic_type = c.u32_at-2.ensures i;
      product_type = c.u32_at-3.ensures i;
      reserved = c.bytes_at.ensures i;
    }

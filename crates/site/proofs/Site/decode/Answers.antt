-- Each field is what its call ensures. Assumes nothing.
use Rattle.site.specs.Site.{site_of}
use Rattle.site.proofs.Site.decode.Goals as goal

pub returns : goal.returns
unfolding site_of
returns c =
    λ i. record {
      code = c.bytes_at.ensures i;
      name = c.bytes_at-2.ensures i;
      latitude = c.u32_at.ensures i;
      longitude = c.u32_at-2.ensures i;
      antenna_height = c.u32_at-3.ensures i;
      ground_height = c.u32_at-4.ensures i;
      frequency = c.u32_at-5.ensures i;
      beam_width_h = c.u32_at-6.ensures i;
      beam_width_v = c.u32_at-7.ensures i;
      rda_version = c.u32_at-8.ensures i;
      radar_type = c.u16_at.ensures i;
      reserved = c.bytes_at-3.ensures i;
    }

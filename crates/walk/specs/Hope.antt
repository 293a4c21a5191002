-- Whether hope is left inside a radial (document 02, #110), as the numbers that a walk carries decide it. That this is so exactly where
-- some further bytes would complete the file is in the crate `hope`.
use Rattle.std.specs.Prelude.{Bool, ◌&&◌}
use Rattle.coming.specs.Moments.{moments_can}
use Rattle.coming.specs.Radials.{radials_can_after}
use Rattle.walk.specs.declared.due.Walk.{Walk}
use Rattle.walk.specs.After.{closes_cut}

-- the moments that the present radial still has to have can come, in what is left of its data
unfoldable pub moments_hope : Walk → Bool
moments_hope w = moments_can w.present.mask w.present.sizes w.rest.seen w.rest.todo w.rest.left

-- the radials that the volume still has to have behind the present one can come
unfoldable pub radials_hope : Walk → Bool
radials_hope w = radials_can_after w.plan.cuts w.count.cut (closes_cut w) w.count.in_cut w.present.sequence

-- both, behind a radial header
unfoldable pub radial_hope : Walk → Bool
radial_hope w = moments_hope w && radials_hope w

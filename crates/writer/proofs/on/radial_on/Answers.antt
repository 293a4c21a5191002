use Prim.Native.Nat.{ℕ, ◌+◌}
use mathlib.Core.Path.{◌≡◌, ap, ◌∙◌}
use mathlib.Core.Bool.{true}
use mathlib.Core.List.{List}
use lib.ListN.{length}
use Rattle.le.specs.Le.{le}
use Rattle.radial.specs.declared.Radial.{Radial}
use Rattle.radial.specs.Radial.{radial_size}
use Rattle.walk.specs.declared.due.Due.TheVariants as due
use Rattle.walk.specs.declared.due.Walk.{Walk}
use Rattle.walk.specs.Due.{cut_place}
use Rattle.reading.specs.declared.step.Step.{Step}
use Rattle.reading.specs.Step.{cut_in, say_radial, say_by_masks}
use Rattle.reading.proofs.Masks.{by-masks}
use Rattle.writer.specs.declared.order.Put.{Put}
use Rattle.writer.specs.Block.{radial}
use Rattle.writer.specs.Put.{settled_by}
use Rattle.writer.proofs.Putting.{puts-taken, puts-refused}
use Rattle.writer.proofs.on.radial_on.Goals as goal

-- the masks that are read are those of the radial's cut
in_cut : (r : Radial) (w : Walk) (room : List ℕ) {p : Put} {mask sizes place : ℕ} → p ≡ settled_by due.Radial (say_by_masks r mask sizes w) true radial_size w (length room)
    → mask ≡ le 8 room (place + 84) → sizes ≡ le 8 room (place + 92) → place ≡ cut_place w.count.cut
    → p ≡ settled_by due.Radial (say_radial r (cut_in room w) w) true radial_size w (length room)
in_cut r w room e m z k = e ∙ ap (λ (s : Step). settled_by due.Radial s true radial_size w (length room)) (rw (m, z, k) (by-masks room w r))

pub returns-in-Taken : goal.returns-in-Taken
returns-in-Taken c =
    let a = c.args in
    puts-taken (radial a.r) a.w a.room.now
    (in_cut a.r a.w a.room.now c.radial-p.ensures c.u64_at-mask.ensures c.u64_at-sizes.ensures c.cut_place-place.ensures)
    c.in-Taken.is c.write.ensures

pub returns-in-Refused : goal.returns-in-Refused
returns-in-Refused c =
    let a = c.args in
    puts-refused (radial a.r) a.w a.room.now
    (in_cut a.r a.w a.room.now c.radial-p.ensures c.u64_at-mask.ensures c.u64_at-sizes.ensures c.cut_place-place.ensures)
    _ _ c.in-Refused.is

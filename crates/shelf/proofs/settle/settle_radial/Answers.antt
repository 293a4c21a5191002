-- `settle_radial` meets its promise: the masks that are read among the cut records are those of the radial's cut, where these records
-- stand in the volume. Assumes nothing.
use Rattle.std.proofs.Common.{◌≡◌, ℕ, ◌+◌, ◌-◌, true, List, ◌++◌, length, replicate, sym, refl, ap, ◌∙◌, arith}
use Rattle.le.specs.Le.{le}
use Rattle.le.proofs.Laws.{part-past, le-own}
use Rattle.radial.specs.declared.Radial.{Radial}
use Rattle.radial.specs.Radial.{radial_size}
use Rattle.walk.specs.declared.due.Due.TheVariants as due
use Rattle.walk.specs.declared.due.Walk.{Walk}
use Rattle.walk.specs.Due.{cut_place}
use Rattle.reading.specs.declared.step.Step.{Step}
use Rattle.reading.specs.Step.{cut_in, say_radial, say_by_masks}
use Rattle.reading.proofs.Masks.{by-masks}
use Rattle.writer.specs.declared.order.Put.{Put}
use Rattle.writer.specs.Put.{settled_by}
use Rattle.shelf.proofs.settle.settle_radial.Goals as goal

module _ (a c : List ℕ) (w : Walk) (long : length a ≡ cut_place 1) where
  -- a number of the cut's record, in the volume and among the cut records
  behind : (k : ℕ) {place : ℕ} → place ≡ cut_place w.count.cut - cut_place 1 → le 8 c (place + k) ≡ le 8 (a ++ c) (cut_place w.count.cut + k)
  behind k {place} e =
      let at : cut_place w.count.cut + k ≡ length a + (place + k) = omega arith in
      rw at (sym (le-own 8 c (place + k)) ∙ ap (λ (l : List ℕ). le 8 l 0) (sym (part-past 8 a c (place + k))) ∙ le-own 8 (a ++ c) (length a + (place + k)))

  in_cut : (r : Radial) (room : ℕ) {p : Put} {mask sizes place : ℕ} → p ≡ settled_by due.Radial (say_by_masks r mask sizes w) true radial_size w room
      → mask ≡ le 8 c (place + 84) → sizes ≡ le 8 c (place + 92) → place ≡ cut_place w.count.cut - cut_place 1
      → p ≡ settled_by due.Radial (say_radial r (cut_in (a ++ c) w) w) true radial_size w room
  in_cut r room e m z k =
      e ∙ ap (λ (s : Step). settled_by due.Radial s true radial_size w room) (rw (m ∙ behind 84 k, z ∙ behind 92 k) (by-masks (a ++ c) w r))

pub returns : goal.returns
returns c =
    let a = c.args in
    in_cut (replicate (cut_place 1) 0) a.cuts.now a.w refl a.r _ c.radial.ensures c.u64_at-mask.ensures c.u64_at-sizes.ensures
    (let e = c.cut_place.ensures in let f = c.cut_place-2.ensures in omega arith)

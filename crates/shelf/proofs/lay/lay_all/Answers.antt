-- The loop's invariant: the first k radials are laid down. Assumes nothing.
use Rattle.std.proofs.Common.{◌≡◌, ℕ, refl, ap, ◌∙◌, add-one, arith}
use Rattle.old.specs.Shelf.{radial_place}
use Rattle.shelf.specs.Settled.{Lay, lay_over, lay_first}
use Rattle.shelf.proofs.lay.lay_all.Goals as goal

pub loop-k-init : goal.loop-k-init
unfolding lay_first
loop-k-init c = (refl, refl)

pub overflow_mul-k : goal.overflow_mul-k
overflow_mul-k c = omega (arith, c.radials_in-k-end.ensures)

pub lay_over-w-requires : goal.lay_over-w-requires
lay_over-w-requires c = omega (arith, c.radials_in-k-end.ensures)

pub loop-k-preserved : goal.loop-k-preserved
unfolding lay_first
loop-k-preserved c =
    let a = c.args in (
      omega arith,
      rw (add-one c.loop-k.k)
          (c.lay_over-w.ensures ∙ ap (lay_over a.cuts.now a.old.now (radial_place c.loop-k.k)) c.loop-k.invariant.1),
    )

pub returns : goal.returns
returns c =
    let a = c.args in
    let all : c.loop-k.k ≡ c.radials_in-k-end.result = omega arith in
    ap (λ (x : Lay). x.room) c.loop-k.invariant.1
    ∙ ap (λ (k : ℕ). (lay_first k a.cuts.now a.old.now (record { walk = a.first; room = a.room.now })).room)
    (all ∙ c.radials_in-k-end.ensures)

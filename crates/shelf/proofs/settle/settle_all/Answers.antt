-- `settle_all` meets its promise. The loop's invariant: the first k old radials are settled. Assumes nothing.
use Rattle.std.proofs.Common.{◌≡◌, ℕ, ◌+◌, List, length, refl, ap, ◌∙◌, ap₂, add-one, arith}
use Rattle.writer.specs.declared.order.Put.{Put}
use Rattle.old.specs.declared.record.OldRadial.{OldRadial}
use Rattle.old.specs.Old.{old_at}
use Rattle.old.specs.Shelf.{radials_in, radial_place}
use Rattle.shelf.specs.Settled.{settle_over, settle_first}
use Rattle.shelf.proofs.settle.settle_all.Goals as goal

module _ (c f : List ℕ) (room : ℕ) (p : Put) where
  none : p ≡ settle_first 0 c f room p
  unfolding settle_first
  none = refl

  turn : (k : ℕ) {x y : Put} {o : OldRadial} → x ≡ settle_first k c f room p → o ≡ old_at f (radial_place k) → y ≡ settle_over c room o (radial_place k) x
      → y ≡ settle_first (k + 1) c f room p
  unfolding settle_first
  turn k ex eo ey = rw add-one (ey ∙ ap₂ (λ (o : OldRadial) (x : Put). settle_over c room o (radial_place k) x) eo ex)

pub loop-k-init : goal.loop-k-init
loop-k-init c = none _ _ _ _

pub overflow_mul-at : goal.overflow_mul-at
overflow_mul-at c = let n = c.radials_in-k-end.ensures in omega arith

pub loop-k-preserved : goal.loop-k-preserved
loop-k-preserved c =
    turn _ _ _ _ c.loop-k.k c.loop-k.invariant c.read.ensures c.settle_over-q.ensures

pub returns : goal.returns
returns c =
    let a = c.args in
    let n = c.radials_in-k-end.ensures in
    let all : c.loop-k.k ≡ radials_in (length a.old.now) = omega arith in
    c.loop-k.invariant ∙ ap (λ (k : ℕ). settle_first k a.cuts.now a.old.now (length a.room.now) a.p) all

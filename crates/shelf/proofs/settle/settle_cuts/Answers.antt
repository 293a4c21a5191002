-- `settle_cuts` meets its promise. The loop's invariant: the first k cut records are settled. Assumes nothing.
use Rattle.std.proofs.Common.{◌≡◌, ℕ, ◌+◌, ◌*◌, ◌/◌, List, length, refl, ap, ◌∙◌, ap₂, add-one, arith, rules}
use Rattle.cut.specs.declared.Cut.{Cut}
use Rattle.cut.specs.Cut.{cut_at, cut_size}
use Rattle.writer.specs.declared.order.Put.{Put}
use Rattle.writer.specs.Block.{cut}
use Rattle.shelf.specs.Settled.{settle_next, settle_cuts}
use Rattle.shelf.proofs.Unless.{goes}
use Rattle.shelf.proofs.settle.settle_cuts.Goals as goal

module _ (c : List ℕ) (room : ℕ) (p : Put) where
  none : p ≡ settle_cuts 0 c room p
  unfolding settle_cuts
  none = refl

  turn : (k : ℕ) {x y : Put} {r : Cut} → x ≡ settle_cuts k c room p → r ≡ cut_at c (k * cut_size) → y ≡ settle_next room (cut r) x → y ≡ settle_cuts (k + 1) c room p
  unfolding settle_cuts
  turn k ex er ey = rw add-one (ey ∙ ap₂ (λ (r : Cut) (x : Put). settle_next room (cut r) x) er ex)

pub loop-k-init : goal.loop-k-init
loop-k-init c = none _ _ _

pub loop-k-preserved : goal.loop-k-preserved
loop-k-preserved c =
    let next : c.next-q.result ≡ settle_next (length c.args.room.now) (cut c.read-r.result) c.loop-k.q = goes _ _ _ _ _ c.next-q.ensures (λ y h. search rules) in
    turn _ _ _ c.loop-k.k c.loop-k.invariant c.read-r.ensures next

pub returns : goal.returns
returns c =
    let a = c.args in
    let all : c.loop-k.k ≡ length a.cuts.now / cut_size = omega arith in
    c.loop-k.invariant ∙ ap (λ (k : ℕ). settle_cuts k a.cuts.now (length a.room.now) a.p) all

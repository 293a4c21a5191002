-- `settle_moment` meets its promise: a moment of no gates is left out; of any other the header is settled, and then the data. Assumes
-- nothing.
use Rattle.std.proofs.Common.{◌≡◌, ℕ, ◌*◌, sym, ◌∙◌, eq-eqb, ne_eqb, length, rules}
use Rattle.moment.specs.declared.Moment.{Moment}
use Rattle.writer.specs.declared.order.Put.{Put}
use Rattle.writer.specs.Block.{moment}
use Rattle.old.specs.declared.record.OldRadial.{OldRadial}
use Rattle.old.specs.declared.codes.Quantity.{Quantity}
use Rattle.old.specs.Headers.{gates_of, moment_from}
use Rattle.shelf.specs.Settled.{settle_next, settle_data, settle_moment}
use Rattle.shelf.proofs.Unless.{goes}
use Rattle.shelf.proofs.settle.settle_moment.Goals as goal

module _ (room : ℕ) (q : Quantity) (o : OldRadial) (p : Put) {n : ℕ} (gates : n ≡ gates_of q o) where
  left_out : n ≡ 0 → p ≡ settle_moment room q o p
  unfolding settle_moment
  left_out e = rw (eq-eqb (gates_of q o) 0 (sym gates ∙ e))

  two_blocks : (n ≡ 0 → ⊥) → {m : Moment} {x y : Put} → m ≡ moment_from q o.resolution n → x ≡ settle_next room (moment m) p
      → y ≡ settle_data room (2 * n) x → y ≡ settle_moment room q o p
  unfolding settle_moment
  two_blocks some em ex ey = rw (ne_eqb (gates_of q o) 0 (λ e. some (gates ∙ e)), ← gates, ← em, ← ex) ey

pub returns-then-n-eq0 : goal.returns-then-n-eq0
returns-then-n-eq0 c = let a = c.args in left_out _ a.q a.o _ c.gates-n.ensures c.if-n-eq0.true

pub returns : goal.returns
returns c =
    let a = c.args in
    let header : c.next-p.result ≡ settle_next (length a.room.now) (moment c.moment_from-m.result) a.p = goes _ _ _ _ _ c.next-p.ensures (λ y h. search rules) in
    let rest : c.next.result ≡ settle_data (length a.room.now) (2 * c.gates-n.result) c.next-p.result = goes _ _ _ _ _ c.next.ensures (λ y h. search rules) in
    two_blocks _ a.q a.o a.p c.gates-n.ensures c.if-n-eq0.false c.moment_from-m.ensures header rest

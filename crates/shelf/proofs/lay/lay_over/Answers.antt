-- Taken means that no rule of the old radial's own is broken, so that its counts are such as `lay` asks for. Assumes nothing.
use Rattle.std.proofs.Common.{◌≡◌, ℕ, true, List, length, sym, refl, ap, ◌∙◌, arith}
use Rattle.le.specs.Le.{run}
use Rattle.rules.specs.Check.{Check}
use Rattle.std.specs.Prelude.{Ok, Err}
use Rattle.walk.specs.declared.due.Walk.{Walk}
use Rattle.writer.specs.declared.order.Answer.{Answer}
use Rattle.writer.specs.declared.order.Answer.TheVariants.{Taken, Refused}
use Rattle.writer.specs.declared.order.Put.{Put}
use Rattle.writer.specs.Block.{bytes_of}
use Rattle.retold.specs.Retold.{radial_blocks}
use Rattle.old.specs.declared.record.OldRadial.{OldRadial}
use Rattle.old.specs.Old.{old_at, old_check, counts_ok}
use Rattle.old.proofs.Accepted.{rules-hold}
use Rattle.shelf.specs.Import.{moments_of}
use Rattle.shelf.specs.Settled.{Lay, unless, unless_bad, settle_over, settled_over, radial_next, laid_bytes, laid_if, bytes_next, lay_over}
use Rattle.shelf.proofs.lay.lay_over.Goals as goal

fine : (k : Check) (at : ℕ) (before next : Put) → (unless_bad k at before next).answer ≡ Taken → k ≡ (Ok tt)
unfolding unless_bad
fine (Ok tt) at before next e = refl
fine (Err c) at before next e = absurd (let z : ◌≡◌ {A = ℕ} 0 1 = cc in omega arith)

-- what q, which is settled of the radial o that stands there, says of what is laid down
module _ (c f : List ℕ) (at : ℕ) (w : Walk) (room : List ℕ) (o : OldRadial) (here : o ≡ old_at f at)
    (q : Put) (is : q ≡ settle_over c (length room) o at (record { answer = Taken; walk = w })) where
  abbrev before : Lay
  before = record { walk = w; room = room }

  settled : q ≡ settled_over c f at before
  settled = is ∙ ap (λ (x : OldRadial). settle_over c (length room) x at (record { answer = Taken; walk = w })) here

  counts : q.answer ≡ Taken → counts_ok o.reflectivity o.doppler ≡ true
  unfolding unless
  counts t = (rules-hold o (fine (old_check o) _ _ _ (sym (ap (λ (p : Put). p.answer) is) ∙ t))).1.1.0

  taken : (end : List ℕ) → q.answer ≡ Taken
      → end ≡ laid_bytes room w.at (run bytes_of (radial_blocks (radial_next o w) (moments_of o f at)))
      → record { walk = q.walk; room = end } ≡ lay_over c f at before
  unfolding laid_if
  taken end t e =
      let told = sym t ∙ ap (λ (p : Put). p.answer) settled in
      let laid = laid_bytes room w.at (bytes_next f at w) in
      let r : end ≡ laid_if (settled_over c f at before).answer room laid =
      e ∙ ap (λ (x : OldRadial). laid_bytes room w.at (run bytes_of (radial_blocks (radial_next x w) (moments_of x f at)))) here
      ∙ ap (λ (a : Answer). laid_if a room laid) told in
      λ i. record { walk = (settled i).walk; room = r i }

  refused : (n p : ℕ) → q.answer ≡ Refused n p → record { walk = q.walk; room = room } ≡ lay_over c f at before
  unfolding laid_if
  refused n p t =
      let r = ap (λ (a : Answer). laid_if a room (laid_bytes room w.at (bytes_next f at w))) (sym t ∙ ap (λ (x : Put). x.answer) settled) in
      λ i. record { walk = (settled i).walk; room = r i }

pub lay-requires : goal.lay-requires
lay-requires c =
    let a = c.args in (
      c.requires,
      counts a.cuts.now a.old.now a.from a.w a.room.now _ c.read-o.ensures _ c.settle_over-q.ensures
          c.in-Taken.is,
    )

pub returns-in-Taken : goal.returns-in-Taken
returns-in-Taken c =
    let a = c.args in
    taken a.cuts.now a.old.now a.from a.w a.room.now _ c.read-o.ensures _ c.settle_over-q.ensures _
    c.in-Taken.is c.lay.ensures

pub returns-in-Refused : goal.returns-in-Refused
returns-in-Refused c =
    let a = c.args in
    refused a.cuts.now a.old.now a.from a.w a.room.now _ c.read-o.ensures _ c.settle_over-q.ensures _ _
    c.in-Refused.is

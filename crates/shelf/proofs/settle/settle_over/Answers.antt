-- `settle_over` meets its promise: nothing more where a block is refused already; else a broken rule of the old radial's own; else its
-- header and its moments. Assumes nothing.
use Rattle.std.proofs.Common.{◌≡◌, ℕ, true, List, sym, ap, ◌∙◌}
use Rattle.rules.specs.Check.{Check}
use Rattle.std.specs.Prelude.{Ok, Err}
use Rattle.rules.specs.declared.check.Clause.{Clause}
use Rattle.radial.specs.declared.Radial.{Radial}
use Rattle.radial.specs.Radial.{radial_size}
use Rattle.walk.specs.declared.due.Due.TheVariants as due
use Rattle.writer.specs.declared.order.Answer.TheVariants.{Taken, Refused}
use Rattle.writer.specs.declared.order.Put.{Put}
use Rattle.writer.specs.Block.{radial, says_of}
use Rattle.writer.specs.Put.{settled_by}
use Rattle.old.specs.declared.record.OldRadial.{OldRadial}
use Rattle.old.specs.Old.{old_check}
use Rattle.shelf.specs.Settled.{front, unless_bad, radial_next, settle_moments, settle_over}
use Rattle.shelf.proofs.Unless.{goes_on, stays}
use Rattle.shelf.proofs.settle.settle_over.Goals as goal

module _ (c : List ℕ) (room : ℕ) (o : OldRadial) (at : ℕ) (p : Put) (t : p.answer ≡ Taken) {k : Check} (e : k ≡ old_check o) where
  fine : k ≡ (Ok tt) → {r : Radial} {x y : Put} → r ≡ radial_next o p.walk
      → x ≡ settled_by due.Radial (says_of (radial r) (front c) p.walk) true radial_size p.walk room → y ≡ settle_moments room o x
      → y ≡ settle_over c room o at p
  unfolding unless_bad
  fine f er ex ey =
      let headed = goes_on p t (ex ∙ ap (λ (r : Radial). settled_by due.Radial (says_of (radial r) (front c) p.walk) true radial_size p.walk room) er) in
      goes_on p t (rw (sym e ∙ f) (ey ∙ ap (settle_moments room o) headed))

  broken : (b : Clause) {y : Put} → k ≡ Err b → y ≡ record { answer = Refused b.number at; walk = p.walk } → y ≡ settle_over c room o at p
  unfolding unless_bad
  broken b f ey = goes_on p t (rw (sym e ∙ f) ey)

pub returns-in-Refused : goal.returns-in-Refused
returns-in-Refused c = stays _ c.in-Refused.is

pub returns-in-Ok : goal.returns-in-Ok
returns-in-Ok c =
    let a = c.args in
    fine a.cuts.now _ a.o a.at a.p c.in-Taken.is c.check.ensures c.in-Ok.is
    c.radial_next.ensures c.settle_radial-q.ensures c.settle_moments.ensures

pub returns-in-Err : goal.returns-in-Err
returns-in-Err c =
    let a = c.args in
    broken a.cuts.now _ a.o a.at a.p c.in-Taken.is c.check.ensures _ c.in-Err.is c.refused.ensures

-- `settle_ours` meets its promise: the generic, site and task records, the cut records, and what is left behind these. Assumes nothing.
use Rattle.std.proofs.Common.{◌≡◌, ℕ, ◌/◌, ◌%◌, true, List, length, refl, ap, ◌∙◌, rules}
use Rattle.cut.specs.Cut.{cut_size}
use Rattle.generic.specs.declared.Generic.{Generic}
use Rattle.generic.specs.Generic.{generic_size}
use Rattle.site.specs.declared.Site.{Site}
use Rattle.task.specs.declared.Task.{Task}
use Rattle.walk.specs.declared.due.Due.TheVariants as due
use Rattle.walk.specs.declared.due.Walk.{Walk}
use Rattle.walk.specs.Due.{at_start}
use Rattle.reading.specs.Step.{take_generic}
use Rattle.writer.specs.declared.order.Put.{Put}
use Rattle.writer.specs.Block.{site, task}
use Rattle.writer.specs.Put.{settled_by}
use Rattle.shelf.specs.Settled.{settle_next, settle_cuts, settle_rest, fresh, settle_head, settle_ours}
use Rattle.shelf.proofs.Unless.{goes_on, goes}
use Rattle.shelf.proofs.settle.settle_ours.Goals as goal

module _ (g : Generic) (s : Site) (t : Task) (c : List ℕ) (room : ℕ) {x y z : Put} where
  head : {w : Walk} → w ≡ at_start → x ≡ settled_by due.Generic (take_generic g w) true generic_size w room → y ≡ settle_next room (site s) x
      → z ≡ settle_next room (task t) y → z ≡ settle_head g s t room
  head b ex ey ez =
      let first = goes_on fresh refl (ex ∙ ap (λ (w : Walk). settled_by due.Generic (take_generic g w) true generic_size w room) b) in
      ez ∙ ap (settle_next room (task t)) (ey ∙ ap (settle_next room (site s)) first)

  whole : z ≡ settle_head g s t room → x ≡ settle_cuts (length c / cut_size) c room z → y ≡ settle_rest room (length c % cut_size) x → y ≡ settle_ours g s t c room
  whole ez ex ey = ey ∙ ap (settle_rest room (length c % cut_size)) (ex ∙ ap (settle_cuts (length c / cut_size) c room) ez)

pub returns : goal.returns
returns c =
    let a = c.args in
    let second : c.next-p.result ≡ settle_next (length a.room.now) (site a.s) c.generic-p.result = goes _ _ _ _ _ c.next-p.ensures (λ y h. search rules) in
    let third : c.next-p-2.result ≡ settle_next (length a.room.now) (task a.t) c.next-p.result = goes _ _ _ _ _ c.next-p-2.ensures (λ y h. search rules) in
    whole a.g a.s a.t a.cuts.now _
    (head a.g a.s a.t a.cuts.now _ c.begin.ensures c.generic-p.ensures second third)
    c.settle_cuts-p.ensures c.settle_rest.ensures

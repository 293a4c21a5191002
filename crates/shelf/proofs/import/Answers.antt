-- `import` meets its promise: another length is refused first, a refusal that is settled leaves the room as it was, and what is settled
-- to the end is laid down. Assumes nothing.
use Rattle.std.proofs.lemmas.Bool.{not_from_false, not_from_true}
use Rattle.std.proofs.Common.{rules}
use Rattle.generic.specs.Generic.{GenericFits}
use Rattle.site.specs.Site.{SiteFits}
use Rattle.task.specs.Task.{TaskFits}
use Rattle.shelf.proofs.Result.{wrong-length, Known, enough-room, refused-whole, laid-whole}
use Rattle.shelf.proofs.import.Goals as goal

pub returns-then-not-shelf_ok : goal.returns-then-not-shelf_ok
returns-then-not-shelf_ok c =
    let a = c.args in
    wrong-length a.g a.s a.t a.cuts.now a.old.now a.room.now c.shelf_ok.ensures (not_from_false c.shelf_ok.result c.if-not-shelf_ok.true) c.refused.ensures c.begin.ensures

-- what the types of the three hold; the last fields lie too deep for the search to come to by itself
generic-fits : (s : goal.After-lay_ours-arg-1) → GenericFits s.args.g
generic-fits s = search rules

site-fits : (s : goal.After-lay_ours-arg-1) → SiteFits s.args.s
site-fits s = search (rules, s.well_formed.1.0.1.1.1.1.1.1.1.1)

task-fits : (s : goal.After-lay_ours-arg-1) → TaskFits s.args.t
task-fits s = search (rules, s.well_formed.1.1.0.1.1.1.1.1.1.1.1)

-- what is known where everything is settled
known : (p : goal.After-lay_ours-arg-1)
    → let a = p.args in
    Known a.g a.s a.t a.cuts.now a.old.now a.room.now p.shelf_ok.result p.settle_ours-first.result p.settle_all-last.result
known p =
    record {
      generic = generic-fits p;
      site = site-fits p;
      task = task-fits p;
      cuts = record { byte = λ i. (p.shared_slice_known-1.given i).fits };
      old = record { byte = λ i. (p.shared_slice_known-2-1.given i).fits };
      asked = p.shelf_ok.ensures;
      right = not_from_true p.shelf_ok.result p.if-not-shelf_ok.false;
      ours = p.settle_ours-first.ensures;
      all = p.settle_all-last.ensures;
    }

pub lay_ours-requires : goal.lay_ours-requires
lay_ours-requires c = enough-room (known c) c.in-Taken.is

generic-fits-2 : (s : goal.After-slice_known-in-Taken-2-1) → GenericFits s.args.g
generic-fits-2 s = search rules

site-fits-2 : (s : goal.After-slice_known-in-Taken-2-1) → SiteFits s.args.s
site-fits-2 s = search (rules, s.well_formed.1.0.1.1.1.1.1.1.1.1)

task-fits-2 : (s : goal.After-slice_known-in-Taken-2-1) → TaskFits s.args.t
task-fits-2 s = search (rules, s.well_formed.1.1.0.1.1.1.1.1.1.1.1)

known-2 : (p : goal.After-slice_known-in-Taken-2-1)
    → let a = p.args in
    Known a.g a.s a.t a.cuts.now a.old.now a.room.now p.shelf_ok.result p.settle_ours-first.result p.settle_all-last.result
known-2 p =
    record {
      generic = generic-fits-2 p;
      site = site-fits-2 p;
      task = task-fits-2 p;
      cuts = record { byte = λ i. (p.shared_slice_known-1.given i).fits };
      old = record { byte = λ i. (p.shared_slice_known-2-1.given i).fits };
      asked = p.shelf_ok.ensures;
      right = not_from_true p.shelf_ok.result p.if-not-shelf_ok.false;
      ours = p.settle_ours-first.ensures;
      all = p.settle_all-last.ensures;
    }

pub returns-in-Taken : goal.returns-in-Taken
returns-in-Taken c =
    laid-whole (known-2 c) c.in-Taken.is c.lay_ours.ensures c.lay_all.ensures

generic-fits-3 : (s : goal.After-refused-in-Refused) → GenericFits s.args.g
generic-fits-3 s = search rules

site-fits-3 : (s : goal.After-refused-in-Refused) → SiteFits s.args.s
site-fits-3 s = search (rules, s.well_formed.1.0.1.1.1.1.1.1.1.1)

task-fits-3 : (s : goal.After-refused-in-Refused) → TaskFits s.args.t
task-fits-3 s = search (rules, s.well_formed.1.1.0.1.1.1.1.1.1.1.1)

known-3 : (p : goal.After-refused-in-Refused)
    → let a = p.args in
    Known a.g a.s a.t a.cuts.now a.old.now a.room.now p.shelf_ok.result p.settle_ours-first.result p.settle_all-last.result
known-3 p =
    record {
      generic = generic-fits-3 p;
      site = site-fits-3 p;
      task = task-fits-3 p;
      cuts = record { byte = λ i. (p.shared_slice_known-1.given i).fits };
      old = record { byte = λ i. (p.shared_slice_known-2-1.given i).fits };
      asked = p.shelf_ok.ensures;
      right = not_from_true p.shelf_ok.result p.if-not-shelf_ok.false;
      ours = p.settle_ours-first.ensures;
      all = p.settle_all-last.ensures;
    }

pub returns-in-Refused : goal.returns-in-Refused
returns-in-Refused c =
    refused-whole (known-3 c) _ _ c.in-Refused.is c.refused-in-Refused.ensures c.begin-in-Refused.ensures

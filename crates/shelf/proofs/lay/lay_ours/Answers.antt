-- Each record is laid behind the one before it, and the cut records' bytes behind the last. Assumes nothing.
use Rattle.std.proofs.Common.{length, refl, arith, rules}
use Rattle.le.proofs.Laws.{laid-first, laid_next}
use Rattle.generic.specs.Generic.{generic_size, GenericFits}
use Rattle.site.specs.Site.{site_bytes, site_size, SiteFits}
use Rattle.task.specs.Task.{task_bytes, task_size, TaskFits}
use Rattle.generic.proofs.Trips as generic
use Rattle.site.proofs.Trips as site
use Rattle.task.proofs.Trips as task
use Rattle.shelf.proofs.lay.lay_ours.Goals as goal

-- what the types of the three hold; the last fields lie too deep for the search to come to by itself
generic-fits : (s : goal.After-slice_known-5-1) → GenericFits s.args.g
generic-fits s = search rules

site-fits : (s : goal.After-slice_known-5-1) → SiteFits s.args.s
site-fits s = search (rules, s.well_formed.1.0.1.1.1.1.1.1.1.1)

task-fits : (s : goal.After-slice_known-5-1) → TaskFits s.args.t
task-fits s = search (rules, s.well_formed.1.1.0.1.1.1.1.1.1.1.1.1)

pub returns : goal.returns
returns c =
    let a = c.args in
    let fits = c.requires in
    let l0 = laid-first 0 generic_size c.write.ensures (generic.length-is a.g (generic-fits c)) (omega arith) in
    let l1 = laid_next site_size (site_bytes a.s) l0 c.write-2.ensures (site.length-is a.s (site-fits c)) (omega arith) in
    let l2 = laid_next task_size (task_bytes a.t) l1 c.write-3.ensures (task.length-is a.t (task-fits c)) (omega arith) in
    let l3 = laid_next (length a.cuts.now) a.cuts.now l2 (rw c.cut_place.ensures at c.put.ensures) refl (omega arith) in
    l3.is

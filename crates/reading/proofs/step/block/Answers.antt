use mathlib.Core.List.{List}
use mathlib.Core.Path.{◌≡◌, ap, sym, ◌∙◌}
use Prim.Native.Nat.{ℕ, ◌+◌}
use lib.ListN.{length}
use Rattle.walk.specs.declared.due.Due.{Due}
use Rattle.walk.specs.declared.due.Walk.{Walk}
use Rattle.reading.specs.declared.step.Step.TheVariants.{Took}
use Rattle.walk.specs.Due.{size_at}
use Rattle.walk.specs.After.{after_data}
use Rattle.reading.specs.Step.{take_data, block_at, hope_at, hoping, say_block}
use Rattle.reading.proofs.step.block.Goals as goal

-- what the due block says, by which block is due
by-due : (p : List ℕ) (w : Walk) {d : Due} → w.due ≡ d → say_block d p w ≡ say_block w.due p w
by-due p w e = sym (ap (λ (d : Due). say_block d p w) e)

pub generic-requires : goal.generic-requires
unfolding size_at
generic-requires c = rw c.in-Generic.is at c.requires

pub site-requires : goal.site-requires
unfolding size_at
site-requires c = rw c.in-Site.is at c.requires

pub task-requires : goal.task-requires
unfolding size_at
task-requires c = rw c.in-Task.is at c.requires

pub cut-requires : goal.cut-requires
unfolding size_at
cut-requires c = rw c.in-Cut.is at c.requires

pub radial-requires : goal.radial-requires
unfolding size_at
radial-requires c = rw c.in-Radial.is at c.requires

pub moment-requires : goal.moment-requires
unfolding size_at
moment-requires c = rw c.in-Moment.is at c.requires

pub returns-in-Generic : goal.returns-in-Generic
unfolding block_at hope_at hoping
returns-in-Generic c = let a = c.args in c.generic.ensures ∙ by-due a.p.now a.w c.in-Generic.is

pub returns-in-Site : goal.returns-in-Site
unfolding block_at hope_at hoping
returns-in-Site c = let a = c.args in c.site.ensures ∙ by-due a.p.now a.w c.in-Site.is

pub returns-in-Task : goal.returns-in-Task
unfolding block_at hope_at hoping
returns-in-Task c = let a = c.args in c.task.ensures ∙ by-due a.p.now a.w c.in-Task.is

pub returns-in-Cut : goal.returns-in-Cut
unfolding block_at hope_at hoping
returns-in-Cut c = let a = c.args in c.cut.ensures ∙ by-due a.p.now a.w c.in-Cut.is

pub returns-in-Radial : goal.returns-in-Radial
unfolding block_at hope_at hoping
returns-in-Radial c = let a = c.args in c.radial.ensures ∙ by-due a.p.now a.w c.in-Radial.is

pub returns-in-Moment : goal.returns-in-Moment
unfolding block_at hope_at hoping
returns-in-Moment c = let a = c.args in c.moment.ensures ∙ by-due a.p.now a.w c.in-Moment.is

pub returns-in-Data : goal.returns-in-Data
unfolding block_at hope_at hoping take_data size_at
returns-in-Data c =
    let e = c.in-Data.is in
    let l : length c.args.p.now ≡ c.args.w.at + c.args.w.rest.length = rw e at c.requires in
    ap Took (c.data.ensures ∙ ap (after_data c.args.w) l) ∙ by-due c.args.p.now c.args.w e

pub returns-in-Nothing : goal.returns-in-Nothing
unfolding block_at hope_at hoping
returns-in-Nothing c = let a = c.args in by-due a.p.now a.w c.in-Nothing.is

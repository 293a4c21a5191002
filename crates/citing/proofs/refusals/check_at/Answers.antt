use mathlib.Core.Path.{sym, ap, ap₂, ◌∙◌}
use Rattle.cut.specs.Cut.{cut_check}
use Rattle.generic.specs.Generic.{generic_check}
use Rattle.moment.specs.Moment.{moment_check}
use Rattle.radial.specs.Radial.{radial_check}
use Rattle.site.specs.Site.{site_check}
use Rattle.task.specs.Task.{task_check}
use Rattle.rules.specs.Check.{verdict}
use Rattle.walk.specs.declared.due.Due.{Due}
use Rattle.reading.specs.Exactly.{rules_of}
use Rattle.citing.proofs.refusals.check_at.Goals as goal

pub returns-in-Generic : goal.returns-in-Generic
unfolding rules_of generic_check
returns-in-Generic c = rw (c.in-Generic.is, ← c.read.ensures) c.check.ensures

pub returns-in-Site : goal.returns-in-Site
unfolding rules_of site_check
returns-in-Site c = rw (c.in-Site.is, ← c.read-in-Site.ensures) c.check-in-Site.ensures

pub returns-in-Task : goal.returns-in-Task
unfolding rules_of task_check
returns-in-Task c = rw (c.in-Task.is, ← c.read-in-Task.ensures) c.check-in-Task.ensures

pub returns-in-Cut : goal.returns-in-Cut
unfolding rules_of cut_check
returns-in-Cut c = rw (c.in-Cut.is, ← c.read-in-Cut.ensures) c.check-in-Cut.ensures

pub returns-in-Radial : goal.returns-in-Radial
unfolding rules_of radial_check
returns-in-Radial c =
    let a = c.args in
    c.check-in-Radial.ensures ∙ ap₂ radial_check c.read-in-Radial.ensures c.radial_due.ensures ∙ ap (λ (d : Due). verdict (rules_of d a.file.now a.w)) (sym c.in-Radial.is)

pub returns-in-Moment : goal.returns-in-Moment
unfolding rules_of moment_check
returns-in-Moment c =
    let a = c.args in
    c.check-in-Moment.ensures ∙ ap₂ moment_check c.read-in-Moment.ensures c.moment_due.ensures ∙ ap (λ (d : Due). verdict (rules_of d a.file.now a.w)) (sym c.in-Moment.is)

pub returns-in-Data : goal.returns-in-Data
unfolding rules_of
returns-in-Data c = rw c.in-Data.is

pub returns-in-Nothing : goal.returns-in-Nothing
unfolding rules_of
returns-in-Nothing c = rw c.in-Nothing.is

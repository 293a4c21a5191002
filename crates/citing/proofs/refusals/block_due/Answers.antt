use Rattle.citing.specs.Refusals.{block_due}
use Rattle.citing.proofs.refusals.block_due.Goals as goal

pub returns-in-Generic : goal.returns-in-Generic
unfolding block_due
returns-in-Generic c = rw c.in-Generic.is c.named.ensures

pub returns-in-Site : goal.returns-in-Site
unfolding block_due
returns-in-Site c = rw c.in-Site.is c.named-in-Site.ensures

pub returns-in-Task : goal.returns-in-Task
unfolding block_due
returns-in-Task c = rw c.in-Task.is c.named-in-Task.ensures

pub returns-in-Cut : goal.returns-in-Cut
unfolding block_due
returns-in-Cut c = rw (c.in-Cut.is, c.named-in-Cut.ensures, c.turn.ensures)

pub returns-in-Radial : goal.returns-in-Radial
unfolding block_due
returns-in-Radial c = rw c.in-Radial.is c.named-in-Radial.ensures

pub returns-in-Moment : goal.returns-in-Moment
unfolding block_due
returns-in-Moment c = rw (c.in-Moment.is, c.named-in-Moment.ensures, c.turn-in-Moment.ensures, c.read-moments.ensures)

pub returns-in-Data : goal.returns-in-Data
unfolding block_due
returns-in-Data c = rw c.in-Data.is c.named-in-Data.ensures

pub returns-in-Nothing : goal.returns-in-Nothing
unfolding block_due
returns-in-Nothing c = rw c.in-Nothing.is c.named-in-Nothing.ensures

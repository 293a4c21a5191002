use Rattle.writer.specs.Agree.{rank_of}
use Rattle.writer.proofs.order.rank.Goals as goal

pub returns-in-Generic : goal.returns-in-Generic
unfolding rank_of
returns-in-Generic c = rw c.in-Generic.is

pub returns-in-Site : goal.returns-in-Site
unfolding rank_of
returns-in-Site c = rw c.in-Site.is

pub returns-in-Task : goal.returns-in-Task
unfolding rank_of
returns-in-Task c = rw c.in-Task.is

pub returns-in-Cut : goal.returns-in-Cut
unfolding rank_of
returns-in-Cut c = rw c.in-Cut.is

pub returns-in-Radial : goal.returns-in-Radial
unfolding rank_of
returns-in-Radial c = rw c.in-Radial.is

pub returns-in-Moment : goal.returns-in-Moment
unfolding rank_of
returns-in-Moment c = rw c.in-Moment.is

pub returns-in-Data : goal.returns-in-Data
unfolding rank_of
returns-in-Data c = rw c.in-Data.is

pub returns-in-Nothing : goal.returns-in-Nothing
unfolding rank_of
returns-in-Nothing c = rw c.in-Nothing.is

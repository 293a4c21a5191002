use mir.Syntax.{w32}
use borrow.Author.Rules.{sfits_of}
use mir.Facts.{to_z-of_z}
use Rattle.engine.specs.Engine.{hundredths_shown}
use Rattle.engine.proofs.hundredths_of.Goals as goal

pub returns-in-Ok : goal.returns-in-Ok
unfolding hundredths_shown
returns-in-Ok c = rw c.in-Ok.is (to_z-of_z {w = w32} (sfits_of c.struct_told-1.given.1.1.1.0.1))

pub returns-in-Err : goal.returns-in-Err
unfolding hundredths_shown
returns-in-Err c = rw c.in-Err.is

-- The record by cases of the answer: each arm of the `match` is the same arm of the definition. Assumes nothing.
use mathlib.Core.Path.{sym, ap, ◌∙◌}
use Rattle.ask.specs.Tallies.{told_tally}
use Rattle.lent.specs.Lending.{lent_of}
use Rattle.lent.proofs.tally_told.Goals as goal

pub returns-in-Ok : goal.returns-in-Ok
unfolding lent_of
returns-in-Ok c =
    ap (lent_of c.args.old) (sym (ap told_tally c.in-Ok.is) ∙ c.tally_of.ensures)

pub returns-in-Err : goal.returns-in-Err
unfolding lent_of
returns-in-Err c =
    rw c.number.ensures (ap (lent_of c.args.old) (sym (ap told_tally c.in-Err.is) ∙ c.tally_of.ensures))

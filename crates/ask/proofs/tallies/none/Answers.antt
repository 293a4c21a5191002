use Rattle.ask.proofs.tallies.none.Goals as goal

pub returns : goal.returns
returns c = rw c.none.ensures

use mathlib.Core.Path.{ap}
use Rattle.gates.specs.Telling.{answered}
use Rattle.decoded.specs.Decoded.{Checked, check_told}
use Rattle.decoded.proofs.check.Goals as goal

pub returns-in-At : goal.returns-in-At
unfolding check_told
returns-in-At c =
    rw (
      ← c.find.ensures,
      c.in-At.is,
      ← c.own-b.ensures,
      ← c.read-h.ensures,
      ← c.data.ensures,
      ← c.coding.ensures,
    )
    (ap (λ (x : Checked). answered x) c.compare.ensures)

pub returns-in-NoRadial : goal.returns-in-NoRadial
unfolding check_told
returns-in-NoRadial c = rw (← c.find.ensures, c.in-NoRadial.is)

pub returns-in-NoMoment : goal.returns-in-NoMoment
unfolding check_told
returns-in-NoMoment c = rw (← c.find.ensures, c.in-NoMoment.is)

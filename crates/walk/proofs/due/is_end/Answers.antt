use mathlib.Core.Path.{◌≡◌, refl}
use mathlib.Core.Bool.{false}
use Rattle.walk.specs.declared.due.Due.{Due}
use Rattle.walk.specs.declared.due.Due.TheVariants as due
use Rattle.walk.specs.Due.{is_end}
use Rattle.walk.proofs.due.is_end.Goals as goal

-- only where nothing is due
others : (d : Due) → (d ≡ due.Nothing → ⊥) → false ≡ is_end d
unfolding is_end
others due.Generic n = refl
others due.Site n = refl
others due.Task n = refl
others due.Cut n = refl
others due.Radial n = refl
others due.Moment n = refl
others due.Data n = refl
others due.Nothing n = absurd (n refl)

pub returns-in_default : goal.returns-in_default
returns-in_default c = others c.args.due c.in_default.not-Nothing

pub returns-in-Nothing : goal.returns-in-Nothing
unfolding is_end
returns-in-Nothing c = rw c.in-Nothing.is

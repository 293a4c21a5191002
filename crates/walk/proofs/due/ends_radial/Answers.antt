use mathlib.Core.Path.{◌≡◌, refl}
use mathlib.Core.Bool.{false}
use Prim.Native.Nat.{ℕ}
use Rattle.walk.specs.declared.due.Due.{Due}
use Rattle.walk.specs.declared.due.Due.TheVariants as due
use Rattle.walk.specs.Due.{ends_radial}
use Rattle.walk.proofs.due.ends_radial.Goals as goal

-- only data ends a radial
others : (d : Due) (n : ℕ) → (d ≡ due.Data → ⊥) → false ≡ ends_radial d n
unfolding ends_radial
others due.Generic n h = refl
others due.Site n h = refl
others due.Task n h = refl
others due.Cut n h = refl
others due.Radial n h = refl
others due.Moment n h = refl
others due.Data n h = absurd (h refl)
others due.Nothing n h = refl

pub returns-in_default : goal.returns-in_default
returns-in_default c = others c.args.due c.args.todo c.in_default.not-Data

pub returns-in-Data : goal.returns-in-Data
unfolding ends_radial
returns-in-Data c = rw c.in-Data.is

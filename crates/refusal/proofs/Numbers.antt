-- The number of a refusal is that of no other: the refusal can be found again from it. Assumes nothing.
use Prim.Native.Nat.{ℕ}
use mathlib.Core.Bool.{cond}
use mathlib.Core.Path.{◌≡◌, refl}
use mathlib.Mathlib.Logic.Function.Defs.{LeftInverse-Injective}
use lib.Dec.{eqb}
use Rattle.refusal.specs.declared.Refusal.{Refusal}
use Rattle.refusal.specs.declared.Refusal.TheVariants.{NoRadial, NoMoment, NoGate, NoRoom, NotComplete, NothingWhole, WrongIndex, NoWedge}
use Rattle.refusal.specs.Refusal.{number_of}

pub refusal_found : ℕ → Refusal
refusal_found n =
    cond (eqb n 30) NoRadial (cond (eqb n 31) NoMoment (cond (eqb n 32) NoGate (cond (eqb n 33) NoRoom (cond (eqb n 36) NotComplete (cond (eqb n 54) NothingWhole (cond (eqb n 59) WrongIndex NoWedge))))))

pub refusal_back : (e : Refusal) → refusal_found (number_of e) ≡ e
unfolding refusal_found
refusal_back NoRadial = refl
refusal_back NoMoment = refl
refusal_back NoGate = refl
refusal_back NoRoom = refl
refusal_back NotComplete = refl
refusal_back NothingWhole = refl
refusal_back WrongIndex = refl
refusal_back NoWedge = refl

pub number-one : (a b : Refusal) → number_of a ≡ number_of b → a ≡ b
number-one = LeftInverse-Injective refusal_found number_of refusal_back

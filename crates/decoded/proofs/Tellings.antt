-- What is told of an answer is told of one alone; and what an answer says of where the moment is. Assumes nothing.
use mathlib.Core.Path.{◌≡◌, refl, ap}
use mathlib.Mathlib.Logic.Function.Defs.{LeftInverse-Injective}
use Rattle.std.specs.Prelude.{Result, Ok, Err}
use Rattle.decoded.specs.declared.Compared.TheVariants.{Same, Differs}
use Rattle.refusal.specs.declared.Refusal.{Refusal}
use Rattle.refusal.proofs.Numbers.{refusal_found, refusal_back}
use Rattle.decoded.specs.declared.Compared.{Compared}
use Rattle.gates.specs.Telling.{Telling, refused, answered}
use Rattle.decoded.specs.Decoded.{Checked, same, differs, told_check}

answer_found : Telling Checked → Result Compared Refusal
answer_found (answered same) = Ok Same
answer_found (answered (differs i)) = Ok (Differs i)
answer_found (refused number place) = Err (refusal_found number)

answer_back : (r : Result Compared Refusal) → answer_found (told_check r) ≡ r
unfolding answer_found
answer_back (Ok Same) = refl
answer_back (Ok (Differs i)) = refl
answer_back (Err e) = ap Err (refusal_back e)

pub told-check-one : (r s : Result Compared Refusal) → told_check r ≡ told_check s → r ≡ s
told-check-one = LeftInverse-Injective answer_found told_check answer_back

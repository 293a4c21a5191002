-- The number by which each refusal of a question is told.
use Rattle.std.specs.Prelude.{ℕ}
use Rattle.refusal.specs.declared.Refusal.{Refusal}
use Rattle.refusal.specs.declared.Refusal.TheVariants.{NoRadial, NoMoment, NoGate, NoRoom, NotComplete, NothingWhole, WrongIndex, NoWedge}

abbrev pub number_of : Refusal → ℕ
number_of NoRadial = 30
number_of NoMoment = 31
number_of NoGate = 32
number_of NoRoom = 33
number_of NotComplete = 36
number_of NothingWhole = 54
number_of WrongIndex = 59
number_of NoWedge = 61

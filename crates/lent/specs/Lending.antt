-- What a lent tally record holds after a question (document 01, "What reading tells"; document 02, #114).
use Rattle.std.specs.Prelude.{cond, eqb}
use Rattle.gates.specs.Telling.{Telling, refused, answered}
use Rattle.ask.specs.declared.tallies.Tally.{Tally}
use Rattle.lent.specs.declared.Lent.{Lent}

-- 0 and the counted tally; or the refusal's number, 61, 30 or 31, and what the record held before
unfoldable pub lent_of : Tally → Telling Tally → Lent
lent_of old (answered t) = record { number = 0; tally = t }
lent_of old (refused number place) = record { number = number; tally = old }

-- what the caller is told: the tally in the record; or the refusal's number, and place 0
abbrev pub told_lent : Lent → Telling Tally
told_lent l = cond (eqb l.number 0) (answered l.tally) (refused l.number 0)

-- Many blocks put one after the other (document 01, "Writing"): each onto what the one before it left. The first refusal ends it, and
-- the blocks before it stay.
use Rattle.std.specs.Prelude.{ℕ, List, [], ◌∷◌}
use Rattle.walk.specs.Due.{at_start}
use Rattle.writer.specs.declared.order.Answer.{Answer}
use Rattle.writer.specs.declared.order.Answer.TheVariants.{Taken, Refused}
use Rattle.writer.specs.Block.{Block}
use Rattle.writer.specs.Put.{Outcome, put}

-- a fresh state, and a room as it is ("Writing")
abbrev pub beginning : List ℕ → Outcome
beginning room = record { answer = Taken; walk = at_start; room = room }

-- what is refused already stays so
unfoldable pub unless_refused : Answer → Outcome → Outcome → Outcome
unless_refused Taken before next = next
unless_refused (Refused n p) before next = before

abbrev pub put_next : Block → Outcome → Outcome
put_next b o = unless_refused o.answer o (put b o.walk o.room)

unfoldable pub put_all : List Block → Outcome → Outcome
put_all [] o = o
put_all (b ∷ bs) o = put_all bs (put_next b o)

-- Why a file is refused (document 02, #104): the block, the field, what was found there and which clause of the table it breaks. The
-- clause is the one that the block's own rule list decides the refusal by.
use Rattle.std.specs.Prelude.{ℕ, ◌+◌, ◌-◌, cond, List, [], ◌∷◌, leb, ltb, length}
use Rattle.rules.specs.Check.{Check}
use Rattle.std.specs.Prelude.{Ok, Err}
use Rattle.rules.specs.declared.check.Clause.{Clause}
use Rattle.rules.specs.Check.{verdict}
use Rattle.radial.specs.Radial.{radial_at}
use Rattle.walk.specs.declared.due.Due.{Due}
use Rattle.walk.specs.declared.due.Due.TheVariants as due
use Rattle.walk.specs.declared.due.Walk.{Walk}
use Rattle.walk.specs.Due.{is_end, size_of}
use Rattle.reading.specs.Exactly.{rules_of}
use Rattle.reading.specs.Reading.{stop}
use Rattle.citing.specs.declared.refusals.Block.{Block}
use Rattle.citing.specs.declared.refusals.Cited.{Cited}
use Rattle.citing.specs.declared.refusals.Why.{Why}
use Rattle.citing.specs.declared.refusals.Why.TheVariants as why
use Rattle.citing.specs.Fields.{field_at}

-- which block: its kind; its number among its kind, from 1, a moment's being that of its radial; which moment of the radial, from 1, and
-- 0 where it is none; its place in the file
abbrev pub block : Due → ℕ → ℕ → ℕ → Block
block kind number moment place = record { kind = kind; number = number; moment = moment; place = place }

-- the block that is due. Once the volume is over it is the radial that closed it; data is never cited
unfoldable pub block_due : Due → List ℕ → Walk → Block
block_due due.Generic f w = block due.Generic 1 0 w.at
block_due due.Site f w = block due.Site 1 0 w.at
block_due due.Task f w = block due.Task 1 0 w.at
block_due due.Cut f w = block due.Cut (w.plan.cuts - w.rest.todo + 1) 0 w.at
block_due due.Radial f w = block due.Radial (w.count.whole + 1) 0 w.at
block_due due.Moment f w = block due.Moment (w.count.whole + 1) ((radial_at f w.present.start).moment_number - w.rest.todo + 1) w.at
block_due due.Data f w = block due.Data 0 0 w.at
block_due due.Nothing f w = block due.Radial w.count.whole 0 w.present.start

-- number 25, of which the closing radial's state is cited: its place and size are those of rule 10
abbrev pub trailing_clause : Clause
trailing_clause = record { number = 25; which = 1; place = 0; size = 4 }

-- a clause of the block at a place
abbrev pub cited_of : List ℕ → ℕ → Block → Clause → Cited
cited_of f place b c = record { place = place; clause = c; block = b; field = field_at f (b.place + c.place) c.size }

-- what the due block's rules say: the first broken clause, or, where they are kept and the block is refused all the same, that no hope is
-- left behind it (number 40)
unfoldable pub by_rules : List ℕ → Walk → Check → Why
by_rules f w (Ok tt) = why.Hopeless (block_due w.due f w)
by_rules f w (Err c) = why.Broken (cited_of f (w.at + c.place) (block_due w.due f w) c)

-- of the walk at which reading stops
unfoldable pub why_at : List ℕ → Walk → Why
why_at f w =
    cond (is_end w.due)
    (cond (ltb w.at (length f)) (why.Broken (cited_of f w.at (block_due w.due f w) trailing_clause)) why.Complete)
    (cond (leb (w.at + size_of w) (length f))
    (by_rules f w (verdict (rules_of w.due f w)))
    (why.Open (w.at + size_of w - length f)))

abbrev pub why_of : List ℕ → Why
why_of f = why_at f (stop f)

-- what is refused: 0 is complete, 1 open with the missing bytes, 2 refused with number and place, as a verdict is told
abbrev pub refusal_of : Why → List ℕ
refusal_of why.Complete = 0 ∷ []
refusal_of (why.Open m) = 1 ∷ m ∷ []
refusal_of (why.Broken x) = 2 ∷ x.clause.number ∷ x.place ∷ []
refusal_of (why.Hopeless b) = 2 ∷ 40 ∷ b.place ∷ []

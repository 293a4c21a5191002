-- A list of rules decides as the list without some rules that hold. Assumes nothing.
use mathlib.Core.Path.{◌≡◌, refl, ap, ◌∙◌}
use mathlib.Core.Bool.{true}
use mathlib.Core.List.{List, [], ◌∷◌}
use Rattle.rules.specs.Check.{Rule, holds, breaks, also, judge}
use Rattle.rules.specs.Check.{Check}
use Rattle.std.specs.Prelude.{Ok, Err}
use Rattle.rules.proofs.Judged.{held}

-- the second list is the first without some rules that hold
pub data Fewer : List Rule → List Rule → Type 0 where
  done : Fewer [] []
  stays : {r t : Rule} {rs ts : List Rule} → r ≡ t → Fewer rs ts → Fewer (r ∷ rs) (t ∷ ts)
  goes : {r : Rule} {rs ts : List Rule} → holds r ≡ true → Fewer rs ts → Fewer (r ∷ rs) ts

-- what the rules so far say, and one more
abbrev after : Check → Rule → Check
after v r = also v (breaks r.clauses) r.number r.place r.size

-- a rule that holds changes nothing
passed : (v : Check) (r : Rule) → holds r ≡ true → after v r ≡ v
unfolding also
passed (Ok tt) r h = rw (held r h)
passed (Err c) r h = refl

pub fewer : {rs ts : List Rule} → Fewer rs ts → (v : Check) → judge v rs ≡ judge v ts
fewer done v = refl
fewer (stays {r} {t} {rs} {ts} e f) v = fewer f (after v r) ∙ ap (λ (x : Rule). judge (after v x) ts) e
fewer (goes {r} {rs} h f) v = ap (λ (w : Check). judge w rs) (passed v r h) ∙ fewer f v

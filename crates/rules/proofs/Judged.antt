-- A block is fine exactly when each of its rules holds, and broken by the first broken clause of the first rule that does not. Assumes
-- nothing.
use mathlib.Core.Path.{◌≡◌, refl, sym, subst, ap, ◌∙◌}
use mathlib.Core.Bool.{Bool, true, false}
use mathlib.Core.List.{List, [], ◌∷◌}
use Prim.Native.Nat.{ℕ, suc, ◌+◌, ◌<◌}
use native.Mathlib.Omega.{arith}
use borrow.Author.Tests.{ne_eqb}
use Rattle.std.specs.Prelude.{Ok, Err, IsErrAnd}
use Rattle.rules.specs.declared.check.Clause.{Clause}
use Rattle.rules.specs.Check.{Check, Rule, clause_of, every_of, every, holds, breaks_from, breaks, also, judge, verdict, Hold, FirstClause, broken, kept, First, here, behind}

-- ---- the clauses of a rule

-- what is broken stays broken
false-stays : (bs : List Bool) → every_of false bs ≡ false
false-stays [] = refl
false-stays (b ∷ bs) = false-stays bs

every-is : (bs : List Bool) → every bs ≡ every_of true bs
every-is [] = refl
every-is (b ∷ bs) = refl

-- clauses that are counted from n + 1 on: every one is kept, or one is the first that is broken
data From (n : ℕ) (bs : List Bool) : Type 0 where
  all : every_of true bs ≡ true → breaks_from (suc n) bs ≡ 0 → From n bs
  one : (k : ℕ) → every_of true bs ≡ false → breaks_from (suc n) bs ≡ suc (k + n) → FirstClause bs (suc k) → From n bs

from : (n : ℕ) (bs : List Bool) → From n bs
from n [] = all refl refl
from n (true ∷ bs) = go (from (suc n) bs)
  where
    go : From (suc n) bs → From n (true ∷ bs)
    go (all h e) = all h e
    go (one k h e f) = let i : suc (k + suc n) ≡ suc (suc k + n) = omega arith in one (suc k) h (e ∙ i) (kept true bs refl f)
from n (false ∷ bs) = let i : suc n ≡ suc (0 + n) = omega arith in one 0 (false-stays bs) i (broken false bs refl)

-- so rules hold or not, by what is told of them
pub data Told (r : Rule) : Type 0 where
  keeps : holds r ≡ true → breaks r.clauses ≡ 0 → Told r
  fails : (k : ℕ) → holds r ≡ false → breaks r.clauses ≡ suc k → FirstClause r.clauses (suc k) → Told r

pub told : (r : Rule) → Told r
told r = go (from 0 r.clauses)
  where
    go : From 0 r.clauses → Told r
    go (all h e) = keeps (every-is r.clauses ∙ h) e
    go (one k h e f) = let i : suc (k + 0) ≡ suc k = omega arith in fails k (every-is r.clauses ∙ h) (e ∙ i) f

first-from : (n : ℕ) {bs : List Bool} {k : ℕ} → FirstClause bs k → (breaks_from (suc n) bs + 1 ≡ suc n + k) × (0 < k) × (every_of true bs ≡ false)
first-from n (broken b bs e) = rw e (let i : suc n + 1 ≡ suc n + 1 = refl in (i, omega arith, false-stays bs))
first-from n (kept b bs {k} e f) =
    let x = first-from (suc n) f in
    let s = x.0 in
    rw e (let i : breaks_from (suc (suc n)) bs + 1 ≡ suc n + suc k = omega arith in (i, omega arith, x.2))

-- the first broken clause of a rule is what is told of it, and the rule does not hold
pub first-clause : (r : Rule) {k : ℕ} → FirstClause r.clauses k → (breaks r.clauses ≡ k) × (0 < k) × (holds r ≡ false)
first-clause r f = let x = first-from 0 f in let s = x.0 in (omega arith, x.1, every-is r.clauses ∙ x.2)

-- ---- the rules of a block

-- the first broken rule decides, whatever follows
stays : (c : Clause) (rs : List Rule) → judge (Err c) rs ≡ Err c
unfolding also
stays c [] = refl
stays c (r ∷ rs) = stays c rs

-- what is told of one rule alone
abbrev told_of : Rule → Check
told_of r = also (Ok tt) (breaks r.clauses) r.number r.place r.size

-- rules told of one by one, up to the first that is broken or to the last
pub data Judged : List Rule → Check → Type 0 where
  kept-on : (r : Rule) (rs : List Rule) {v w : Check} → v ≡ Ok tt → v ≡ told_of r → Judged rs w → Judged (r ∷ rs) w
  broken-here : (r : Rule) (rs : List Rule) {v : Check} {c : Clause} → v ≡ Err c → v ≡ told_of r → Judged (r ∷ rs) (Err c)
  last : (r : Rule) {v : Check} → v ≡ told_of r → Judged (r ∷ []) v

-- say what the block's rules say
pub judged : {rs : List Rule} {v : Check} → Judged rs v → v ≡ verdict rs
judged (kept-on r rs e d j) = judged j ∙ ap (λ (w : Check). judge w rs) (sym e ∙ d)
judged (broken-here r rs {c = c} e d) = sym (stays c rs) ∙ ap (λ (w : Check). judge w rs) (sym e ∙ d)
judged (last r d) = d

-- the rules behind one that holds, and behind one that does not
pub on : (r : Rule) (rs : List Rule) → breaks r.clauses ≡ 0 → verdict (r ∷ rs) ≡ verdict rs
unfolding also
on r rs e = rw e

pub off : (r : Rule) (rs : List Rule) (k : ℕ) → breaks r.clauses ≡ k → 0 < k → verdict (r ∷ rs) ≡ Err (clause_of r k)
unfolding also
off r rs k e h = rw (e, ne_eqb k 0 (λ z. omega arith)) (stays (clause_of r k) rs)

-- a rule that holds is told of as one
pub held : (r : Rule) → holds r ≡ true → breaks r.clauses ≡ 0
held r h = go (told r)
  where
    go : Told r → breaks r.clauses ≡ 0
    go (keeps k e) = e
    go (fails k f e x) = absurd (let z : ◌≡◌ {A = ℕ} 0 1 = cc in omega arith)

pub all_hold : (rs : List Rule) → verdict rs ≡ (Ok tt) → Hold rs
all_hold [] e = tt
all_hold (r ∷ rs) e = go (told r) (λ f. all_hold rs f)
  where
    go : Told r → (verdict rs ≡ (Ok tt) → Hold rs) → Hold (r ∷ rs)
    go (keeps h b) later = (h, later (sym (on r rs b) ∙ e))
    go (fails k h b f) later = let g = off r rs (suc k) b (omega arith) in absurd (let z : ◌≡◌ {A = ℕ} 0 1 = cc in omega arith)

-- and where each holds, the block is fine
pub fine-if : (rs : List Rule) → Hold rs → verdict rs ≡ (Ok tt)
fine-if [] h = refl
fine-if (r ∷ rs) h = on r rs (held r h.0) ∙ fine-if rs h.1

-- a block is broken by a clause exactly where that is its first broken one
pub first-decides : {rs : List Rule} {c : Clause} → First rs c → verdict rs ≡ Err c
first-decides (here r rs k f) = let x = first-clause r f in off r rs k x.0 x.1
first-decides (behind r rs h f) = on r rs (held r h) ∙ first-decides f

pub decided-first : (rs : List Rule) (c : Clause) → verdict rs ≡ Err c → First rs c
decided-first [] c e = absurd (let z : ◌≡◌ {A = ℕ} 0 1 = cc in omega arith)
decided-first (r ∷ rs) c e = go (told r) (λ f. decided-first rs c f)
  where
    go : Told r → (verdict rs ≡ Err c → First rs c) → First (r ∷ rs) c
    go (keeps h b) later = behind r rs h (later (sym (on r rs b) ∙ e))
    go (fails k h b f) later =
        let g = off r rs (suc k) b (omega arith) in
        let same : clause_of r (suc k) ≡ c = cc in
        subst (First (r ∷ rs)) same (here r rs (suc k) f)

-- rules that hold have no first broken one
pub held_first : {rs : List Rule} {c : Clause} → First rs c → Hold rs → ⊥
held_first (here r rs k f) h = let x = (first-clause r f).2 in let y = h.0 in let z : ◌≡◌ {A = ℕ} 0 1 = cc in omega arith
held_first (behind r rs e f) h = held_first f h.1

-- what `?` hands on is the clause that was broken
pub handed-on : {r : Check} {c : Clause} → IsErrAnd r (λ k. k ≡ c) → r ≡ Err c
handed-on {r = Ok u} h = absurd h
handed-on {r = Err k} h = ap Err h

-- and no rule behind it changes that
pub unmoved : (c : Clause) (k n p s : ℕ) → also (Err c) k n p s ≡ Err c
unfolding also
unmoved c k n p s = refl

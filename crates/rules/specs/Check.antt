-- The rules of a block: a list in byte order, of which the first that is broken decides (document 01, "Field rules and
-- refusal numbers"). A rule has a clause for each way in which the table says that its field is refused, in the table's order; of a
-- broken rule the first broken clause is cited (document 02, #104).
use Rattle.std.specs.Prelude.{ℕ, suc, Bool, true, false, cond, ◌&&◌, List, [], ◌∷◌, ◌≡◌, eqb, Result, Ok, Err}
use Rattle.rules.specs.declared.check.Clause.{Clause}

-- a field's place in its block and its size in bytes, the refusal's number, and of each clause whether it is kept
pub record Rule : Type 0 where
  pub place : ℕ
  pub size : ℕ
  pub number : ℕ
  pub clauses : List Bool

abbrev pub rule : ℕ → ℕ → ℕ → List Bool → Rule
rule p s n cs = record { place = p; size = s; number = n; clauses = cs }

-- a clause of a rule, by which one it is, from 1
abbrev pub clause_of : Rule → ℕ → Clause
clause_of r k = record { number = r.number; which = k; place = r.place; size = r.size }

-- every clause is kept
abbrev pub every_of : Bool → List Bool → Bool
every_of so_far [] = so_far
every_of so_far (b ∷ bs) = every_of (so_far && b) bs

abbrev pub every : List Bool → Bool
every [] = true
every (b ∷ bs) = every_of b bs

-- a rule holds
abbrev pub holds : Rule → Bool
holds r = every r.clauses

-- which clause is the first that is broken, from 1; 0 where every one is kept
abbrev pub breaks_from : ℕ → List Bool → ℕ
breaks_from k [] = 0
breaks_from k (b ∷ bs) = cond b (breaks_from (suc k) bs) k

abbrev pub breaks : List Bool → ℕ
breaks bs = breaks_from 1 bs

-- what rules say: that each is kept, or the first broken one's first broken clause
abbrev pub Check : Type 0
Check = Result (Unit {0}) Clause

-- what the rules so far say, and one rule more, of which clause k is the first broken one
unfoldable pub also : Check → ℕ → ℕ → ℕ → ℕ → Check
also (Ok tt) k n p s = cond (eqb k 0) (Ok tt) (Err (record { number = n; which = k; place = p; size = s }))
also (Err c) k n p s = Err c

abbrev pub judge : Check → List Rule → Check
judge v [] = v
judge v (r ∷ rs) = judge (also v (breaks r.clauses) r.number r.place r.size) rs

abbrev pub verdict : List Rule → Check
verdict rs = judge (Ok tt) rs

-- each rule of a list holds
abbrev pub Hold : List Rule → Type 0
Hold [] = Unit {0}
Hold (r ∷ rs) = (holds r ≡ true) × Hold rs

-- the k-th of some clauses, from 1, is broken, and each before it is kept
pub data FirstClause : List Bool → ℕ → Type 0 where
  broken : (b : Bool) (bs : List Bool) → b ≡ false → FirstClause (b ∷ bs) 1
  kept : (b : Bool) (bs : List Bool) {k : ℕ} → b ≡ true → FirstClause bs k → FirstClause (b ∷ bs) (suc k)

-- the first rule of a list that does not hold, by its first broken clause
pub data First : List Rule → Clause → Type 0 where
  here : (r : Rule) (rs : List Rule) (k : ℕ) → FirstClause r.clauses k → First (r ∷ rs) (clause_of r k)
  behind : (r : Rule) (rs : List Rule) {c : Clause} → holds r ≡ true → First rs c → First (r ∷ rs) c

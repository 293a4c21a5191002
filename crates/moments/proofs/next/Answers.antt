-- The code's two tests are those by which the next moment is defined. Assumes nothing.
use mathlib.Core.Path.{◌≡◌, refl, sym, ap, ◌∙◌}
use mathlib.Core.Bool.{true, false}
use mathlib.Core.List.{List}
use Prim.Native.Nat.{ℕ, zero, suc, ◌+◌, ◌-◌, ◌≤◌}
use native.Mathlib.Omega.{arith}
use borrow.Author.Tests.{leb-true}
use lib.Dec.{leb}
use lib.ListN.{length}
use Rattle.std.specs.Prelude.{Some, None}
use Rattle.moments.specs.Moments.{after, ahead_from}
use Rattle.moments.proofs.next.Goals as goal

module _ (b : List ℕ) (at : ℕ) where
  none-due : (k : ℕ) → k ≡ 0 → None ≡ ahead_from k b at
  unfolding ahead_from
  none-due k e = rw e

  one-due : (k n : ℕ) → (k ≡ 0 → ⊥) → leb (at + 32) (length b) ≡ true → n ≡ after b at → Some (at, (record { todo = k - 1; at = n })) ≡ ahead_from k b at
  unfolding ahead_from
  one-due zero n some t e = absurd (some refl)
  one-due (suc k) n some t e = let d : suc k - 1 ≡ k = omega arith in rw (t, d, e)

  none_here : (k : ℕ) → leb (at + 32) (length b) ≡ false → None ≡ ahead_from k b at
  unfolding ahead_from
  none_here zero t = refl
  none_here (suc k) t = rw t

pub returns-then-todo-eq0 : goal.returns-then-todo-eq0
returns-then-todo-eq0 c = let a = c.args in none-due a.b.now a.p.at a.p.todo c.if-todo-eq0.true

-- what the test says: a header's bytes are there
fits : (c : goal.After-length_at-n) → c.args.p.at + 32 ≤ length c.args.b.now
fits c = leb-true _ _ (sym c.has.ensures ∙ c.if-has.true)

pub overflow_add-result : goal.overflow_add-result
overflow_add-result c = omega (arith, fits c)

pub overflow_add-result-then-has : goal.overflow_add-result-then-has
overflow_add-result-then-has c = omega (arith, fits c)

pub returns-then-has : goal.returns-then-has
returns-then-has c =
    let a = c.args in
    one-due a.b.now a.p.at a.p.todo _ c.if-todo-eq0.false (sym c.has.ensures ∙ c.if-has.true)
    (ap (λ (n : ℕ). a.p.at + 32 + n) c.length_at-n.ensures)

pub returns : goal.returns
returns c =
    let a = c.args in
    none_here a.b.now a.p.at a.p.todo (sym c.has.ensures ∙ c.if-has.false)

fits-2 : (c : goal.Then-has) → c.args.p.at + 32 ≤ length c.args.b.now
fits-2 c = leb-true _ _ (sym c.has.ensures ∙ c.if-has.true)

pub length_at-n-requires : goal.length_at-n-requires
length_at-n-requires c = fits-2 c

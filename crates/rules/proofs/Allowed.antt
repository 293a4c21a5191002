-- What numbers 8, 10, 12 and 13 allow, both ways, by the numbers of specs/States and specs/Ranges. Assumes nothing.
use mathlib.Core.Path.{◌≡◌, refl, sym, ◌∙◌}
use mathlib.Core.Bool.{Bool, true, false, ◌||◌, or-true}
use mathlib.Core.Logic.{◌⊎◌, inl, inr, ◌↔◌}
use Prim.Native.Nat.{ℕ, ◌+◌, ◌≤◌, ◌<◌}
use native.Mathlib.Omega.{arith}
use borrow.Author.Tests.{le-leb, ne_eqb}
use lib.Dec.{lit<}
use mir.Syntax.{w32}
use Rattle.le.specs.Le.{int}
use Rattle.rules.specs.Ranges.{is, counts, count_clauses}
use Rattle.rules.specs.States.{most_cuts, cut_number_ok, opening, closing, state_ok}
use Rattle.rules.proofs.Numbers.{inside, cut-by-scan, some-cut, most, exact, exact-if, counts-is, counts-most, most_cuts-small, opening-small, closing-small}

pub cuts-allowed : (scan n : ℕ) → (cut_number_ok scan n ≡ true) ↔ ((1 ≤ n) × (n ≤ most_cuts scan))
cuts-allowed scan n =
    let small = most_cuts-small scan in
    let same = cut-by-scan scan n in
    (λ e. (some-cut scan n e, most w32 1 (most_cuts scan) n small (sym same ∙ e)), λ h. same ∙ sym (inside w32 1 (most_cuts scan) n small h.0 (omega arith)))

pub count-allowed : (most before n : ℕ) → most < 2147483648 → (counts most before n ≡ true) ↔ ((n ≡ before + 1) × (n ≤ most))
unfolding count_clauses
count-allowed most before n small = (
  λ e. let is = counts-is most before n e in let h = counts-most most before n e in (is, omega arith),
  λ h. let e = h.0 in let k = h.1 in rw (exact-if (before + 1) n (omega arith) e, le-leb (before + 1) most (omega arith)),
)

pub first-allowed : (scan cuts cut s : ℕ) → (state_ok scan cuts cut 0 s ≡ true) ↔ (s ≡ opening scan cut)
unfolding state_ok
first-allowed scan cuts cut s = (exact (opening scan cut) s, exact-if (opening scan cut) s (opening-small scan cut))

pub other-allowed : (scan cuts cut count s : ℕ) → 1 ≤ count → (state_ok scan cuts cut count s ≡ true) ↔ ((s ≡ 1) ⊎ (s ≡ closing scan cuts cut))
unfolding state_ok
other-allowed scan cuts cut count s h =
    rw (ne_eqb count 0 (λ e. omega arith)) (there (is 1 (int s)) (is (closing scan cuts cut) (int s)) (exact 1 s) (exact (closing scan cuts cut) s), back)
  where
    there : (a b : Bool) → (a ≡ true → s ≡ 1) → (b ≡ true → s ≡ closing scan cuts cut) → (a || b) ≡ true → (s ≡ 1) ⊎ (s ≡ closing scan cuts cut)
    there true b one closes e = inl (one refl)
    there false b one closes e = inr (closes e)

    back : (s ≡ 1) ⊎ (s ≡ closing scan cuts cut) → (is 1 (int s) || is (closing scan cuts cut) (int s)) ≡ true
    back (inl e) = rw (exact-if 1 s (lit< tt) e)
    back (inr e) = rw (exact-if (closing scan cuts cut) s (closing-small scan cuts cut) e) (or-true (is 1 (int s)))

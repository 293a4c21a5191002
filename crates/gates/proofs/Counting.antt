-- Laws of specs/Counting: counts of lists put together add up, and every gate is counted once. Assumes nothing.
use mathlib.Core.Path.{◌≡◌, refl, sym}
use mathlib.Core.Bool.{cond}
use mathlib.Core.List.{List, [], ◌∷◌, ◌++◌, map, map-append}
use Prim.Native.Nat.{ℕ, zero, suc, ◌+◌, ◌<◌}
use native.Mathlib.Nat.{add_assoc, zero-add}
use native.Mathlib.Numerals.{add-one}
use native.Mathlib.Omega.{arith}
use borrow.Author.Tests.{ne_eqb}
use lib.Dec.{eqb}
use lib.ListN.{length, get_or, take}
use lib.Seq.{take-suc}
use Rattle.gates.specs.declared.Coding.{Coding}
use Rattle.gates.specs.declared.Counts.{Counts}
use Rattle.gates.specs.Gates.{gate_of, kind_of}
use Rattle.gates.specs.Counting.{count_of, counts_of, in_order, summed, total_of}
use Rattle.gates.proofs.Gates.{kind-lt}

pub count-append : (k : ℕ) (a b : List ℕ) → count_of k (a ++ b) ≡ count_of k a + count_of k b
unfolding count_of
count-append k [] b = sym (zero-add (count_of k b))
count-append k (x ∷ a) b = rw (count-append k a b) (sym (add_assoc (cond (eqb x k) 1 0) (count_of k a) (count_of k b)))

pub counts-append : (a b : List ℕ) → counts_of (a ++ b) ≡ summed (counts_of a) (counts_of b)
counts-append a b = simp count-append

-- a turn of a loop that counts
pub counts-turn : (c : Coding) (codes : List ℕ) (i : ℕ) → i < length codes
    → summed (counts_of (map (kind_of c) (take i codes))) (counts_of (kind_of c (get_or codes i 0) ∷ [])) ≡ counts_of (map (kind_of c) (take (i + 1) codes))
counts-turn c codes i h =
    let here = take i codes in
    let next = get_or codes i 0 ∷ [] in
    rw (add-one i, take-suc codes i 0 h, map-append (kind_of c) here next) (sym (counts-append (map (kind_of c) here) (map (kind_of c) next)))

-- what holds of each of the seven kinds holds of every number below 7
each-kind : (P : ℕ → Type 0) → P 0 → P 1 → P 2 → P 3 → P 4 → P 5 → P 6 → (k : ℕ) → k < 7 → P k
each-kind P a b c d e f g zero h = a
each-kind P a b c d e f g (suc zero) h = b
each-kind P a b c d e f g (suc (suc zero)) h = c
each-kind P a b c d e f g (suc (suc (suc zero))) h = d
each-kind P a b c d e f g (suc (suc (suc (suc zero)))) h = e
each-kind P a b c d e f g (suc (suc (suc (suc (suc zero))))) h = f
each-kind P a b c d e f g (suc (suc (suc (suc (suc (suc zero)))))) h = g
each-kind P a b c d e f g (suc (suc (suc (suc (suc (suc (suc n))))))) h = absurd (omega arith)

-- a count for each kind, in their order
pub in_order_lem : (kinds : List ℕ) (k : ℕ) → k < 7 → get_or (in_order (counts_of kinds)) k 0 ≡ count_of k kinds
in_order_lem kinds = each-kind (λ k. get_or (in_order (counts_of kinds)) k 0 ≡ count_of k kinds) refl refl refl refl refl refl refl

pub sum-in-order : (a b : Counts) (k : ℕ) → k < 7 → get_or (in_order (summed a b)) k 0 ≡ get_or (in_order a) k 0 + get_or (in_order b) k 0
sum-in-order a b = each-kind (λ k. get_or (in_order (summed a b)) k 0 ≡ get_or (in_order a) k 0 + get_or (in_order b) k 0) refl refl refl refl refl refl refl

-- a kind that no code has is not counted
pub count_none : (c : Coding) (k : ℕ) (codes : List ℕ) → ((code : ℕ) → kind_of c code ≡ k → ⊥) → count_of k (map (kind_of c) codes) ≡ 0
unfolding count_of
count_none c k [] no_code = refl
count_none c k (x ∷ codes) no_code = rw (ne_eqb (kind_of c x) k (no_code x), count_none c k codes no_code)

-- a kind is counted once
once : (k : ℕ) → k < 7 → total_of (counts_of (k ∷ [])) ≡ 1
unfolding count_of
once = each-kind (λ k. total_of (counts_of (k ∷ [])) ≡ 1) refl refl refl refl refl refl refl

-- every gate is counted once: the seven counts add up to the number of codes
pub counts_all : (c : Coding) (codes : List ℕ) → total_of (counts_of (map (kind_of c) codes)) ≡ length codes
unfolding count_of
counts_all c [] = refl
counts_all c (x ∷ codes) = omega (arith, counts_all c codes, once (kind_of c x) (kind-lt (gate_of c x)))

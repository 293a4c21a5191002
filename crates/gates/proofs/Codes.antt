-- Laws of specs/Codes: how many codes there are and which stands at each place, over the width; and what they are at
-- one byte and at two. Assumes nothing.
use mathlib.Core.Path.{◌≡◌, ap, ◌∙◌}
use mathlib.Core.List.{List}
use mathlib.Core.Logic.{◌⊎◌, inl, inr}
use Prim.Native.Nat.{ℕ, ◌+◌, ◌*◌, ◌/◌, ◌≤◌, ◌<◌}
use native.Mathlib.Nat.{zero-add, mul-one, mul_comm, div-one, div-le_self}
use native.Mathlib.Omega.{arith}
use lib.ListN.{length, get_or}
use lib.Seq.{ext_get_or}
use borrow.Author.Tests.{eq-eqb, ne_eqb}
use Rattle.le.specs.Le.{le}
use Rattle.le.proofs.Laws.{length-items, get_d-items}
use Rattle.gates.specs.Codes.{width_of, gates_in, codes_of}

length-codes : (bin : ℕ) (bytes : List ℕ) → length (codes_of bin bytes) ≡ gates_in (length bytes) (width_of bin)
unfolding codes_of
length-codes bin bytes = length-items (le (width_of bin)) (width_of bin) (gates_in (length bytes) (width_of bin)) bytes 0

-- at the bin lengths of accepted headers there is a code for each of the moment's gates
pub codes-gates : (bin : ℕ) (bytes : List ℕ) → (bin ≡ 1) ⊎ (bin ≡ 2) → length (codes_of bin bytes) ≡ gates_in (length bytes) bin
codes-gates bin bytes (inl one) = length-codes bin bytes ∙ rw one
codes-gates bin bytes (inr two) = length-codes bin bytes ∙ rw two

pub codes-le : (bin : ℕ) (bytes : List ℕ) → length (codes_of bin bytes) ≤ length bytes
codes-le bin bytes = rw (length-codes bin bytes) (div-le_self (length bytes) (width_of bin))

-- the code at each place
pub code_is : (bin : ℕ) (bytes : List ℕ) (i : ℕ) → i < length (codes_of bin bytes)
    → get_or (codes_of bin bytes) i 0 ≡ le (width_of bin) bytes (i * width_of bin)
unfolding codes_of
code_is bin bytes i h =
    let n = gates_in (length bytes) (width_of bin) in
    let w = width_of bin in
    get_d-items (le w) w n bytes 0 i 0 (omega (arith, length-items (le w) w n bytes 0)) ∙ ap (le w bytes) (zero-add (i * w))

module _ (bin : ℕ) (bytes : List ℕ) (one : bin ≡ 1) where
  width_one : width_of bin ≡ 1
  width_one = rw (eq-eqb bin 1 one)

  pub length-one : length (codes_of bin bytes) ≡ length bytes
  length-one = length-codes bin bytes ∙ rw (width_one, div-one)

  -- a code of one byte is that byte
  pub codes-one : codes_of bin bytes ≡ bytes
  unfolding le
  codes-one = ext_get_or 0 (codes_of bin bytes) bytes length-one (λ i h. code_is bin bytes i h ∙ rw (width_one, mul-one) (omega arith))

module _ (bin : ℕ) (bytes : List ℕ) (two : bin ≡ 1 → ⊥) where
  width_two : width_of bin ≡ 2
  width_two = rw (ne_eqb bin 1 two)

  pub length_two : length (codes_of bin bytes) ≡ length bytes / 2
  length_two = length-codes bin bytes ∙ rw width_two

  -- a code of two bytes, the low one first
  pub code-two : (i : ℕ) → i < length (codes_of bin bytes) → get_or (codes_of bin bytes) i 0 ≡ get_or bytes (2 * i) 0 + 256 * get_or bytes (2 * i + 1) 0
  unfolding le
  code-two i h = code_is bin bytes i h ∙ rw (width_two, mul_comm i 2) (omega arith)

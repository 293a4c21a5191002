-- The moments that a radial still has to have, and whether they can come (document 02, #110): the types that its cut's mask has and
-- that it has not shown, and the bytes that they can fill (document 01, "Masks", "Tiling", numbers 20, 23 and 24).
use Rattle.std.specs.Prelude.{◌≡◌, Bool, true, false, ◌&&◌, cond, List, [], ◌∷◌, ℕ, ◌+◌, ◌-◌, ◌*◌, ◌%◌, ◌≤◌, min, eqb, leb, length}
use Rattle.std.specs.Int.Bits.{bit_and, bit_xor}
use Rattle.std.specs.Int.Count.{ones}
use Rattle.rules.specs.Masks.{bit}
use Rattle.rules.specs.Tiling.{moment_header, most_length}

-- ---- what it means: moments exist that fill the bytes

-- a moment to come: its type, and how many bytes its data has
pub record Piece : Type 0 where
  pub kind : ℕ
  pub size : ℕ

-- one that its rules take: of a type that the mask has and that was not seen, of 1..32,768 bytes, an even number where a gate takes two
pub record Comes (mask sizes seen : ℕ) (p : Piece) : Type 0 where
  pub has : bit mask p.kind ≡ true
  pub new : bit seen p.kind ≡ false
  pub least : 1 ≤ p.size
  pub most : p.size ≤ most_length
  pub even : bit sizes p.kind ≡ true → p.size % 2 ≡ 0

abbrev pub Each : (Piece → Type 0) → List Piece → Type 0
Each P [] = Unit {0}
Each P (p ∷ l) = P p × Each P l

-- no moment of a list has type t
abbrev pub Without : ℕ → List Piece → Type 0
Without t [] = Unit {0}
Without t (p ∷ l) = (p.kind ≡ t → ⊥) × Without t l

abbrev pub Distinct : List Piece → Type 0
Distinct [] = Unit {0}
Distinct (p ∷ l) = Without p.kind l × Distinct l

abbrev pub total : List Piece → ℕ
total [] = 0
total (p ∷ l) = p.size + total l

-- `todo` moments of different types whose data are `rest` bytes
pub record Choice (mask sizes seen todo rest : ℕ) : Type 0 where
  pub moments : List Piece
  pub count : length moments ≡ todo
  pub each : Each (Comes mask sizes seen) moments
  pub distinct : Distinct moments
  pub fills : total moments ≡ rest

-- ---- how it is decided: by how many types there are to choose from

-- the bits of a that b lacks
abbrev pub lacks : ℕ → ℕ → ℕ
lacks a b = bit_and a (bit_xor a b)

-- the types of one byte a gate, and those of two
unfoldable pub singles : ℕ → ℕ → ℕ → ℕ
singles mask sizes seen = ones (lacks (lacks mask seen) sizes)

unfoldable pub doubles : ℕ → ℕ → ℕ → ℕ
doubles mask sizes seen = ones (bit_and (lacks mask seen) sizes)

-- k moments of n1 and n2 such types have r bytes of data: no more moments than types, none too long, and no fewer bytes than one for
-- each of the first kind and two for each of the second; with none of the first kind, an even number
unfoldable pub can_fill : ℕ → ℕ → ℕ → ℕ → Bool
can_fill n1 n2 k r =
    leb k (n1 + n2) && (leb r (most_length * k) && cond (leb 1 n1) (leb (2 * k - min n1 k) r) (leb (2 * k) r && eqb (r % 2) 0))

unfoldable pub fills : ℕ → ℕ → ℕ → ℕ → ℕ → Bool
fills mask sizes seen todo rest = can_fill (singles mask sizes seen) (doubles mask sizes seen) todo rest

-- the same of what is left of a radial's data, in which each moment has its header too
unfoldable pub moments_can : ℕ → ℕ → ℕ → ℕ → ℕ → Bool
moments_can mask sizes seen todo left = leb (moment_header * todo) left && fills mask sizes seen todo (left - moment_header * todo)

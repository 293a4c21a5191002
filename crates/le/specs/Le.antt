-- Little-endian numbers and runs of bytes in a list of bytes (document 01, "Which paper decides").
-- A byte past the end of a list reads 0, so that every question has an answer.
use Rattle.std.specs.Prelude.{ℕ, zero, suc, ◌+◌, ◌*◌, ◌/◌, ◌%◌, ◌<◌, cond, List, [], ◌∷◌, ◌++◌, leb, ℤ, length, get_or, take, drop}
use Rattle.std.specs.Int.{w16, w32}
use Rattle.std.proofs.Common.{to_z}

-- the n-byte number at place `at`, lowest byte first
unfoldable pub le : ℕ → List ℕ → ℕ → ℕ
le zero f at = 0
le (suc n) f at = get_or f at 0 + 256 * le n f (at + 1)

-- the n bytes of x, lowest first
unfoldable pub bytes : ℕ → ℕ → List ℕ
bytes zero x = []
bytes (suc n) x = x % 256 ∷ bytes n (x / 256)

-- the n bytes at place `at`
unfoldable pub part : ℕ → List ℕ → ℕ → List ℕ
part zero f at = []
part (suc n) f at = get_or f at 0 ∷ part n f (at + 1)

-- f, with the bytes bs in place of as many at place `at`
unfoldable pub patch : List ℕ → ℕ → List ℕ → List ℕ
patch f at bs = take at f ++ bs ++ drop (at + length bs) f

-- the n bytes bs put into f at place `at` where they fit; where they do not, f as it was
unfoldable pub stored : ℕ → List ℕ → ℕ → List ℕ → List ℕ
stored n f at bs = cond (leb (at + n) (length f)) (patch f at bs) f

-- the bytes of each element of a list, one after the other
unfoldable pub run : {A : Type 0} → (A → List ℕ) → List A → List ℕ
run enc [] = []
run enc (x ∷ xs) = enc x ++ run enc xs

-- the n elements from place `at` on, k bytes each, as dec reads them
unfoldable pub items : {A : Type 0} → (List ℕ → ℕ → A) → ℕ → ℕ → List ℕ → ℕ → List A
items dec k zero f at = []
items dec k (suc n) f at = dec f at ∷ items dec k n f (at + k)

-- the signed number of an INT and of a SHORT, which records carry as their bits
abbrev pub int : ℕ → ℤ
int bits = to_z w32 bits

abbrev pub short : ℕ → ℤ
short bits = to_z w16 bits

-- each element is a byte, as in any slice of u8
pub record Bytes (f : List ℕ) : Type 0 where
  pub byte : (i : ℕ) → get_or f i 0 < 256

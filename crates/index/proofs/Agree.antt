-- Bytes that agree with an index in two sections, from the front and from the seam on: an entry more, read as its number,
-- makes the agreement longer, since parts that agree join; one entry that differs makes the bytes another list. Assumes
-- nothing.
use Prim.Native.Nat.{ℕ, ◌+◌, ◌-◌, ◌%◌, ◌^◌, ◌≤◌}
use native.Mathlib.Nat.{zero-add, one-le-pow, mod-lt}
use native.Mathlib.Omega.{arith}
use mathlib.Core.Bool.{false}
use mathlib.Core.List.{List, [], ◌++◌, append-nil}
use mathlib.Core.Path.{◌≡◌, refl, sym, ap, ap₂, ◌∙◌}
use lib.Dec.{lit<}
use lib.ListN.{length}
use Rattle.le.specs.Le.{le, bytes, part, Bytes}
use Rattle.le.proofs.Laws.{le_bytes, bytes_le, bytes_low, le-own, part_join, part-all}
use Rattle.index.specs.Answer.{same}
use Rattle.index.proofs.Same.{not_same}

-- a part that holds a number's bytes, and the number that stands there
number_is : (k v : ℕ) (f : List ℕ) (at : ℕ) → Bytes f → le k f at ≡ v % 256 ^ k → part k f at ≡ bytes k v
number_is k v f at bs e = sym (bytes_le k f at bs) ∙ ap (bytes k) e ∙ bytes_low k v

pub number_of : (k v : ℕ) (f : List ℕ) (at : ℕ) → part k f at ≡ bytes k v → le k f at ≡ v % 256 ^ k
number_of k v f at e =
    let h = mod-lt v {m = 256 ^ k} (one-le-pow k 256 (lit< tt)) in
    sym (le-own k f at) ∙ ap (λ (l : List ℕ). le k l 0) (e ∙ sym (bytes_low k v))
    ∙ ap (λ (l : List ℕ). le k l 0) (sym (append-nil (bytes k (v % 256 ^ k)))) ∙ le_bytes k (v % 256 ^ k) [] h

-- parts that agree, one behind the other
longer : (x y : List ℕ) (m n at to : ℕ) → at + m ≡ to → part m x at ≡ part m y at → part n x to ≡ part n y to → part (m + n) x at ≡ part (m + n) y at
longer x y m n at to e p q = more x ∙ ap₂ (λ (u v : List ℕ). u ++ v) p q ∙ sym (more y)
  where
    more : (f : List ℕ) → part (m + n) f at ≡ part m f at ++ part n f to
    more f = rw e at (sym (part_join m n f at))

-- a part that is not the index's
pub differs : (index x : List ℕ) (k at : ℕ) (e : List ℕ) → part k index at ≡ e → (part k x at ≡ e → ⊥) → same index x ≡ false
differs index x k at e is n = not_same index x (λ q. n (ap (λ (f : List ℕ). part k f at) (sym q) ∙ is))

-- an entry that is the index's, and one that is another
module _ (index x : List ℕ) (k v at : ℕ) (entry : part k index at ≡ bytes k v) where
  pub stands_here : Bytes x → le k x at ≡ v % 256 ^ k → part k x at ≡ part k index at
  stands_here bs e = number_is k v x at bs e ∙ sym entry

  pub differs-here : (le k x at ≡ v % 256 ^ k → ⊥) → same index x ≡ false
  differs-here n = differs index x k at (bytes k v) entry (λ q. n (number_of k v x at q))

module _ (index x : List ℕ) (seam : ℕ) where
  pub record Agree (first second : ℕ) : Type 0 where
    pub low : part first x 0 ≡ part first index 0
    pub high : part (second - seam) x seam ≡ part (second - seam) index seam
    pub above : seam ≤ second

  pub agree-none : Agree 0 seam
  unfolding part
  agree-none = let z : seam - seam ≡ 0 = omega arith in record { low = refl; high = rw z; above = omega arith }

  -- one entry more, in the first section and in the second
  pub agree-low : (first second k : ℕ) → Agree first second → part k x first ≡ part k index first → Agree (first + k) second
  agree-low first second k a e = record { low = longer x index first k 0 first (zero-add first) a.low e; high = a.high; above = a.above }

  pub agree-high : (first second k : ℕ) → Agree first second → part k x second ≡ part k index second → Agree first (second + k)
  agree-high first second k a e =
      let h = a.above in
      let n : second + k - seam ≡ (second - seam) + k = omega arith in
      record { low = a.low; high = rw n (longer x index (second - seam) k seam second (omega arith) a.high e); above = omega arith }

  -- all entries
  pub agree-all : (first second : ℕ) → Agree first second → first ≡ seam → second ≡ length index → part (length index) x 0 ≡ index
  agree-all first second a ef es =
      let h = a.above in
      let e : seam + (length index - seam) ≡ length index = omega arith in
      let low : part seam x 0 ≡ part seam index 0 = rw ef at a.low in
      let high : part (length index - seam) x seam ≡ part (length index - seam) index seam = rw es at a.high in
      rw e at (longer x index seam (length index - seam) 0 seam (zero-add seam) low high) ∙ part-all (length index) index refl

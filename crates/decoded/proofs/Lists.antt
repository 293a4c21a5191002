-- The row of some codes against its own two lists: all agree, also where a list goes on behind the row, or ends before it; and no other
-- two lists end with it. Assumes nothing.
use mathlib.Core.List.{List, [], ◌++◌, append-nil}
use mathlib.Core.Path.{◌≡◌, refl, sym, ap₂, ◌∙◌}
use Prim.Native.Nat.{ℕ, ◌≤◌, min}
use native.Mathlib.Nat.{min-le_left, min-le_right}
use native.Mathlib.Omega.{arith}
use borrow.Author.Tests.{eq-eqb, eqb-true}
use lib.Dec.{eqb}
use lib.IntN.{ℤ}
use lib.ListN.{length, take, length-map}
use Rattle.gates.specs.declared.Coding.{Coding}
use Rattle.gates.specs.Gates.{kind_of}
use Rattle.gates.specs.Rows.{shown_of, row_kinds, row_hundredths}
use Rattle.decoded.specs.Decoded.{eqℤ, alike, agreed}
use Rattle.decoded.proofs.Alike.{within, whole, longer, shorter}
use Rattle.decoded.proofs.Checked.{Ends}
use Rattle.decoded.proofs.Signs.{eqℤ-own, eqℤ-true}

module _ (c : Coding) (codes : List ℕ) where
  abbrev kinds : List ℕ
  kinds = row_kinds c codes

  abbrev hundredths : List ℤ
  hundredths = row_hundredths c codes

  pub many-kinds : length kinds ≡ length codes
  many-kinds = length-map codes (kind_of c)

  pub many-hundredths : length hundredths ≡ length codes
  many-hundredths = length-map codes (shown_of c)

  pub agreed-longer : (ks : List ℕ) (hs : List ℤ) → agreed c codes (kinds ++ ks) (hundredths ++ hs) ≡ length codes
  agreed-longer ks hs =
      let x = longer eqb (λ x. eq-eqb x x refl) kinds ks ∙ many-kinds in
      let y = longer eqℤ eqℤ-own hundredths hs ∙ many-hundredths in
      omega arith

  pub agreed-shorter : (a b : ℕ) → agreed c codes (take a kinds) (take b hundredths) ≡ min (min a (length codes)) (min b (length codes))
  agreed-shorter a b = ap₂ min (shorter eqb (λ x. eq-eqb x x refl) kinds a) (shorter eqℤ eqℤ-own hundredths b) ∙ rw (many-kinds, many-hundredths)

  pub own-ends : Ends c codes kinds hundredths
  own-ends = record { row = rw (append-nil kinds, append-nil hundredths) at (agreed-longer [] []); kinds = many-kinds; hundredths = many-hundredths }

  pub ends-own : (k : List ℕ) (h : List ℤ) → Ends c codes k h → (k ≡ kinds) × (h ≡ hundredths)
  ends-own k h e =
      let a = alike eqb kinds k in
      let b = alike eqℤ hundredths h in
      let wa : a ≤ length kinds = (within eqb kinds k).0 in
      let wb : b ≤ length hundredths = (within eqℤ hundredths h).0 in
      let la : min a b ≤ a = min-le_left a b in
      let lb : min a b ≤ b = min-le_right a b in
      let r = e.row in
      let lk = e.kinds in
      let lh = e.hundredths in
      let mk = many-kinds in
      let mh = many-hundredths in
      (sym (whole eqb eqb-true kinds k (omega arith) (omega arith)), sym (whole eqℤ eqℤ-true hundredths h (omega arith) (omega arith)))

-- The first gate at which a list differs from the row of some codes: each gate before it agrees, it does not, and no other is so.
-- Assumes nothing.
use mathlib.Core.Bool.{Bool, true, false, false≢true, ◌&&◌}
use mathlib.Core.List.{List}
use mathlib.Core.Logic.{dite}
use mathlib.Core.Path.{◌≡◌, sym, ap, ap₂, subst, ◌∙◌}
use Prim.Native.Nat.{ℕ, ◌<◌}
use native.Mathlib.Decide.{dec_lt}
use native.Mathlib.Nat.{min-le_left, min-le_right, min-eq_left, min-eq_right}
use native.Mathlib.Omega.{arith}
use borrow.Author.Tests.{eq-eqb, eqb-true}
use lib.Dec.{eqb}
use lib.IntN.{ℤ, pos}
use lib.ListN.{length, get_or, length-map, get_or-map}
use Rattle.le.proofs.Tests.{both}
use Rattle.gates.specs.declared.Coding.{Coding}
use Rattle.gates.specs.Gates.{kind_of}
use Rattle.gates.specs.Rows.{shown_of, row_kinds, row_hundredths}
use Rattle.decoded.specs.Decoded.{eqℤ, alike, agreed}
use Rattle.decoded.proofs.Signs.{eqℤ-own, eqℤ-true}
use Rattle.decoded.proofs.Alike.{within, passes, fails-there}

-- gate i is there in the row and in both lists, and they have it alike
pub record Alike (c : Coding) (codes k : List ℕ) (h : List ℤ) (i : ℕ) : Type 0 where
  pub row : i < length codes
  pub kinds : i < length k
  pub hundredths : i < length h
  pub kind : kind_of c (get_or codes i 0) ≡ get_or k i 0
  pub shown : shown_of c (get_or codes i 0) ≡ get_or h i (pos 0)

-- whether a row shows gate i as both lists have it
abbrev pub shows : Coding → List ℕ → List ℕ → List ℤ → ℕ → Bool
shows c codes k h i = eqb (kind_of c (get_or codes i 0)) (get_or k i 0) && eqℤ (shown_of c (get_or codes i 0)) (get_or h i (pos 0))

module _ (c : Coding) (codes k : List ℕ) (h : List ℤ) where
  pub shows-yes : (i : ℕ) → i < length codes → i < length k → i < length h → shows c codes k h i ≡ true → Alike c codes k h i
  shows-yes i lc lk lh e =
      let t = both (eqb (kind_of c (get_or codes i 0)) (get_or k i 0)) (eqℤ (shown_of c (get_or codes i 0)) (get_or h i (pos 0))) e in
      record { row = lc; kinds = lk; hundredths = lh; kind = eqb-true _ _ t.0; shown = eqℤ-true _ _ t.1 }

  pub shows-no : (i : ℕ) → shows c codes k h i ≡ false → Alike c codes k h i → ⊥
  shows-no i e p =
      false≢true
      (sym e ∙ ap₂ (λ (s t : Bool). s && t) (eq-eqb _ _ p.kind) (ap (λ (x : ℤ). eqℤ x (get_or h i (pos 0))) p.shown ∙ eqℤ-own (get_or h i (pos 0))))

  a : ℕ
  a = alike eqb (row_kinds c codes) k

  b : ℕ
  b = alike eqℤ (row_hundredths c codes) h

  kind_at : (i : ℕ) → get_or (row_kinds c codes) i (kind_of c 0) ≡ kind_of c (get_or codes i 0)
  kind_at i = get_or-map (kind_of c) codes i 0

  shown-at : (i : ℕ) → get_or (row_hundredths c codes) i (shown_of c 0) ≡ shown_of c (get_or codes i 0)
  shown-at i = get_or-map (shown_of c) codes i 0

  pub before : (i : ℕ) → i < agreed c codes k h → Alike c codes k h i
  unfolding a b
  before i l =
      let wa = within eqb (row_kinds c codes) k in
      let wb = within eqℤ (row_hundredths c codes) h in
      let x = wa.0 in
      let y = wa.1 in
      let z = wb.1 in
      let la = min-le_left a b in
      let lb = min-le_right a b in
      let n = length-map codes (kind_of c) in
      record {
        row = omega arith;
        kinds = omega arith;
        hundredths = omega arith;
        kind = sym (kind_at i) ∙ eqb-true _ _ (passes eqb (kind_of c 0) 0 (row_kinds c codes) k i (omega arith));
        shown = sym (shown-at i) ∙ eqℤ-true _ _ (passes eqℤ (shown_of c 0) (pos 0) (row_hundredths c codes) h i (omega arith));
      }

  kinds-end : Alike c codes k h a → ⊥
  unfolding a
  kinds-end p =
      let n = length-map codes (kind_of c) in
      let r = p.row in
      false≢true (sym (fails-there eqb (kind_of c 0) 0 (row_kinds c codes) k (omega arith) p.kinds) ∙ eq-eqb _ _ (kind_at a ∙ p.kind))

  hundredths-end : Alike c codes k h b → ⊥
  unfolding b
  hundredths-end p =
      let n = length-map codes (shown_of c) in
      let r = p.row in
      false≢true (sym (fails-there eqℤ (shown_of c 0) (pos 0) (row_hundredths c codes) h (omega arith) p.hundredths) ∙ ap (λ (x : ℤ). eqℤ x (get_or h b (pos 0))) (shown-at b ∙ p.shown) ∙ eqℤ-own (get_or h b (pos 0)))

  pub there : Alike c codes k h (agreed c codes k h) → ⊥
  unfolding a b
  there p =
      dite (dec_lt b a)
      (λ l. hundredths-end (subst (Alike c codes k h) (min-eq_right (omega arith)) p))
      (λ l. kinds-end (subst (Alike c codes k h) (min-eq_left (omega arith)) p))

  -- no other gate is so
  pub first : (m : ℕ) → ((i : ℕ) → i < m → Alike c codes k h i) → (Alike c codes k h m → ⊥) → m ≡ agreed c codes k h
  first m up not =
      let g = agreed c codes k h in
      dite (dec_lt m g) (λ l. absurd (not (before m l)))
      (λ l. dite (dec_lt g m) (λ s. absurd (there (up g s))) (λ s. omega arith))

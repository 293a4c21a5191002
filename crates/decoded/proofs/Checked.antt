-- What `checked` says, by where the row and the two lists end. Assumes nothing.
use mathlib.Core.Bool.{Bool, true, false≢true, ◌&&◌}
use mathlib.Core.List.{List}
use mathlib.Core.Path.{◌≡◌, sym, ◌∙◌}
use Prim.Native.Nat.{ℕ}
use borrow.Author.Tests.{eq-eqb, eqb-true}
use lib.Dec.{eqb}
use lib.IntN.{ℤ}
use lib.ListN.{length}
use Rattle.le.proofs.Tests.{both, fails}
use Rattle.gates.specs.declared.Coding.{Coding}
use Rattle.decoded.specs.Decoded.{agreed, same, differs, checked}
use Rattle.decoded.proofs.Alike.{by}

module _ (c : Coding) (codes k : List ℕ) (h : List ℤ) where
  -- all three end at the same gate, and agree up to it
  pub record Ends : Type 0 where
    pub row : agreed c codes k h ≡ length codes
    pub kinds : length k ≡ length codes
    pub hundredths : length h ≡ length codes

  abbrev test : Bool
  test = eqb (agreed c codes k h) (length codes) && (eqb (length k) (length codes) && eqb (length h) (length codes))

  passed : test ≡ true → Ends
  passed e =
      let x = both (eqb (agreed c codes k h) (length codes)) (eqb (length k) (length codes) && eqb (length h) (length codes)) e in
      let y = both (eqb (length k) (length codes)) (eqb (length h) (length codes)) x.1 in
      record {
        row = eqb-true (agreed c codes k h) (length codes) x.0;
        kinds = eqb-true (length k) (length codes) y.0;
        hundredths = eqb-true (length h) (length codes) y.1;
      }

  passes : Ends → test ≡ true
  passes e = rw (eq-eqb (agreed c codes k h) (length codes) e.row, eq-eqb (length k) (length codes) e.kinds, eq-eqb (length h) (length codes) e.hundredths)

  pub checked-same : Ends → checked c codes k h ≡ same
  unfolding checked
  checked-same e = rw (passes e)

  pub checked-differs : (Ends → ⊥) → checked c codes k h ≡ differs (agreed c codes k h)
  unfolding checked
  checked-differs not = rw (fails test (λ e. not (passed e)))

  pub ends-or : {P : Type 0} → (Ends → P) → ((Ends → ⊥) → P) → P
  ends-or f g = by test (λ e. f (passed e)) (λ e. g (λ x. false≢true (sym e ∙ passes x)))

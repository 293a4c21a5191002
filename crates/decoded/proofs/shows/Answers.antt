use mathlib.Core.Bool.{cond}
use mathlib.Core.Path.{◌≡◌, sym, ap, ap₂, ◌∙◌}
use Prim.Native.Nat.{ℕ}
use borrow.Author.Tests.{eq-eqb, ne_eqb}
use lib.Dec.{eqb}
use lib.IntN.{ℤ}
use mir.Facts.{to_z-of_z}
use Rattle.gates.specs.Gates.{told_of, kind_of, hundredths_of, Carried}
use Rattle.decoded.specs.Decoded.{eqℤ}
use Rattle.decoded.proofs.Bounds.{measured-shows}
use Rattle.decoded.proofs.shows.Goals as goal

-- the kind is the code's
own : (c : goal.Else-own-kind) → c.kind-own.result ≡ kind_of c.args.c c.args.code
own c = c.kind-own.ensures ∙ ap (λ (t : ℕ × Carried). t.0) c.gate_of-gate.ensures

pub returns-else-own-kind : goal.returns-else-own-kind
returns-else-own-kind c =
    let a = c.args in
    rw (own c, ne_eqb (kind_of a.c a.code) a.kind (λ e. c.if-own-kind.false (own c ∙ e)))

own-2 : (c : goal.After-is_hundredths) → c.kind-own.result ≡ kind_of c.args.c c.args.code
own-2 c = c.kind-own.ensures ∙ ap (λ (t : ℕ × Carried). t.0) c.gate_of-gate.ensures

pub returns-then-own-kind : goal.returns-then-own-kind
unfolding told_of
returns-then-own-kind c =
    let a = c.args in
    let e = own-2 c in
    rw (eq-eqb (kind_of a.c a.code) a.kind (sym e ∙ c.if-own-kind.true))
    (c.is_hundredths.ensures
    ∙ ap₂ (λ (m : ℕ) (h : ℤ). eqℤ (hundredths_of a.c m) h)
    (c.measured.ensures ∙ ap (λ (x : ℕ). cond (eqb x 5) a.code a.c.offset) e)
    (to_z-of_z c.ranges.h)
    ∙ ap (λ (x : ℤ). eqℤ x a.h) (measured-shows a.c a.code (eqb (kind_of a.c a.code) 5)))

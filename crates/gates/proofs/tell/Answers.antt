use mathlib.Core.Path.{◌≡◌, sym, ap, ◌∙◌}
use Prim.Native.Nat.{ℕ}
use borrow.Author.Rules.{sfits_of}
use mir.Facts.{to_z-of_z}
use Rattle.gates.specs.Gates.{Carried, kind_of}
use Rattle.gates.proofs.Gates.{told-value, told-other}
use Rattle.gates.proofs.tell.Goals as goal

-- the kind that is tested is the code's
tested : (c : goal.After-hundredths) → c.kind.result ≡ kind_of c.args.c c.args.code
tested c = c.kind.ensures ∙ ap (λ (t : ℕ × Carried). t.0) c.gate_of-gate.ensures

pub returns-then-kind-eq-VALUE : goal.returns-then-kind-eq-VALUE
returns-then-kind-eq-VALUE c =
    let a = c.args in
    rw (
      told-value a.c a.code (sym (tested c) ∙ c.if-kind-eq-VALUE.true),
      c.gate_of-gate.ensures,
      to_z-of_z {z = c.difference.result} (sfits_of c.difference.type_inv),
      c.difference.ensures,
      to_z-of_z (sfits_of c.hundredths.type_inv),
      c.hundredths.ensures,
    )

tested-2 : (c : goal.Else-kind-eq-VALUE) → c.kind.result ≡ kind_of c.args.c c.args.code
tested-2 c = c.kind.ensures ∙ ap (λ (t : ℕ × Carried). t.0) c.gate_of-gate.ensures

pub returns-else-kind-eq-VALUE : goal.returns-else-kind-eq-VALUE
returns-else-kind-eq-VALUE c =
    let a = c.args in
    rw (told-other a.c a.code (λ k. c.if-kind-eq-VALUE.false (tested-2 c ∙ k)), c.gate_of-gate.ensures)

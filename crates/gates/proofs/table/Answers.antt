-- The loop's invariant: the entries below `code` are right. Assumes nothing.
use mathlib.Core.Path.{refl, ap, ◌∙◌}
use Prim.Native.Nat.{◌<◌}
use native.Mathlib.Nat.{ne_of_lt}
use native.Mathlib.Omega.{arith}
use borrow.Author.Count.{below_none, below_more}
use borrow.Author.Rules.{sfits_of}
use lib.IntN.{pos}
use lib.ListN.{length, length-set}
use lib.Seq.{get_or-set_same, get_or-set_other}
use mir.Syntax.{w32}
use mir.Facts.{to_z-of_z}
use Rattle.gates.specs.Gates.{Values}
use Rattle.gates.proofs.table.Goals as goal

pub loop-code-init : goal.loop-code-init
loop-code-init c = (refl, below_none _)

pub loop-code-preserved : goal.loop-code-preserved
loop-code-preserved c =
    let there : c.loop-code.code < length c.loop-code.h-items = omega arith in (
      simp length-set c.loop-code.invariant.0,
      below_more _ _
          (λ j h. get_or-set_other c.loop-code.h-items c.loop-code.code j _ (pos 0) (ne_of_lt h) ∙ c.loop-code.invariant.1 j h)
          (get_or-set_same c.loop-code.h-items c.loop-code.code _ (pos 0) there ∙ to_z-of_z {w = w32} (sfits_of c.struct_told-1.given.1.1.1.0.1) ∙ ap (λ (v : Values). v.hundredths) c.tell.ensures),
    )

pub returns : goal.returns
returns c = record { long = c.loop-code.invariant.0; entry = λ j h. c.loop-code.invariant.1 j (omega arith) }

-- The scan type is the task's, where its block stands. Assumes nothing.
use Prim.Native.Nat.{ℕ}
use mathlib.Core.Path.{sym, ap, ◌∙◌}
use native.Mathlib.Omega.{arith}
use Rattle.le.proofs.Laws.{le-part}
use Rattle.rules.specs.States.{closing}
use Rattle.task.specs.Task.{task_of, task_at}
use Rattle.mend.proofs.lay.last_state.Goals as goal

pub returns : goal.returns
unfolding task_of task_at
returns c =
    let s = c.args.s in
    c.closing.ensures
    ∙ ap (λ (scan : ℕ). closing scan s.cut s.cut) (c.u32_at.ensures ∙ sym (le-part 4 256 _ 160 164 (omega arith)))

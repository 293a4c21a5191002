-- The loop's invariant: the entries below `code` are right. Assumes nothing.
use mathlib.Core.Path.{◌≡◌}
use Prim.Native.Nat.{ℕ, ◌<◌}
use lib.IntN.{pos}
use lib.ListN.{length, get_or}
use Rattle.gates.specs.Rows.{shown_of}
use Rattle.gates.proofs.table.Given as goal

abbrev pub invariant-loop-code : goal.invariant-loop-code
invariant-loop-code l = (length l.h-items ≡ 256) × ((j : ℕ) → j < l.code → get_or l.h-items j (pos 0) ≡ shown_of l.c j)

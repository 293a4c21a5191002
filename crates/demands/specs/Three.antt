-- DEMAND 3: growth never changes what was said.
-- B is any file longer than A that begins with A: A ++ C, with a byte at least in C.
use Rattle.std.specs.Prelude.{List, ◌++◌, ℕ, ◌<◌, length}
use Rattle.le.specs.Le.{Bytes}
use Rattle.reading.specs.Growth.{Grows}
use Rattle.ask.specs.Growth.{AnswersGrow}
use Rattle.decoded.specs.Growth.{ChecksGrow}
use Rattle.citing.specs.Growth.{CitesGrow}
use Rattle.mend.specs.Growth.{MendGrows}
use Rattle.pick.specs.Growth.{PickGrows}
use Rattle.engine.specs.Growth.{EngineGrows}

pub record Growth (A C : List ℕ) : Type 0 where
  -- radials and verdicts: the whole radials of A begin those of B, with the same bytes; refused stays refused, complete
  -- turns into refused 25 where A ended, open wants at least one byte, and what becomes of it with fewer or more
  pub reading : Grows A C
  -- answers: each one on a radial whole in A is the same in B; what a gate's 30 and a tally may turn into; a tally keeps its wedge, and
  -- none of its counts falls
  pub answers : AnswersGrow A C
  -- what is said of a decoded row of a radial whole in A is said in B
  pub checks : ChecksGrow A C
  -- what is cited of a refused A, and for a gate of a radial whole in A, is cited in B
  pub cites : CitesGrow A C
  -- what is kept of A in mending is the first of what is kept of B; while no further radial is whole, the volume stays
  pub mends : Bytes (A ++ C) → MendGrows A C
  -- the radials of A are picked from B as from A, and the first of them that would have no moment left is still the first; what follows a
  -- complete or a refused A is refused by 36
  pub picks : PickGrows A C
  -- an index that is right for B leads to the radials of A where they are in A, and a list is told the same of them; no index is right for
  -- what follows a complete or a refused A
  pub lists : EngineGrows A C

abbrev pub DemandThree : Type 0
DemandThree = (A C : List ℕ) → 0 < length C → Growth A C

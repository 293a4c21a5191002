-- The division behind a value that is answered (document 01, "What reading tells"; document 02, #105).
use Rattle.std.specs.Prelude.{◌≤◌, ◌≡◌, Float}
use Rattle.gates.specs.Exact.{Quotient}
use Rattle.gates.specs.Gates.{its-float, Values}

-- it carries a float that is the quotient of its difference by its scale, which is 1 to 32,768
pub record Divided (v : Values) : Type 0 where
  pub float : Float
  pub gate : v.gate ≡ (5, its-float float)
  pub scale : v.scale ≤ 32768
  pub quotient : Quotient v.difference v.scale float

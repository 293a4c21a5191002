-- What a filled row shows, by the answers of the gate question (document 01, "What reading tells"; document 02, #101).
use Rattle.std.specs.Prelude.{ℕ, ◌<◌, List, ◌≡◌, ℤ, pos, get_or}
use Rattle.gates.specs.Gates.{Values}
use Rattle.gates.specs.Telling.{refused, answered}
use Rattle.ask.specs.Growth.{gate_asked}

-- a gate that is answered, and in the row's two buffers its kind and its hundredths
pub record ShownAt (f : List ℕ) (n t i : ℕ) (k : List ℕ) (h : List ℤ) : Type 0 where
  pub gate : Values
  pub answer : gate_asked f n t i ≡ answered gate
  pub kind : get_or k i 0 ≡ gate.gate.0
  pub hundredths : get_or h i (pos 0) ≡ gate.hundredths

-- m gates are shown, and there is no further one
pub record Shown (f : List ℕ) (n t m : ℕ) (k : List ℕ) (h : List ℤ) : Type 0 where
  pub each : (i : ℕ) → i < m → ShownAt f n t i k h
  pub last : gate_asked f n t m ≡ refused 32 0

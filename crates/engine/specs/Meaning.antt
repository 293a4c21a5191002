-- What the engine's answer means (document 02, #109), question by question, by what the plain walk answers; and how the index leads to a
-- radial.
use Rattle.std.specs.Prelude.{ℕ, ◌≤◌, ◌<◌, true, List, ◌⊎◌, ◌≡◌, ℤ, pos, length, get_or, drop, Result}
use Rattle.refusal.specs.declared.Refusal.{Refusal}
use Rattle.le.specs.Le.{Bytes}
use Rattle.gates.specs.Gates.{Values}
use Rattle.gates.specs.Telling.{Telling, refused, answered}
use Rattle.reading.specs.Reading.{stretches, nth}
use Rattle.ask.specs.Growth.{gate_asked}
use Rattle.ask.specs.Shown as row
use Rattle.index.specs.Answer.{right_for}
use Rattle.index.specs.Forms.{place_said, start_of_found}
use Rattle.engine.specs.Engine.{asked, told_list, Answers}

-- an index that is right for a file, whichever of the two forms it has, leads by each number to the whole radial that the plain walk
-- finds, and nowhere where that finds none
abbrev pub Leads : Type 0
Leads = (f x : List ℕ) → Bytes f → right_for f x ≡ true → (n : ℕ) → place_said x n ≡ start_of_found (nth (stretches f) n)

-- what the plain walk answers, and the kind and the hundredths that stand for it. A kind of 6 or less is an answer's own, and one of 30 to
-- 32 a refusal's number
pub data Stands : Telling Values → ℕ → ℤ → Type 0 where
  its_own : {v : Values} → v.gate.0 ≤ 6 → Stands (answered v) v.gate.0 v.hundredths
  no-radial : Stands (refused 30 0) 30 (pos 0)
  no-moment : Stands (refused 31 0) 31 (pos 0)
  no-gate : Stands (refused 32 0) 32 (pos 0)

-- three lists whose questions, m of them, are answered, and the two buffers before and after
module _ (f ns ts gs k : List ℕ) (h : List ℤ) (m : ℕ) (k' : List ℕ) (h' : List ℤ) where
  pub record AllStand : Type 0 where
    -- one of the lists ends there, and none before
    pub radials : m ≤ length ns
    pub types : m ≤ length ts
    pub gates : m ≤ length gs
    pub shortest : (m ≡ length ns) ⊎ ((m ≡ length ts) ⊎ (m ≡ length gs))
    -- each has what stands for the plain walk's answer
    pub each : (i : ℕ) → i < m → Stands (gate_asked f (get_or ns i 0) (get_or ts i 0) (get_or gs i 0)) (get_or k' i 0) (get_or h' i (pos 0))
    -- behind them the buffers are what they were
    pub kinds : drop m k' ≡ drop m k
    pub hundredths : drop m h' ≡ drop m h

abbrev pub EachStands : Type 0
EachStands = (f x ns ts gs k k' : List ℕ) (h h' : List ℤ) (r : Result ℕ Refusal) (m : ℕ) → Answers f x (asked ns ts gs) k h r k' h' → told_list r ≡ answered m
    → AllStand f ns ts gs k h m k' h'

-- a gate of a row is shown here as the row question shows it
abbrev pub AsInRow : Type 0
AsInRow = (f : List ℕ) (n t m : ℕ) (k : List ℕ) (h : List ℤ) → row.Shown f n t m k h → (g : ℕ) → g < m → (a : ℕ) (b : ℤ) → Stands (gate_asked f n t g) a b
    → (a ≡ get_or k g 0) × (b ≡ get_or h g (pos 0))

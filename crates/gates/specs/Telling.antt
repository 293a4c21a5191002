-- What a question is told (document 01, "Field rules and refusal numbers").
use Rattle.std.specs.Prelude.{ℕ}

-- a refusal with its number and place, or an answer with its values
pub data Telling (A : Type 0) : Type 0 where
  refused : ℕ → ℕ → Telling A
  answered : A → Telling A

-- What the reader says of a record at a walk that its caller made, with no room behind it.
use Rattle.std.specs.Prelude.{ℕ, ◌^◌, ltb}
use Rattle.reading.specs.declared.step.Step.{Step}
use Rattle.reading.specs.declared.step.Step.TheVariants.{Refused}
use Rattle.reading.specs.Step.{pick}

-- No room has 2^63 bytes or more: a walk that counts as many says more than any room has ("Field rules and refusal
-- numbers", 37). Any other walk is answered with what is said there
unfoldable pub in_room : ℕ → Step → Step
in_room count says = pick (ltb count (2 ^ 63)) says (Refused 37 0)

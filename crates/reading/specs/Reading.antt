-- A reading: steps from the start while blocks are taken. Everything told of a file is told of this (document 01, "What
-- reading tells").
use Rattle.std.specs.Prelude.{ℕ, zero, suc, ◌+◌, ◌-◌, Bool, true, false, List, [], ◌∷◌, ◌≡◌, length, take, drop, Option, Some, None}
use Rattle.walk.specs.declared.due.Walk.{Walk}
use Rattle.reading.specs.declared.step.Step.{Step}
use Rattle.reading.specs.declared.step.Step.TheVariants.{Took, Open, Refused, Complete}
use Rattle.reading.specs.declared.Verdict.{Verdict}
use Rattle.reading.specs.declared.Verdict.TheVariants as verdict
use Rattle.reading.specs.declared.Reading.{Reading}
use Rattle.reading.specs.declared.Stretch.{Stretch}
use Rattle.reading.specs.declared.Onward.{Onward}
use Rattle.reading.specs.declared.Onward.TheVariants.{Whole, Stopped}
use Rattle.walk.specs.Due.{at_start, ends_radial}
use Rattle.reading.specs.Step.{step_by, step_of}

-- Whatever is made along a walk: z of the walk where it stops; s of each walk, the next, and what is made from there on. `asked` says
-- whether hope is asked for.
unfoldable pub along : {X : Type 0} → (Walk → X) → (Walk → Walk → X → X) → Step → Walk → (Walk → X) → X
along z s (Took n) w k = s w n (k n)
along z s (Open m) w k = z w
along z s (Refused n p) w k = z w
along z s Complete w k = z w

unfoldable pub walk_by : {X : Type 0} → Bool → (Walk → X) → (Walk → Walk → X → X) → ℕ → List ℕ → Walk → X
walk_by asked z s zero f w = z w
walk_by asked z s (suc k) f w = along z s (step_by asked f w) w (λ n. walk_by asked z s k f n)

-- more steps than any walk through f can take: of two, one moves on by a byte at least
abbrev pub fuel : List ℕ → ℕ
fuel f = suc (suc (length f + length f))

-- the walk at which a reading stops
abbrev pub last_by : Bool → ℕ → List ℕ → Walk → Walk
last_by asked k f w = walk_by asked (λ v. v) (λ v n r. r) k f w

abbrev pub stop_by : Bool → List ℕ → Walk
stop_by asked f = last_by asked (fuel f) f at_start

-- the stretch of a radial that its last data makes whole
abbrev pub stretch : Walk → Walk → Stretch
stretch w n = record { start = w.present.start; end = n.at; cut = w.count.cut }

unfoldable pub stretch_if : Bool → Walk → Walk → List Stretch → List Stretch
stretch_if true w n r = stretch w n ∷ r
stretch_if false w n r = r

abbrev pub stretch_of : Walk → Walk → List Stretch → List Stretch
stretch_of w n r = stretch_if (ends_radial w.due w.rest.todo) w n r

-- the stretches of the radials that become whole from a walk on, and of a file's whole radials, in order
abbrev pub trace_by : Bool → ℕ → List ℕ → Walk → List Stretch
trace_by asked k f w = walk_by asked (λ v. []) stretch_of k f w

abbrev pub stretches_by : Bool → List ℕ → List Stretch
stretches_by asked f = trace_by asked (fuel f) f at_start

-- the bytes of a stretch: a radial's own part of the file
abbrev pub bytes_of : List ℕ → Stretch → List ℕ
bytes_of f s = take (s.end - s.start) (drop s.start f)

-- a verdict in document 01's words: 0 is complete, 1 open with the missing bytes, 2 refused with number and place
unfoldable pub verdict_told : Verdict → List ℕ
verdict_told verdict.Complete = 0 ∷ []
verdict_told (verdict.Open m) = 1 ∷ m ∷ []
verdict_told (verdict.Refused n p) = 2 ∷ n ∷ p ∷ []

-- what the last step says (it takes no block, so the first line is never used)
unfoldable pub ending_told : Step → List ℕ
ending_told (Took n) = []
ending_told Complete = 0 ∷ []
ending_told (Open m) = 1 ∷ m ∷ []
ending_told (Refused n p) = 2 ∷ n ∷ p ∷ []

abbrev pub told_by : Bool → List ℕ → List ℕ
told_by asked f = ending_told (step_by asked f (stop_by asked f))

-- ---- the plain reading: by the blocks' own rules alone, as if a file's hope were never asked for (document 02, #110)

abbrev pub plain_stop : List ℕ → Walk
plain_stop f = stop_by false f

abbrev pub plain_stretches : List ℕ → List Stretch
plain_stretches f = stretches_by false f

abbrev pub plain_told : List ℕ → List ℕ
plain_told f = told_by false f

-- ---- the reading

abbrev pub walk_on : {X : Type 0} → (Walk → X) → (Walk → Walk → X → X) → ℕ → List ℕ → Walk → X
walk_on z s k f w = walk_by true z s k f w

abbrev pub last : ℕ → List ℕ → Walk → Walk
last k f w = last_by true k f w

abbrev pub stop : List ℕ → Walk
stop f = stop_by true f

abbrev pub trace : ℕ → List ℕ → Walk → List Stretch
trace k f w = trace_by true k f w

abbrev pub stretches : List ℕ → List Stretch
stretches f = stretches_by true f

-- the last step, which takes no block
abbrev pub ending : List ℕ → Step
ending f = step_of f (stop f)

abbrev pub told : List ℕ → List ℕ
told f = told_by true f

-- reading tells the verdict, the end of the last accepted block, and the whole radials
pub record Tells (f : List ℕ) (r : Reading) : Type 0 where
  pub verdict : verdict_told r.verdict ≡ told f
  pub read : r.read ≡ (stop f).at
  pub radials : r.radials ≡ length (stretches f)

-- on to where a further radial is whole, or the walk stops
unfoldable pub advance_if : Bool → Walk → Walk → Onward → Onward
advance_if true w n r = Whole (stretch w n) n
advance_if false w n r = r

abbrev pub on_to : Walk → Walk → Onward → Onward
on_to w n r = advance_if (ends_radial w.due w.rest.todo) w n r

abbrev pub advance_of : List ℕ → Walk → Onward
advance_of f w = walk_on (λ v. Stopped v) on_to (fuel f) f w

-- the stretch with a sequence number, from 1
unfoldable pub nth : List Stretch → ℕ → Option Stretch
nth [] k = None
nth (s ∷ r) zero = None
nth (s ∷ r) (suc zero) = Some s
nth (s ∷ r) (suc (suc k)) = nth r (suc k)

-- When a file is refused, open or complete (document 01, "refused exactly when" and "What reading tells"): exactly when the
-- block that is due, behind the last accepted one, breaks a rule or ends hope, is not all there, or no block is due any more.
use Rattle.std.specs.Prelude.{true, false, List, [], ◌∷◌, ◌≡◌, ℕ, ◌+◌, ◌<◌, ◌≤◌, length, take}
use Rattle.rules.specs.declared.check.Clause.{Clause}
use Rattle.rules.specs.Check.{Rule, Hold, First}
use Rattle.cut.specs.Cut.{cut_at, cut_rules}
use Rattle.generic.specs.Generic.{generic_at, generic_rules}
use Rattle.moment.specs.Moment.{moment_at, moment_rules}
use Rattle.radial.specs.Radial.{radial_at, radial_rules}
use Rattle.site.specs.Site.{site_at, site_rules}
use Rattle.task.specs.Task.{task_at, task_rules}
use Rattle.walk.specs.declared.due.Due.{Due}
use Rattle.walk.specs.declared.due.Due.TheVariants as due
use Rattle.walk.specs.declared.due.Walk.{Walk}
use Rattle.walk.specs.Due.{size_of, is_end, radial_due, moment_due}
use Rattle.reading.specs.Step.{hope_at}
use Rattle.reading.specs.Reading.{stop, told}

-- the rules of the block that is due, in byte order, of its record in f; data has none ("Field rules and refusal numbers")
unfoldable pub rules_of : Due → List ℕ → Walk → List Rule
rules_of due.Generic f w = generic_rules (generic_at f w.at)
rules_of due.Site f w = site_rules (site_at f w.at)
rules_of due.Task f w = task_rules (task_at f w.at)
rules_of due.Cut f w = cut_rules (cut_at f w.at)
rules_of due.Radial f w = radial_rules (radial_at f w.at) (radial_due w)
rules_of due.Moment f w = moment_rules (moment_at f w.at) (moment_due w)
rules_of due.Data f w = []
rules_of due.Nothing f w = []

-- a file to be refused: its due block is all there, and the first broken clause of that block's list has this number, at this
-- place less the block's; or bytes follow a complete volume (number 25); or the due block keeps its rules, and no hope is left behind
-- it (number 40, at the block's first byte: document 02, #110)
pub data IsRefused (f : List ℕ) : ℕ → ℕ → Type 0 where
  rule : (c : Clause) → is_end (stop f).due ≡ false → (stop f).at + size_of (stop f) ≤ length f → First (rules_of (stop f).due f (stop f)) c
      → IsRefused f c.number ((stop f).at + c.place)
  trailing : is_end (stop f).due ≡ true → (stop f).at < length f → IsRefused f 25 (stop f).at
  hopeless : is_end (stop f).due ≡ false → (stop f).at + size_of (stop f) ≤ length f → Hold (rules_of (stop f).due f (stop f))
      → hope_at (stop f).due (take ((stop f).at + size_of (stop f)) f) (stop f) ≡ false → IsRefused f 40 (stop f).at

-- an open one: so many bytes are missing from the block that is due
pub record IsOpen (f : List ℕ) (n : ℕ) : Type 0 where
  pub due : is_end (stop f).due ≡ false
  pub some : 0 < n
  pub missing : length f + n ≡ (stop f).at + size_of (stop f)

-- a complete one: the volume is over, and so is the file
pub record IsComplete (f : List ℕ) : Type 0 where
  pub due : is_end (stop f).due ≡ true
  pub all : (stop f).at ≡ length f

-- each is told exactly then
pub record ToldExactly (f : List ℕ) : Type 0 where
  pub refused-only : (n p : ℕ) → told f ≡ 2 ∷ n ∷ p ∷ [] → IsRefused f n p
  pub refused-when : (n p : ℕ) → IsRefused f n p → told f ≡ 2 ∷ n ∷ p ∷ []
  pub open-only : (n : ℕ) → told f ≡ 1 ∷ n ∷ [] → IsOpen f n
  pub open-when : (n : ℕ) → IsOpen f n → told f ≡ 1 ∷ n ∷ []
  pub complete-only : told f ≡ 0 ∷ [] → IsComplete f
  pub complete-when : IsComplete f → told f ≡ 0 ∷ []

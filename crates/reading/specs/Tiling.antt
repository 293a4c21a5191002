-- What a whole radial is made of (document 01, "Blocks" and "Tiling"): its header, and moments that tile the rest of its
-- stretch, each of which keeps its rules.
use Rattle.std.specs.Prelude.{ℕ, suc, ◌+◌, ◌-◌, List, [], ◌∷◌, ◌≡◌}
use Rattle.rules.specs.Masks.{with_bit}
use Rattle.std.specs.Prelude.{Ok}
use Rattle.moment.specs.declared.MomentDue.{MomentDue}
use Rattle.radial.specs.declared.RadialDue.{RadialDue}
use Rattle.moment.specs.Moment.{moment_at, moment_check, moment_size}
use Rattle.radial.specs.Radial.{radial_at, radial_check, radial_size}
use Rattle.reading.specs.declared.Stretch.{Stretch}

-- what a moment is checked against
abbrev pub due_with : ℕ → ℕ → ℕ → ℕ → ℕ → MomentDue
due_with mask sizes seen left todo = record { mask = mask; sizes = sizes; seen = seen; left = left; todo = todo }

-- `todo` moments of the file f stand from place `at` on, one behind the other, up to `end`, and each keeps its rules
pub data Tiled (f : List ℕ) (mask sizes : ℕ) : ℕ → ℕ → ℕ → ℕ → ℕ → Type 0 where
  none : {seen left end : ℕ} → Tiled f mask sizes seen left 0 end end
  more : {seen left todo at end : ℕ} → moment_check (moment_at f at) (due_with mask sizes seen left (suc todo)) ≡ (Ok tt)
      → Tiled f mask sizes (with_bit seen (moment_at f at).data_type) (left - (moment_size + (moment_at f at).length)) todo (at + moment_size + (moment_at f at).length) end
      → Tiled f mask sizes seen left (suc todo) at end

-- a stretch of f is a whole radial: its header keeps its rules, and its moments tile what follows the header
pub record WholeRadial (f : List ℕ) (s : Stretch) : Type 0 where
  pub against : RadialDue
  pub cut : s.cut ≡ against.cut
  pub header : radial_check (radial_at f s.start) against ≡ (Ok tt)
  pub mask : ℕ
  pub sizes : ℕ
  pub moments : Tiled f mask sizes 0 (radial_at f s.start).length_of_data (radial_at f s.start).moment_number (s.start + radial_size) s.end

-- each of a list of stretches is a whole radial of f
abbrev pub AllWhole : List ℕ → List Stretch → Type 0
AllWhole f [] = Unit {0}
AllWhole f (s ∷ ss) = WholeRadial f s × AllWhole f ss

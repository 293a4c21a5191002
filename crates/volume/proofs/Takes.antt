-- The walks between the blocks of a volume, written out, and each kind of block taken where it stands. Assumes nothing.
use Prim.Native.Nat.{ℕ, ◌+◌, ◌-◌}
use mathlib.Core.Bool.{Bool, false, not, cond}
use mathlib.Core.List.{List}
use lib.Dec.{eqb, ltb}
use lib.ListN.{length}
use Rattle.rules.specs.States.{closing}
use Rattle.cut.specs.declared.Cut.{Cut}
use Rattle.moment.specs.declared.Moment.{Moment}
use Rattle.radial.specs.declared.Radial.{Radial}
use Rattle.task.specs.declared.Task.{Task}
use Rattle.walk.specs.declared.due.Due.{Due}
use Rattle.walk.specs.declared.due.Due.TheVariants as due
use Rattle.walk.specs.declared.due.Plan.{Plan}
use Rattle.walk.specs.declared.due.Count.{Count}
use Rattle.walk.specs.declared.due.Present.{Present}
use Rattle.walk.specs.declared.due.Rest.{Rest}
use Rattle.walk.specs.declared.due.Walk.{Walk}
use Rattle.walk.specs.Due.{due_if}
use Rattle.walk.specs.After.{after_data_if}
use Rattle.volume.specs.Volume.{VolumeMoment, tiled, types_of}

-- ---- walks

abbrev pub walk_at : Due → Plan → Count → Present → ℕ → Rest → Walk
walk_at d pl co pr at re = record { due = d; at = at; plan = pl; count = co; present = pr; rest = re }

abbrev pub plan_of : Task → Plan
plan_of t = record { scan_type = t.scan_type; cuts = t.cut_number }

-- a radial is due, in cut k, with so many before it in the volume and in the cut
abbrev pub radial_walk : Task → ℕ → ℕ → ℕ → ℕ → Present → Rest → Walk
radial_walk t k before in_cut at pr re = walk_at due.Radial (plan_of t) (record { cut = k; whole = before; in_cut = in_cut }) pr at re

-- cut k is closed, and a later one follows, or none
abbrev pub closed_walk : Bool → Task → ℕ → ℕ → ℕ → Present → Rest → Walk
closed_walk later t k before at pr re =
    walk_at (due_if (not later) due.Nothing due.Radial) (plan_of t) (record { cut = cond later (k + 1) k; whole = before; in_cut = 0 }) pr at re

-- the present radial, of cut c
abbrev pub present_of : Cut → Radial → ℕ → Present
present_of c r start = record { start = start; state = r.state; sequence = r.sequence; mask = c.moments_mask; sizes = c.size_mask }

-- a radial of cut k is the present one
abbrev pub count_at : ℕ → Radial → ℕ → Count
count_at k r before = record { cut = k; whole = before; in_cut = r.radial_number }

-- a moment of it is due, and a moment's data
abbrev pub moment_walk : Task → Cut → ℕ → Radial → ℕ → ℕ → ℕ → Rest → Walk
moment_walk t c k r before start at re = walk_at due.Moment (plan_of t) (count_at k r before) (present_of c r start) at re

abbrev pub data_walk : Task → Cut → ℕ → Radial → ℕ → ℕ → ℕ → Rest → Walk
data_walk t c k r before start at re = walk_at due.Data (plan_of t) (count_at k r before) (present_of c r start) at re

-- the rest of a radial, once the moments `read` are read
abbrev pub rest_of : Radial → List VolumeMoment → ℕ → Rest
rest_of r read len =
    record { todo = r.moment_number - length read; left = r.length_of_data - tiled read; seen = types_of read; length = len }

-- the radial is whole
abbrev pub whole_walk : Task → Cut → ℕ → Radial → ℕ → ℕ → ℕ → Rest → Walk
whole_walk t c k r before start at re =
    after_data_if false (eqb r.state (closing t.scan_type t.cut_number k)) (ltb k t.cut_number) (data_walk t c k r before start at re) at

-- a cut is due, with so many to come
abbrev pub nowhere : Present
nowhere = record { start = 0; state = 0; sequence = 0; mask = 0; sizes = 0 }

abbrev pub cut_walk : Task → ℕ → ℕ → ℕ → Walk
cut_walk t j at todo = walk_at due.Cut (plan_of t) (record { cut = j; whole = 0; in_cut = 0 }) nowhere at (record { todo = todo; left = 0; seen = 0; length = 0 })

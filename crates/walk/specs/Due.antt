-- Which block is due, where, and what the blocks before it have settled.
use Rattle.std.specs.Prelude.{ℕ, ◌+◌, ◌-◌, ◌*◌, Bool, true, false, eqb}
use Rattle.moment.specs.Moment.{moment_size}
use Rattle.radial.specs.Radial.{radial_size}
use Rattle.cut.specs.Cut.{cut_size}
use Rattle.task.specs.Task.{task_size}
use Rattle.site.specs.Site.{site_size}
use Rattle.generic.specs.Generic.{generic_size}
use Rattle.radial.specs.declared.RadialDue.{RadialDue}
use Rattle.moment.specs.declared.MomentDue.{MomentDue}
use Rattle.walk.specs.declared.due.Due.{Due}
use Rattle.walk.specs.declared.due.Due.TheVariants as due
use Rattle.walk.specs.declared.due.Walk.{Walk}

-- before the first block
abbrev pub at_start : Walk
at_start =
    record {
      due = due.Generic;
      at = 0;
      plan = record { scan_type = 0; cuts = 0 };
      count = record { cut = 0; whole = 0; in_cut = 0 };
      present = record { start = 0; state = 0; sequence = 0; mask = 0; sizes = 0 };
      rest = record { todo = 0; left = 0; seen = 0; length = 0 };
    }

-- how many bytes the due block has ("Blocks"); data has the length that its header said
unfoldable pub size_at : Due → ℕ → ℕ
size_at due.Generic n = generic_size
size_at due.Site n = site_size
size_at due.Task n = task_size
size_at due.Cut n = cut_size
size_at due.Radial n = radial_size
size_at due.Moment n = moment_size
size_at due.Data n = n
size_at due.Nothing n = 0

abbrev pub size_of : Walk → ℕ
size_of w = size_at w.due w.rest.length

-- whether the volume is over
unfoldable pub is_end : Due → Bool
is_end due.Generic = false
is_end due.Site = false
is_end due.Task = false
is_end due.Cut = false
is_end due.Radial = false
is_end due.Moment = false
is_end due.Data = false
is_end due.Nothing = true

-- whether the due block is the last of its radial: data, with no moment to come
unfoldable pub ends_radial : Due → ℕ → Bool
ends_radial due.Generic todo = false
ends_radial due.Site todo = false
ends_radial due.Task todo = false
ends_radial due.Cut todo = false
ends_radial due.Radial todo = false
ends_radial due.Moment todo = false
ends_radial due.Data todo = eqb todo 0
ends_radial due.Nothing todo = false

unfoldable pub due_if : Bool → Due → Due → Due
due_if true a b = a
due_if false a b = b

-- what a radial's and a moment's rules ask of the blocks before it
abbrev pub radial_due : Walk → RadialDue
radial_due w =
    record {
      scan_type = w.plan.scan_type;
      cuts = w.plan.cuts;
      cut = w.count.cut;
      before = w.count.whole;
      in_cut = w.count.in_cut;
    }

abbrev pub moment_due : Walk → MomentDue
moment_due w =
    record {
      mask = w.present.mask;
      sizes = w.present.sizes;
      seen = w.rest.seen;
      left = w.rest.left;
      todo = w.rest.todo;
    }

-- where a cut's block stands: after the generic, site and task blocks, and the cuts before it
abbrev pub cut_place : ℕ → ℕ
cut_place c = generic_size + site_size + task_size + cut_size * (c - 1)

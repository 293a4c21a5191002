-- The walk after a block that was taken, which ended at `end` (document 01, "Blocks" and "States").
use Rattle.std.specs.Prelude.{ℕ, ◌+◌, ◌-◌, Bool, not, cond, ◌&&◌, eqb, leb, ltb}
use Rattle.moment.specs.Moment.{moment_size}
use Rattle.rules.specs.Masks.{with_bit}
use Rattle.rules.specs.States.{closing}
use Rattle.moment.specs.declared.Moment.{Moment}
use Rattle.radial.specs.declared.Radial.{Radial}
use Rattle.walk.specs.declared.due.Due.TheVariants as due
use Rattle.walk.specs.declared.due.Walk.{Walk}
use Rattle.walk.specs.Due.{due_if}

abbrev pub after_generic : Walk → ℕ → Walk
after_generic w end =
    record { due = due.Site; at = end; plan = w.plan; count = w.count; present = w.present; rest = w.rest }

abbrev pub after_site : Walk → ℕ → Walk
after_site w end =
    record { due = due.Task; at = end; plan = w.plan; count = w.count; present = w.present; rest = w.rest }

-- as many cuts follow as the task says
abbrev pub after_task : ℕ → ℕ → Walk → ℕ → Walk
after_task scan cuts w end =
    record {
      due = due.Cut;
      at = end;
      plan = record { scan_type = scan; cuts = cuts };
      count = w.count;
      present = w.present;
      rest = record { todo = cuts; left = 0; seen = 0; length = 0 };
    }

-- after the last cut block the first cut's radials follow
abbrev pub after_cut : Walk → ℕ → Walk
after_cut w end =
    record {
      due = due_if (leb w.rest.todo 1) due.Radial due.Cut;
      at = end;
      plan = w.plan;
      count = record { cut = 1; whole = w.count.whole; in_cut = w.count.in_cut };
      present = w.present;
      rest = record { todo = w.rest.todo - 1; left = w.rest.left; seen = w.rest.seen; length = w.rest.length };
    }

-- as many moments follow as the radial says, over as many bytes; mask and sizes are its cut's
abbrev pub after_radial : Radial → ℕ → ℕ → Walk → ℕ → Walk
after_radial r mask sizes w end =
    record {
      due = due.Moment;
      at = end;
      plan = w.plan;
      count = record { cut = w.count.cut; whole = w.count.whole; in_cut = r.radial_number };
      present = record { start = w.at; state = r.state; sequence = r.sequence; mask = mask; sizes = sizes };
      rest = record { todo = r.moment_number; left = r.length_of_data; seen = 0; length = 0 };
    }

-- its data follows, as long as it says
abbrev pub after_moment : Moment → Walk → ℕ → Walk
after_moment r w end =
    record {
      due = due.Data;
      at = end;
      plan = w.plan;
      count = w.count;
      present = w.present;
      rest =
          record {
            todo = w.rest.todo - 1;
            left = w.rest.left - (moment_size + r.length);
            seen = with_bit w.rest.seen r.data_type;
            length = r.length;
          };
    }

-- whether the present radial closes its cut
unfoldable pub closes_cut : Walk → Bool
closes_cut w = eqb w.present.state (closing w.plan.scan_type w.plan.cuts w.count.cut)

-- data with moments to come, and the radial's last data: then it is whole. A closing radial ends its cut, and that of the
-- last cut the volume
abbrev pub after_data_if : Bool → Bool → Bool → Walk → ℕ → Walk
after_data_if more closes later w end =
    record {
      due = due_if more due.Moment (due_if (closes && not later) due.Nothing due.Radial);
      at = end;
      plan = w.plan;
      count =
          record {
            cut = cond (not more && closes && later) (w.count.cut + 1) w.count.cut;
            whole = cond more w.count.whole w.present.sequence;
            in_cut = cond (not more && closes) 0 w.count.in_cut;
          };
      present = w.present;
      rest = w.rest;
    }

unfoldable pub after_data : Walk → ℕ → Walk
after_data w end = after_data_if (ltb 0 w.rest.todo) (closes_cut w) (ltb w.count.cut w.plan.cuts) w end

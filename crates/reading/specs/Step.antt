-- One step of the walk: the due block, taken or refused, or what is missing of it. The plain step asks the block's own rules alone; the
-- step that reading goes by asks for hope besides (document 02, #110).
use Rattle.std.specs.Prelude.{ℕ, ◌+◌, ◌-◌, Bool, true, false, List, leb, ltb, length, take}
use Rattle.rules.specs.Check.{Check}
use Rattle.std.specs.Prelude.{Ok, Err}
use Rattle.cut.specs.declared.Cut.{Cut}
use Rattle.generic.specs.declared.Generic.{Generic}
use Rattle.moment.specs.declared.Moment.{Moment}
use Rattle.radial.specs.declared.Radial.{Radial}
use Rattle.site.specs.declared.Site.{Site}
use Rattle.task.specs.declared.Task.{Task}
use Rattle.cut.specs.Cut.{cut_at, cut_check, cut_size}
use Rattle.generic.specs.Generic.{generic_at, generic_check, generic_size}
use Rattle.moment.specs.Moment.{moment_at, moment_check, moment_size}
use Rattle.radial.specs.Radial.{radial_at, radial_check, radial_size}
use Rattle.site.specs.Site.{site_at, site_check, site_size}
use Rattle.task.specs.Task.{task_at, task_check, task_size}
use Rattle.walk.specs.declared.due.Due.{Due}
use Rattle.walk.specs.declared.due.Due.TheVariants as due
use Rattle.walk.specs.declared.due.Walk.{Walk}
use Rattle.reading.specs.declared.step.Step.{Step}
use Rattle.reading.specs.declared.step.Step.TheVariants.{Took, Open, Refused, Complete}
use Rattle.walk.specs.Due.{size_of, is_end, radial_due, moment_due, cut_place}
use Rattle.walk.specs.After.{after_generic, after_site, after_task, after_cut, after_radial, after_moment, after_data}
use Rattle.walk.specs.Hope.{moments_hope, radial_hope}

-- a block that keeps its rules is taken; the first broken clause gives the number, and the place in the file
unfoldable pub settle : Check → ℕ → Walk → Step
settle (Ok tt) at next = Took next
settle (Err c) at next = Refused c.number (at + c.place)

-- what a record says where it is due: the reader finds it in the file, the writer is handed it
unfoldable pub take_generic : Generic → Walk → Step
take_generic r w = settle (generic_check r) w.at (after_generic w (w.at + generic_size))

unfoldable pub take_site : Site → Walk → Step
take_site r w = settle (site_check r) w.at (after_site w (w.at + site_size))

unfoldable pub take_task : Task → Walk → Step
take_task r w = settle (task_check r) w.at (after_task r.scan_type r.cut_number w (w.at + task_size))

unfoldable pub take_cut : Cut → Walk → Step
take_cut r w = settle (cut_check r) w.at (after_cut w (w.at + cut_size))

-- a radial asks of its cut the two masks alone ("Masks")
abbrev pub take_by_masks : Radial → ℕ → ℕ → Walk → Step
take_by_masks r mask sizes w = settle (radial_check r (radial_due w)) w.at (after_radial r mask sizes w (w.at + radial_size))

unfoldable pub take_radial : Radial → Cut → Walk → Step
take_radial r c w = take_by_masks r c.moments_mask c.size_mask w

unfoldable pub take_moment : Moment → Walk → Step
take_moment r w = settle (moment_check r (moment_due w)) w.at (after_moment r w (w.at + moment_size))

-- data has no rule
unfoldable pub take_data : Walk → Step
take_data w = Took (after_data w (w.at + w.rest.length))

-- the cut that the walk's radials belong to, in the file's bytes
abbrev pub cut_in : List ℕ → Walk → Cut
cut_in p w = cut_at p (cut_place w.count.cut)

-- what the due block says, in the file's bytes up to its end
unfoldable pub block_at : Due → List ℕ → Walk → Step
block_at due.Generic p w = take_generic (generic_at p w.at) w
block_at due.Site p w = take_site (site_at p w.at) w
block_at due.Task p w = take_task (task_at p w.at) w
block_at due.Cut p w = take_cut (cut_at p w.at) w
block_at due.Radial p w = take_radial (radial_at p w.at) (cut_in p w) w
block_at due.Moment p w = take_moment (moment_at p w.at) w
block_at due.Data p w = take_data w
block_at due.Nothing p w = Complete

unfoldable pub pick : Bool → Step → Step → Step
pick true a b = a
pick false a b = b

-- by its own rules alone: a block is looked at only when all its bytes are there; after the last block no byte may follow (number 25)
unfoldable pub plainly : List ℕ → Walk → Step
plainly f w =
    pick (is_end w.due)
    (pick (ltb w.at (length f)) (Refused 25 w.at) Complete)
    (pick (leb (w.at + size_of w) (length f))
    (block_at w.due (take (w.at + size_of w) f) w)
    (Open (w.at + size_of w - length f)))

-- ---- hope (document 02, #110)

-- whether hope is left behind a block that is taken. A cut's moments mask has a bit, or no radial of it can hold a moment; behind a
-- header, what must still come can come. No other block ends hope
unfoldable pub hope_after_cut : Cut → Bool
hope_after_cut r = ltb 0 r.moments_mask

abbrev pub hope_by_masks : Radial → ℕ → ℕ → Walk → Bool
hope_by_masks r mask sizes w = radial_hope (after_radial r mask sizes w (w.at + radial_size))

unfoldable pub hope_after_radial : Radial → Cut → Walk → Bool
hope_after_radial r c w = hope_by_masks r c.moments_mask c.size_mask w

unfoldable pub hope_after_moment : Moment → Walk → Bool
hope_after_moment r w = moments_hope (after_moment r w (w.at + moment_size))

-- the same of the due block, in the file's bytes up to its end
unfoldable pub hope_at : Due → List ℕ → Walk → Bool
hope_at due.Generic p w = true
hope_at due.Site p w = true
hope_at due.Task p w = true
hope_at due.Cut p w = hope_after_cut (cut_at p w.at)
hope_at due.Radial p w = hope_after_radial (radial_at p w.at) (cut_in p w) w
hope_at due.Moment p w = hope_after_moment (moment_at p w.at) w
hope_at due.Data p w = true
hope_at due.Nothing p w = true

-- a block that its own rules take is taken where hope is left behind it; where none is, it is refused by 40, at its first byte
unfoldable pub hoping : Bool → ℕ → Step → Step
hoping true at says = says
hoping false at (Took n) = Refused 40 at
hoping false at (Refused n p) = Refused n p
hoping false at (Open m) = Open m
hoping false at Complete = Complete

-- what is then said of a record where it is due, and of the due block in the file's bytes up to its end
abbrev pub say_cut : Cut → Walk → Step
say_cut r w = hoping (hope_after_cut r) w.at (take_cut r w)

abbrev pub say_by_masks : Radial → ℕ → ℕ → Walk → Step
say_by_masks r mask sizes w = hoping (hope_by_masks r mask sizes w) w.at (take_by_masks r mask sizes w)

abbrev pub say_radial : Radial → Cut → Walk → Step
say_radial r c w = hoping (hope_after_radial r c w) w.at (take_radial r c w)

abbrev pub say_moment : Moment → Walk → Step
say_moment r w = hoping (hope_after_moment r w) w.at (take_moment r w)

abbrev pub say_block : Due → List ℕ → Walk → Step
say_block d p w = hoping (hope_at d p w) w.at (block_at d p w)

-- one step, of the plain reading or, where hope is asked for, of the reading
unfoldable pub step_by : Bool → List ℕ → Walk → Step
step_by false f w = plainly f w
step_by true f w = hoping (hope_at w.due (take (w.at + size_of w) f) w) w.at (plainly f w)

abbrev pub plain_step : List ℕ → Walk → Step
plain_step f w = step_by false f w

abbrev pub step_of : List ℕ → Walk → Step
step_of f w = step_by true f w

-- A block that is offered to the writer: a record of one of the six kinds, or data (document 01, "Blocks" and "Writing").
use Rattle.std.specs.Prelude.{ℕ, Bool, true, List, eqb, length}
use Rattle.cut.specs.declared.Cut.{Cut}
use Rattle.generic.specs.declared.Generic.{Generic}
use Rattle.moment.specs.declared.Moment.{Moment}
use Rattle.radial.specs.declared.Radial.{Radial}
use Rattle.site.specs.declared.Site.{Site}
use Rattle.task.specs.declared.Task.{Task}
use Rattle.cut.specs.Cut.{cut_bytes, cut_size}
use Rattle.generic.specs.Generic.{generic_bytes, generic_size}
use Rattle.moment.specs.Moment.{moment_bytes, moment_size}
use Rattle.radial.specs.Radial.{radial_bytes, radial_size}
use Rattle.site.specs.Site.{site_bytes, site_size}
use Rattle.task.specs.Task.{task_bytes, task_size}
use Rattle.walk.specs.declared.due.Due.{Due}
use Rattle.walk.specs.declared.due.Due.TheVariants as due
use Rattle.walk.specs.declared.due.Walk.{Walk}
use Rattle.reading.specs.declared.step.Step.{Step}
use Rattle.reading.specs.Step.{take_generic, take_site, take_task, take_data, say_cut, say_radial, say_moment, cut_in}

-- one of the seven that a volume is made of ("Blocks")
pub data Block : Type 0 where
  generic : Generic → Block
  site : Site → Block
  task : Task → Block
  cut : Cut → Block
  radial : Radial → Block
  moment : Moment → Block
  «data» : List ℕ → Block

-- its kind ("Blocks")
abbrev pub kind_of : Block → Due
kind_of (generic r) = due.Generic
kind_of (site r) = due.Site
kind_of (task r) = due.Task
kind_of (cut r) = due.Cut
kind_of (radial r) = due.Radial
kind_of (moment r) = due.Moment
kind_of («data» bs) = due.Data

-- what the reader says of it where it is due; a radial's cut stands in what is written ("Writing": the table's checks; then 40:
-- document 02, #110)
abbrev pub says_of : Block → List ℕ → Walk → Step
says_of (generic r) room w = take_generic r w
says_of (site r) room w = take_site r w
says_of (task r) room w = take_task r w
says_of (cut r) room w = say_cut r w
says_of (radial r) room w = say_radial r (cut_in room w) w
says_of (moment r) room w = say_moment r w
says_of («data» bs) room w = take_data w

-- whether it has the length that its header said: only data can have another (35)
abbrev pub fits_of : Block → Walk → Bool
fits_of (generic r) w = true
fits_of (site r) w = true
fits_of (task r) w = true
fits_of (cut r) w = true
fits_of (radial r) w = true
fits_of (moment r) w = true
fits_of («data» bs) w = eqb (length bs) w.rest.length

-- how many bytes it has, and which ("Blocks")
abbrev pub length_of : Block → ℕ
length_of (generic r) = generic_size
length_of (site r) = site_size
length_of (task r) = task_size
length_of (cut r) = cut_size
length_of (radial r) = radial_size
length_of (moment r) = moment_size
length_of («data» bs) = length bs

abbrev pub bytes_of : Block → List ℕ
bytes_of (generic r) = generic_bytes r
bytes_of (site r) = site_bytes r
bytes_of (task r) = task_bytes r
bytes_of (cut r) = cut_bytes r
bytes_of (radial r) = radial_bytes r
bytes_of (moment r) = moment_bytes r
bytes_of («data» bs) = bs

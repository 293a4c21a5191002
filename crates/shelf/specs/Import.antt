-- The import of an old shelf (document 02, #102): the blocks that our records and the old radials give, put one by one by our writer,
-- all of them or none.
use Rattle.std.specs.Prelude.{ℕ, zero, suc, ◌+◌, ◌*◌, ◌/◌, cond, List, [], ◌∷◌, ◌++◌, length, drop, ◌==◌}
use Rattle.le.specs.Le.{part, run}
use Rattle.rules.specs.Check.{Check}
use Rattle.std.specs.Prelude.{Ok, Err}
use Rattle.cut.specs.Cut.{cut_at, cut_size}
use Rattle.generic.specs.declared.Generic.{Generic}
use Rattle.radial.specs.declared.Radial.{Radial}
use Rattle.site.specs.declared.Site.{Site}
use Rattle.task.specs.declared.Task.{Task}
use Rattle.walk.specs.declared.due.Walk.{Walk}
use Rattle.walk.specs.Due.{at_start}
use Rattle.writer.specs.declared.order.Answer.{Answer}
use Rattle.writer.specs.declared.order.Answer.TheVariants.{Taken, Refused}
use Rattle.writer.specs.Block.{Block, generic, site, task, cut, «data»}
use Rattle.writer.specs.Many.{beginning, unless_refused, put_all}
use Rattle.writer.specs.Put.{Outcome}
use Rattle.retold.specs.Retold.{Pair, radial_blocks}
use Rattle.old.specs.declared.record.OldRadial.{OldRadial}
use Rattle.old.specs.declared.codes.Quantity.{Quantity}
use Rattle.old.specs.declared.codes.Quantity.TheVariants.{Reflectivity, Velocity, Width}
use Rattle.old.specs.Codes.{new_bytes}
use Rattle.old.specs.Headers.{gates_of, place_of, radial_from, moment_from}
use Rattle.old.specs.Old.{old_at, old_check}
use Rattle.old.specs.Shelf.{shelf_ok, radials_in, radial_place}

-- ---- our records

-- the first k of the cut records that are lent as bytes, one behind the other
unfoldable pub first_cuts : ℕ → List ℕ → List Block
first_cuts zero c = []
first_cuts (suc k) c = first_cuts k c ++ (cut (cut_at c (k * cut_size)) ∷ [])

-- Bytes behind the last whole cut record are no record. They are offered as data, which is never due there: the writer's 34.
unfoldable pub rest_of : List ℕ → List Block
rest_of [] = []
rest_of (b ∷ bs) = «data» (b ∷ bs) ∷ []

abbrev pub cut_blocks : List ℕ → List Block
cut_blocks c = first_cuts (length c / cut_size) c ++ rest_of (drop (length c / cut_size * cut_size) c)

-- in the order of a volume
abbrev pub our_blocks : Generic → Site → Task → List ℕ → List Block
our_blocks g s t c = generic g ∷ site s ∷ task t ∷ cut_blocks c

-- ---- an old radial

-- a moment of the old radial at a place, whose header is o: a moment of 0 gates is left out
unfoldable pub moment_of : Quantity → OldRadial → List ℕ → ℕ → List Pair
moment_of q o f at =
    cond (gates_of q o == 0) []
    (record { header = moment_from q o.resolution (gates_of q o); bytes = run new_bytes (part (gates_of q o) f (at + place_of q o)) } ∷ [])

-- reflectivity, velocity and width, in this order
abbrev pub moments_of : OldRadial → List ℕ → ℕ → List Pair
moments_of o f at = moment_of Reflectivity o f at ++ (moment_of Velocity o f at ++ moment_of Width o f at)

-- its header, counted anew: one more than the whole radials before it, and one more than those of its cut
abbrev pub old_radial : List ℕ → ℕ → Walk → Radial
old_radial f at w = radial_from (old_at f at) (w.count.whole + 1) (w.count.in_cut + 1)

abbrev pub old_blocks : List ℕ → ℕ → Walk → List Block
old_blocks f at w = radial_blocks (old_radial f at w) (moments_of (old_at f at) f at)

-- a rule of the old radial's own that is broken is refused at the radial's place in the old file, before the writer is asked
unfoldable pub unless_broken : Check → ℕ → Outcome → Outcome → Outcome
unless_broken (Ok tt) at before next = next
unless_broken (Err c) at before next = record { answer = Refused c.number at; walk = before.walk; room = before.room }

-- the old radial at a place taken over, where nothing is refused yet
abbrev pub take_over : List ℕ → ℕ → Outcome → Outcome
take_over f at o = unless_refused o.answer o (unless_broken (old_check (old_at f at)) at o (put_all (old_blocks f at o.walk) o))

-- the first k radials of the old file, one after the other
unfoldable pub take_first : ℕ → List ℕ → Outcome → Outcome
take_first zero f o = o
take_first (suc k) f o = take_over f (radial_place k) (take_first k f o)

-- ---- the import

-- our records, and then every radial of the old file
abbrev pub ours : Generic → Site → Task → List ℕ → List ℕ → Outcome
ours g s t c room = put_all (our_blocks g s t c) (beginning room)

abbrev pub through : Generic → Site → Task → List ℕ → List ℕ → List ℕ → Outcome
through g s t c f room = take_first (radials_in (length f)) f (ours g s t c room)

-- a refusal leaves the room as it was, and no volume is begun
abbrev pub refused_whole : ℕ → ℕ → List ℕ → Outcome
refused_whole n p room = record { answer = Refused n p; walk = at_start; room = room }

unfoldable pub all_or_nothing : Answer → Outcome → List ℕ → Outcome
all_or_nothing Taken o room = o
all_or_nothing (Refused n p) o room = refused_whole n p room

-- 50 comes first, at place 0
unfoldable pub import_of : Generic → Site → Task → List ℕ → List ℕ → List ℕ → Outcome
import_of g s t c f room =
    cond (shelf_ok (length f))
    (all_or_nothing (through g s t c f room).answer (through g s t c f room) room)
    (refused_whole 50 0 room)

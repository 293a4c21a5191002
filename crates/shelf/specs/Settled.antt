-- How the import goes about it: everything is settled first, with nothing asked of the room but how long it is, and then the bytes are
-- laid down. That this is the import as it is defined (`Import`) is proved; nothing here has to be believed.
use Rattle.std.specs.Prelude.{◌≡◌, ℕ, zero, suc, ◌+◌, ◌*◌, ◌/◌, ◌%◌, ◌^◌, cond, List, [], ◌++◌, length, replicate, ◌==◌}
use Rattle.le.specs.Le.{run, stored}
use Rattle.rules.specs.Check.{Check}
use Rattle.std.specs.Prelude.{Ok, Err}
use Rattle.cut.specs.Cut.{cut_at, cut_size}
use Rattle.generic.specs.declared.Generic.{Generic}
use Rattle.radial.specs.declared.Radial.{Radial}
use Rattle.site.specs.declared.Site.{Site}
use Rattle.task.specs.declared.Task.{Task}
use Rattle.walk.specs.declared.due.Due.TheVariants as due
use Rattle.walk.specs.declared.due.Walk.{Walk}
use Rattle.walk.specs.Due.{at_start, cut_place}
use Rattle.reading.specs.Step.{take_data}
use Rattle.writer.specs.declared.order.Answer.{Answer}
use Rattle.writer.specs.declared.order.Answer.TheVariants.{Taken, Refused}
use Rattle.writer.specs.declared.order.Put.{Put}
use Rattle.writer.specs.Block.{Block, generic, site, task, cut, radial, moment, kind_of, says_of, fits_of, length_of, bytes_of}
use Rattle.writer.specs.Put.{settled_by}
use Rattle.retold.specs.Retold.{radial_blocks}
use Rattle.old.specs.declared.record.OldRadial.{OldRadial}
use Rattle.old.specs.declared.codes.Quantity.{Quantity}
use Rattle.old.specs.declared.codes.Quantity.TheVariants.{Reflectivity, Velocity, Width}
use Rattle.old.specs.Headers.{gates_of, radial_from, moment_from}
use Rattle.old.specs.Old.{old_at, old_check}
use Rattle.old.specs.Shelf.{radial_place}
use Rattle.shelf.specs.Import.{moments_of}

-- ---- one block settled

-- what is refused already stays so
unfoldable pub unless : Answer → Put → Put → Put
unless Taken before next = next
unless (Refused n p) before next = before

-- what is told of the next block, by what its settling may tell
abbrev pub Goes : Answer → (Put → Type 0) → Put → Put → Type 0
Goes Taken Says before q = Says q
Goes (Refused n p) Says before q = q ≡ before

-- the cut records as they will stand in the volume: behind as many bytes as the first of them
abbrev pub front : List ℕ → List ℕ
front c = replicate (cut_place 1) 0 ++ c

-- held are the bytes in which a radial finds its cut; no other block asks for any
abbrev pub settle_in : List ℕ → ℕ → Block → Put → Put
settle_in held room b p =
    unless p.answer p (settled_by (kind_of b) (says_of b held p.walk) (fits_of b p.walk) (length_of b) p.walk room)

abbrev pub settle_next : ℕ → Block → Put → Put
settle_next room b p = settle_in [] room b p

-- of data only how many bytes there are
abbrev pub settle_data : ℕ → ℕ → Put → Put
settle_data room size p = unless p.answer p (settled_by due.Data (take_data p.walk) (size == p.walk.rest.length) size p.walk room)

-- ---- our records settled

unfoldable pub settle_cuts : ℕ → List ℕ → ℕ → Put → Put
settle_cuts zero c room p = p
settle_cuts (suc k) c room p = settle_next room (cut (cut_at c (k * cut_size))) (settle_cuts k c room p)

unfoldable pub settle_rest : ℕ → ℕ → Put → Put
settle_rest room size p = cond (size == 0) p (settle_data room size p)

abbrev pub fresh : Put
fresh = record { answer = Taken; walk = at_start }

abbrev pub settle_head : Generic → Site → Task → ℕ → Put
settle_head g s t room = settle_next room (task t) (settle_next room (site s) (settle_next room (generic g) fresh))

abbrev pub settle_ours : Generic → Site → Task → List ℕ → ℕ → Put
settle_ours g s t c room = settle_rest room (length c % cut_size) (settle_cuts (length c / cut_size) c room (settle_head g s t room))

-- ---- an old radial settled

-- one more than so many, as 32 bits hold it
abbrev pub counted : ℕ → ℕ
counted n = (n + 1) % 2 ^ 32

abbrev pub radial_next : OldRadial → Walk → Radial
radial_next o w = radial_from o (counted w.count.whole) (counted w.count.in_cut)

unfoldable pub settle_moment : ℕ → Quantity → OldRadial → Put → Put
settle_moment room q o p =
    cond (gates_of q o == 0) p
    (settle_data room (2 * gates_of q o) (settle_next room (moment (moment_from q o.resolution (gates_of q o))) p))

abbrev pub settle_moments : ℕ → OldRadial → Put → Put
settle_moments room o p = settle_moment room Width o (settle_moment room Velocity o (settle_moment room Reflectivity o p))

unfoldable pub unless_bad : Check → ℕ → Put → Put → Put
unless_bad (Ok tt) at before next = next
unless_bad (Err c) at before next = record { answer = Refused c.number at; walk = before.walk }

abbrev pub settle_over : List ℕ → ℕ → OldRadial → ℕ → Put → Put
settle_over c room o at p =
    unless p.answer p (unless_bad (old_check o) at p (settle_moments room o (settle_in (front c) room (radial (radial_next o p.walk)) p)))

unfoldable pub settle_first : ℕ → List ℕ → List ℕ → ℕ → Put → Put
settle_first zero c f room p = p
settle_first (suc k) c f room p = settle_over c room (old_at f (radial_place k)) (radial_place k) (settle_first k c f room p)

-- ---- what is laid down

-- the state, and what the room holds
pub record Lay : Type 0 where
  pub walk : Walk
  pub room : List ℕ

-- a run of bytes where it fits; where it does not, nothing
abbrev pub laid_bytes : List ℕ → ℕ → List ℕ → List ℕ
laid_bytes room at bs = stored (length bs) room at bs

-- only what is settled is laid down
unfoldable pub laid_if : Answer → List ℕ → List ℕ → List ℕ
laid_if Taken before next = next
laid_if (Refused n p) before next = before

-- the bytes of the old radial at a place, with its counts from the state
abbrev pub bytes_next : List ℕ → ℕ → Walk → List ℕ
bytes_next f at w = run bytes_of (radial_blocks (radial_next (old_at f at) w) (moments_of (old_at f at) f at))

abbrev pub settled_over : List ℕ → List ℕ → ℕ → Lay → Put
settled_over c f at l = settle_over c (length l.room) (old_at f at) at (record { answer = Taken; walk = l.walk })

abbrev pub lay_over : List ℕ → List ℕ → ℕ → Lay → Lay
lay_over c f at l =
    record {
      walk = (settled_over c f at l).walk;
      room = laid_if (settled_over c f at l).answer l.room (laid_bytes l.room l.walk.at (bytes_next f at l.walk));
    }

unfoldable pub lay_first : ℕ → List ℕ → List ℕ → Lay → Lay
lay_first zero c f l = l
lay_first (suc k) c f l = lay_over c f (radial_place k) (lay_first k c f l)

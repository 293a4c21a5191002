-- A broken volume closed (document 02, #107): the file's own bytes, with two fields changed and two stretches left out.
use Rattle.std.specs.Prelude.{ℕ, ◌+◌, ◌-◌, ◌≤◌, cond, List, [], ◌∷◌, ◌++◌, ◌≡◌, eqb, leb, length, take, drop, Option, Some, None, Result, Ok, Err}
use Rattle.refusal.specs.declared.Refusal.{Refusal}
use Rattle.refusal.specs.Refusal.{number_of}
use Rattle.le.specs.Le.{bytes, patch, stored}
use Rattle.rules.specs.States.{closing}
use Rattle.cut.specs.Cut.{cut_size}
use Rattle.generic.specs.Generic.{generic_size}
use Rattle.radial.specs.Radial.{radial_at, radial_size}
use Rattle.site.specs.Site.{site_size}
use Rattle.walk.specs.Due.{cut_place}
use Rattle.gates.specs.Telling.{Telling, refused, answered}
use Rattle.reading.specs.declared.Stretch.{Stretch}
use Rattle.volume.specs.InPlace.{task_block}
use Rattle.mend.specs.declared.report.Field.{Field}
use Rattle.mend.specs.declared.report.Field.TheVariants.{Same, Changed}
use Rattle.mend.specs.declared.report.Report.{Report}
use Rattle.mend.specs.Kept.{last_kept}

-- ---- the two fields; s is the last radial that is kept

-- where the cut number stands (table 2-4), and the one that the file has; it becomes the number of the last kept cut
abbrev pub cut_number_place : ℕ
cut_number_place = generic_size + site_size + 176

abbrev pub cut_number : List ℕ → ℕ
cut_number f = (task_block f).cut_number

-- the state of the last kept radial stands first in its header (table 3-1); it becomes the one that closes the last cut ("States")
abbrev pub last_state : List ℕ → Stretch → ℕ
last_state f s = closing (task_block f).scan_type s.cut s.cut

unfoldable pub changed : List ℕ → Stretch → List ℕ
changed f s = patch (patch f cut_number_place (bytes 4 s.cut)) s.start (bytes 4 (last_state f s))

-- ---- the two stretches

-- f without its bytes from a up to b
abbrev pub without : List ℕ → ℕ → ℕ → List ℕ
without f a b = take a f ++ drop b f

-- where the block of a cut ends ("Blocks")
abbrev pub behind_cut : ℕ → ℕ
behind_cut c = cut_place c + cut_size

-- everything behind the last kept radial goes, and so do the blocks of the cuts behind its cut
unfoldable pub mended : List ℕ → Stretch → List ℕ
mended f s = without (without (changed f s) s.end (length f)) (behind_cut s.cut) (behind_cut (cut_number f))

-- ---- the report

-- a field by its place in the given file and in the written one; it is named only where its contents change
unfoldable pub field_of : ℕ → ℕ → ℕ → ℕ → Field
field_of place written old new = cond (eqb old new) Same (Changed (record { place = place; written = written; old = old; new = new }))

-- the dropped cuts by the first of them and their number, the dropped stretch by its two ends in the given file
abbrev pub report_of : List ℕ → Stretch → Report
report_of f s =
    record {
      cut_number = field_of cut_number_place cut_number_place (cut_number f) s.cut;
      state = field_of s.start (s.start - (behind_cut (cut_number f) - behind_cut s.cut)) (radial_at f s.start).state (last_state f s);
      first_dropped = s.cut + 1;
      dropped_cuts = cut_number f - s.cut;
      from = s.end;
      to = length f;
    }

-- ---- the answer

-- what a report says, as numbers: a field that is not named has none
unfoldable pub told_field : Field → List ℕ
told_field Same = []
told_field (Changed c) = c.place ∷ c.written ∷ c.old ∷ c.new ∷ []

-- the length of the written volume, and the report
pub record Said : Type 0 where
  pub size : ℕ
  pub cut-number : List ℕ
  pub state : List ℕ
  pub first-dropped : ℕ
  pub dropped-cuts : ℕ
  pub from : ℕ
  pub to : ℕ

abbrev pub said : ℕ → Report → Said
said size r =
    record {
      size = size;
      cut-number = told_field r.cut_number;
      state = told_field r.state;
      first-dropped = r.first_dropped;
      dropped-cuts = r.dropped_cuts;
      from = r.from;
      to = r.to;
    }

abbrev pub told_mended : Result (ℕ × Report) Refusal → Telling Said
told_mended (Ok (size, r)) = answered (said size r)
told_mended (Err e) = refused (number_of e) 0

-- 54 where no radial is kept, then 33 where the room of n bytes is too short, both at place 0
unfoldable pub answer_by : List ℕ → ℕ → Option Stretch → Telling Said
answer_by f n None = refused 54 0
answer_by f n (Some s) = cond (leb (length (mended f s)) n) (answered (said (length (mended f s)) (report_of f s))) (refused 33 0)

-- what the room then holds: at its front the volume, where it fits; refused, what it held
unfoldable pub room_by : List ℕ → List ℕ → Option Stretch → List ℕ
room_by f room None = room
room_by f room (Some s) = stored (length (mended f s)) room 0 (mended f s)

abbrev pub answer_of : List ℕ → ℕ → Telling Said
answer_of f n = answer_by f n (last_kept f)

abbrev pub room_of : List ℕ → List ℕ → List ℕ
room_of f room = room_by f room (last_kept f)

pub record Mends (f before : List ℕ) (r : Result (ℕ × Report) Refusal) (after : List ℕ) : Type 0 where
  pub answer : told_mended r ≡ answer_of f (length before)
  pub room : after ≡ room_of f before

-- ---- what the private functions ask of the last kept radial, which holds of any file's: its cut is one of the task's, and it lies in the
-- file behind their blocks
pub record Lies (f : List ℕ) (s : Stretch) : Type 0 where
  pub first : 1 ≤ s.cut
  pub last : s.cut ≤ cut_number f
  pub few : cut_number f ≤ 256
  pub start : behind_cut (cut_number f) ≤ s.start
  pub header : s.start + radial_size ≤ s.end
  pub end : s.end ≤ length f

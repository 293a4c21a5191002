-- What mending makes of a file (document 02, #107): a complete volume, with every answer on a kept radial, and the longest that there is.
use Rattle.std.specs.Prelude.{ℕ, ◌+◌, ◌*◌, ◌-◌, ◌≤◌, cond, List, [], ◌∷◌, ◌++◌, ◌↔◌, ◌≡◌, eqb, length, Some, None}
use Rattle.le.specs.Le.{le, bytes, patch}
use Rattle.cut.specs.Cut.{cut_size}
use Rattle.walk.specs.Due.{cut_place}
use Rattle.reading.specs.declared.Stretch.{Stretch}
use Rattle.reading.specs.Reading.{stretches, told}
use Rattle.volume.specs.InPlace.{of_cut}
use Rattle.wedge.specs.declared.Wedge.{Wedge}
use Rattle.ask.specs.Answers.{radial_of_file}
use Rattle.ask.specs.Tallies.{tally_of}
use Rattle.mend.specs.declared.report.Field.{Field}
use Rattle.mend.specs.declared.report.Field.TheVariants.{Same, Changed}
use Rattle.mend.specs.declared.report.Report.{Report}
use Rattle.mend.specs.Answers.{Alike}
use Rattle.mend.specs.Kept.{kept, last_or, last_kept}
use Rattle.mend.specs.Made.{MadeOf}
use Rattle.mend.specs.Mend.{behind_cut, cut_number, cut_number_place, last_state, mended, report_of, without}

-- ---- which radials are kept

-- all whole ones, the last of which is not alone in its cut; or all but a last one that is
pub data Which (f : List ℕ) : Type 0 where
  all : kept f ≡ stretches f → ((s : Stretch) → last_or None (stretches f) ≡ Some s → 2 ≤ of_cut s.cut (stretches f)) → Which f
  but_last : (s : Stretch) → stretches f ≡ kept f ++ (s ∷ []) → of_cut s.cut (stretches f) ≡ 1 → Which f

-- no cut has two whole radials (number 54)
abbrev pub NoTwo : List ℕ → Type 0
NoTwo f = (k : ℕ) → of_cut k (stretches f) ≤ 1

-- ---- the volume; s is the last kept radial

-- the bytes of the dropped cut blocks
abbrev pub gap_of : List ℕ → Stretch → ℕ
gap_of f s = cut_size * (cut_number f - s.cut)

-- the state of radial n in it: that of the last kept one is the closing state of the last cut
abbrev pub state_of : List ℕ → Stretch → ℕ → ℕ
state_of f s n = cond (eqb n (length (kept f))) (last_state f s) (radial_of_file f n).header.state

-- every byte of the file and of the volume: two fields have other contents in the volume, two stretches are left out, and all else is the
-- same, in the same order
pub record InPieces (f : List ℕ) (s : Stretch) : Type 0 where
  -- up to the cut number, it, the rest of the task's block with the kept cuts' blocks, and the dropped cuts' blocks
  pub front : List ℕ
  pub number : List ℕ
  pub cuts : List ℕ
  pub dropped : List ℕ
  -- the radials up to the last kept one, its state, the rest of it, and what follows it
  pub radials : List ℕ
  pub state : List ℕ
  pub last : List ℕ
  pub behind : List ℕ
  pub file : f ≡ front ++ (number ++ (cuts ++ (dropped ++ (radials ++ (state ++ (last ++ behind))))))
  pub volume : mended f s ≡ front ++ (bytes 4 s.cut ++ (cuts ++ (radials ++ (bytes 4 (last_state f s) ++ last))))
  -- where they lie
  pub number_at : length front ≡ cut_number_place
  pub number-long : length number ≡ 4
  pub dropped-long : length dropped ≡ gap_of f s
  pub radials-at : length front + length number + length cuts + length dropped ≡ behind_cut (cut_number f)
  pub state-at : behind_cut (cut_number f) + length radials ≡ s.start
  pub state-long : length state ≡ 4
  pub last_end : s.start + length state + length last ≡ s.end

pub record Closed (f : List ℕ) (s : Stretch) : Type 0 where
  pub pieces : InPieces f s
  -- it is complete, with the kept radials and no other
  pub complete : told (mended f s) ≡ 0 ∷ []
  pub radials : length (stretches (mended f s)) ≡ length (kept f)
  -- and with as many cuts as the last of them says
  pub cuts : cut_number (mended f s) ≡ s.cut
  -- every answer on a kept radial is the file's: its record but for the last one's state, its moments, their data, gates and rows
  pub answers : (n : ℕ) → 1 ≤ n → n ≤ length (kept f) → Alike f (mended f s) n (gap_of f s) (state_of f s n)
  -- and the tally of a cut of which a radial is kept counts what it counts in the file
  pub tallies : (cut t : ℕ) (w : Wedge) → 1 ≤ of_cut cut (kept f) → tally_of (mended f s) cut t w ≡ tally_of f cut t w
  -- it is made of the file's leading whole radials, and nothing longer is
  pub made : MadeOf f (mended f s)
  pub longest : (g : List ℕ) → MadeOf f g → length (stretches g) ≤ length (kept f)

-- ---- the report

-- a field at its two places, in f and in g: it is named exactly where what stands there differs, with what stands there
pub data FieldSays (f g : List ℕ) (place written : ℕ) : Field → Type 0 where
  same : le 4 f place ≡ le 4 g written → FieldSays f g place written Same
  differs : (le 4 f place ≡ le 4 g written → ⊥) → FieldSays f g place written (Changed (record { place = place; written = written; old = le 4 f place; new = le 4 g written }))

-- the change that a report names, made in a file
abbrev pub by_field : Field → List ℕ → List ℕ
by_field Same f = f
by_field (Changed c) f = patch f c.place (bytes 4 c.new)

abbrev pub by_report : Report → List ℕ → List ℕ
by_report r f =
    without (without (by_field r.state (by_field r.cut_number f)) r.from r.to) (cut_place r.first_dropped) (cut_place (r.first_dropped + r.dropped_cuts))

pub record Reported (f : List ℕ) (s : Stretch) (r : Report) : Type 0 where
  -- what it names are all the differences: the named changes, made in the file, give the volume
  pub all : by_report r f ≡ mended f s
  -- and nothing else: each field by what stands there before and after, at places that differ by the dropped cut blocks
  pub cut-number : FieldSays f (mended f s) cut_number_place cut_number_place r.cut_number
  pub state : FieldSays f (mended f s) s.start (s.start - gap_of f s) r.state
  pub moved : gap_of f s ≤ s.start
  -- the dropped cuts are those of the file that the volume has not
  pub from_cut : r.first_dropped ≡ cut_number (mended f s) + 1
  pub dropped : cut_number (mended f s) + r.dropped_cuts ≡ cut_number f
  -- the dropped stretch runs from the end of the last kept radial to the end of the file
  pub from : r.from ≡ s.end
  pub to : r.to ≡ length f
  pub within : r.from ≤ r.to

-- ---- a complete file, whatever follows it

-- A comes out as it is, and the report names no field and no cut; the dropped stretch is what followed
pub record HandedBack (A C : List ℕ) : Type 0 where
  pub last : Stretch
  pub found : last_kept (A ++ C) ≡ Some last
  pub same : mended (A ++ C) last ≡ A
  pub no_number : (report_of (A ++ C) last).cut_number ≡ Same
  pub no-state : (report_of (A ++ C) last).state ≡ Same
  pub no-cuts : (report_of (A ++ C) last).dropped_cuts ≡ 0
  pub from : (report_of (A ++ C) last).from ≡ length A
  pub to : (report_of (A ++ C) last).to ≡ length A + length C

-- ---- any file

pub record Mending (f : List ℕ) : Type 0 where
  pub which : Which f
  -- 54 exactly where no cut has two whole radials; then no complete volume is made of them
  pub nothing : (last_kept f ≡ None) ↔ NoTwo f
  pub none : last_kept f ≡ None → (g : List ℕ) → MadeOf f g → ⊥
  pub closed : (s : Stretch) → last_kept f ≡ Some s → Closed f s
  pub reported : (s : Stretch) → last_kept f ≡ Some s → Reported f s (report_of f s)

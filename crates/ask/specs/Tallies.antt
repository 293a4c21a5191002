-- The tally of a cut and a type in a wedge (document 01, "What reading tells"; document 02, #114).
use Rattle.std.specs.Prelude.{ℕ, ◌+◌, Bool, cond, ◌&&◌, List, [], ◌∷◌, map, eqb, leb, Result, Ok, Err}
use Rattle.refusal.specs.declared.Refusal.{Refusal}
use Rattle.refusal.specs.Refusal.{number_of}
use Rattle.cut.specs.Cut.{cut_size}
use Rattle.rules.specs.Ranges.{within}
use Rattle.radial.specs.Radial.{radial_at}
use Rattle.wedge.specs.declared.Wedge.{Wedge}
use Rattle.wedge.specs.Wedge.{wedge_ok, in_wedge}
use Rattle.moment.specs.Moment.{moment_at}
use Rattle.gates.specs.Codes.{codes_of}
use Rattle.gates.specs.Counting.{counts_of, summed}
use Rattle.gates.specs.Gates.{kind_of}
use Rattle.gates.specs.Telling.{Telling, refused, answered}
use Rattle.moments.specs.Moments.{data_at}
use Rattle.walk.specs.declared.due.Walk.{Walk}
use Rattle.reading.specs.declared.Stretch.{Stretch}
use Rattle.walk.specs.Due.{cut_place}
use Rattle.reading.specs.Reading.{stop, stretches, bytes_of}
use Rattle.ask.specs.declared.places.Where.{Where}
use Rattle.ask.specs.declared.places.Where.TheVariants.{At, NoRadial, NoMoment}
use Rattle.ask.specs.declared.tallies.Sums.{Sums}
use Rattle.ask.specs.declared.tallies.Tally.{Tally}
use Rattle.ask.specs.Answers.{coding_of}
use Rattle.ask.specs.Places.{moment_in}

abbrev pub no_sums : Sums
no_sums = record { radials = 0; blanks = 0; counts = counts_of [] }

-- two sums, added field by field
abbrev pub added : Sums → Sums → Sums
added a b = record { radials = a.radials + b.radials; blanks = a.blanks + b.blanks; counts = summed a.counts b.counts }

-- one radial that carries the type, a blank where its spot blank is 1, with the kinds of its gates; nothing, where it does not
-- carry it
unfoldable pub carried : List ℕ → Where → Sums
carried b NoRadial = no_sums
carried b NoMoment = no_sums
carried b (At s p) =
    record {
      radials = 1;
      blanks = cond (eqb (radial_at b 0).spot_blank 1) 1 0;
      counts = counts_of (map (kind_of (coding_of (moment_at b p))) (codes_of (moment_at b p).bin_length (data_at b p)));
    }

-- whether a whole radial is asked for: of the cut, and its azimuth in the wedge
abbrev pub is_asked : List ℕ → ℕ → Wedge → Stretch → Bool
is_asked f cut w s = eqb s.cut cut && in_wedge w (radial_at (bytes_of f s) 0).azimuth

-- what a whole radial adds to the tally of a cut and type in a wedge
abbrev pub tally_one : List ℕ → ℕ → ℕ → Wedge → Stretch → Sums
tally_one f cut t w s = cond (is_asked f cut w s) (carried (bytes_of f s) (moment_in f t s)) no_sums

unfoldable pub sums_over : (Stretch → Sums) → List Stretch → Sums
sums_over g [] = no_sums
sums_over g (s ∷ ss) = added (g s) (sums_over g ss)

-- the wedge as it was asked, and what was counted in it
abbrev pub tally_of : List ℕ → ℕ → ℕ → Wedge → Tally
tally_of f cut t w = record { wedge = w; sums = sums_over (tally_one f cut t w) (stretches f) }

-- whether a cut's block is among the accepted blocks, where the walk stops
unfoldable pub cut_accepted : Walk → ℕ → Bool
cut_accepted w cut = within 1 w.plan.cuts cut && leb (cut_place cut + cut_size) w.at

-- a tally's answer: the tally; or the refusal's number, and place 0
abbrev pub told_tally : Result Tally Refusal → Telling Tally
told_tally (Ok t) = answered t
told_tally (Err e) = refused (number_of e) 0

-- 30 where the cut's block is not accepted, then 31 where no whole radial of the cut in the wedge carries the type
unfoldable pub tally_told : Bool → Tally → Telling Tally
tally_told accepted t = cond accepted (cond (eqb t.sums.radials 0) (refused 31 0) (answered t)) (refused 30 0)

-- before both 61, where the wedge's start or end is out of range
unfoldable pub tally_answer : List ℕ → ℕ → ℕ → Wedge → Telling Tally
tally_answer f cut t w = cond (wedge_ok w) (tally_told (cut_accepted (stop f) cut) (tally_of f cut t w)) (refused 61 0)

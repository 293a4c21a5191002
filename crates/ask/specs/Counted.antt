-- What a tally's counts are, by the answers of the radial and the gate question (document 01, "What reading tells"; document 02, #101 and #114).
use Rattle.std.specs.Prelude.{ℕ, zero, suc, ◌+◌, ◌<◌, Bool, true, false, cond, List, [], ◌∷◌, ◌≡◌, eqb, get_or, Some}
use Rattle.moment.specs.Moment.{moment_at}
use Rattle.gates.specs.Codes.{gates_in}
use Rattle.gates.specs.Counting.{in_order, total_of}
use Rattle.gates.specs.Gates.{is_measurement, Values}
use Rattle.gates.specs.Telling.{Telling, refused, answered}
use Rattle.wedge.specs.declared.Wedge.{Wedge}
use Rattle.wedge.specs.Wedge.{in_wedge}
use Rattle.reading.specs.declared.Stretch.{Stretch}
use Rattle.reading.specs.Reading.{stretches, nth, bytes_of}
use Rattle.ask.specs.declared.places.Where.{Where}
use Rattle.ask.specs.declared.places.Where.TheVariants.{At, NoRadial, NoMoment}
use Rattle.ask.specs.declared.tallies.Sums.{Sums}
use Rattle.ask.specs.Answers.{radial_of_file}
use Rattle.ask.specs.Growth.{gate_asked}
use Rattle.ask.specs.Places.{moment_in, where_is}
use Rattle.ask.specs.Tallies.{no_sums, carried, is_asked, tally_one, sums_over, tally_of}

-- whether a gate's answer is of a kind
abbrev pub is_of : ℕ → Telling Values → Bool
is_of k (refused number place) = false
is_of k (answered v) = eqb v.gate.0 k

-- how many of the gates below m of a radial's moment are answered with a kind
unfoldable pub answered_with : List ℕ → ℕ → ℕ → ℕ → ℕ → ℕ
answered_with f n t k zero = 0
answered_with f n t k (suc m) = answered_with f n t k m + cond (is_of k (gate_asked f n t m)) 1 0

-- the gates of a moment, length over bin length; none where there is no such moment
unfoldable pub gates_at : List ℕ → Where → ℕ
gates_at b NoRadial = 0
gates_at b NoMoment = 0
gates_at b (At s p) = gates_in (moment_at b p).length (moment_at b p).bin_length

-- the gates that a whole radial adds to a tally of a cut and type in a wedge
abbrev pub gates_one : List ℕ → ℕ → ℕ → Wedge → Stretch → ℕ
gates_one f cut t w s = cond (is_asked f cut w s) (gates_at (bytes_of f s) (moment_in f t s)) 0

-- what a whole radial adds to a tally that asks for no wedge (document 01)
abbrev pub with_no_wedge : List ℕ → ℕ → ℕ → Stretch → Sums
with_no_wedge f cut t s = cond (eqb s.cut cut) (carried (bytes_of f s) (moment_in f t s)) no_sums

unfoldable pub sum_over : (Stretch → ℕ) → List Stretch → ℕ
sum_over g [] = 0
sum_over g (s ∷ ss) = g s + sum_over g ss

-- a whole radial that carries the type, in the wedge by the azimuth that is answered of it, to a tally of its cut: it adds 1; a
-- blank where the spot blank that is answered of it is 1; and to each count, in the order of the kinds, the number of its gates
-- that are answered with that kind; the seven add up to its gates
pub record CountedOnce (f : List ℕ) (n t : ℕ) (w : Wedge) (s : Stretch) (p : ℕ) : Type 0 where
  pub one : (tally_one f s.cut t w s).radials ≡ 1
  pub blank : (tally_one f s.cut t w s).blanks ≡ cond (eqb (radial_of_file f n).header.spot_blank 1) 1 0
  pub kind : (k : ℕ) → k < 7 → get_or (in_order (tally_one f s.cut t w s).counts) k 0 ≡ answered_with f n t k (gates_at (bytes_of f s) (At s p))
  pub all : total_of (tally_one f s.cut t w s).counts ≡ gates_at (bytes_of f s) (At s p)

-- a tally: a whole radial of another cut, outside the wedge or without the type adds nothing; between equal ends every other one
-- adds what it adds where no wedge is asked; each number in the tally is the sum of what the whole radials add, and the seven
-- counts add up to the gates of these radials. Where the type is no measurement, no gate is counted as a value; where it is one,
-- none is counted as a class
pub record Counted (f : List ℕ) (cut t : ℕ) (w : Wedge) : Type 0 where
  pub once : (n : ℕ) (s : Stretch) (p : ℕ) → where_is f n t ≡ At s p → in_wedge w (radial_of_file f n).header.azimuth ≡ true → CountedOnce f n t w s p
  pub elsewhere : (s : Stretch) → (s.cut ≡ cut → ⊥) → tally_one f cut t w s ≡ no_sums
  pub outside : (n : ℕ) (s : Stretch) → nth (stretches f) n ≡ Some s → in_wedge w (radial_of_file f n).header.azimuth ≡ false → tally_one f cut t w s ≡ no_sums
  pub without : (n : ℕ) (s : Stretch) → nth (stretches f) n ≡ Some s → where_is f n t ≡ NoMoment → tally_one f cut t w s ≡ no_sums
  pub all-round : w.start ≡ w.end → (tally_of f cut t w).sums ≡ sums_over (with_no_wedge f cut t) (stretches f)
  pub radials : (tally_of f cut t w).sums.radials ≡ sum_over (λ s. (tally_one f cut t w s).radials) (stretches f)
  pub blanks : (tally_of f cut t w).sums.blanks ≡ sum_over (λ s. (tally_one f cut t w s).blanks) (stretches f)
  pub kinds : (k : ℕ) → k < 7
      → get_or (in_order (tally_of f cut t w).sums.counts) k 0 ≡ sum_over (λ s. get_or (in_order (tally_one f cut t w s).counts) k 0) (stretches f)
  pub all : total_of (tally_of f cut t w).sums.counts ≡ sum_over (gates_one f cut t w) (stretches f)
  pub no_value : is_measurement t ≡ false → (tally_of f cut t w).sums.counts.value ≡ 0
  pub no-class : is_measurement t ≡ true → (tally_of f cut t w).sums.counts.class ≡ 0

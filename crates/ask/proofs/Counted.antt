-- A tally's counts are those of the radial and the gate question's answers, and add up to the gates: specs/Counted, of every file.
-- Assumes nothing.
use Prim.Native.Nat.{ℕ, zero, suc, ◌+◌, ◌≤◌, ◌<◌}
use native.Mathlib.Nat.{add-zero}
use native.Mathlib.Omega.{arith}
use mathlib.Core.Bool.{Bool, true, false, cond, ◌&&◌, true≢false, false≢true}
use mathlib.Core.List.{List, [], ◌∷◌, map, map-append}
use mathlib.Core.Path.{◌≡◌, refl, sym, ap, ◌∙◌}
use borrow.Author.Tests.{eq-eqb, ne_eqb, lt-ltb}
use lib.Dec.{eqb}
use lib.ListN.{length, get_or, take}
use lib.Seq.{take-suc, take-length}
use Rattle.std.specs.Prelude.{Option, Some, None}
use Rattle.moment.specs.Moment.{moment_at}
use Rattle.radial.specs.declared.Radial.{Radial}
use Rattle.radial.specs.Radial.{radial_at}
use Rattle.wedge.specs.declared.Wedge.{Wedge}
use Rattle.wedge.specs.Wedge.{in_wedge}
use Rattle.gates.specs.declared.Coding.{Coding}
use Rattle.gates.specs.Codes.{codes_of}
use Rattle.gates.specs.Counting.{count_of, in_order, total_of}
use Rattle.gates.specs.Gates.{is_measurement, kind_of, told_of}
use Rattle.gates.proofs.Counting.{count-append, count_none, counts_all, in_order_lem, sum-in-order}
use Rattle.gates.proofs.Gates.{kind-back}
use Rattle.moments.specs.Moments.{moments_of, find_in, data_at}
use Rattle.reading.specs.declared.Stretch.{Stretch}
use Rattle.reading.specs.Reading.{stretches, nth, bytes_of}
use Rattle.reading.specs.Tiling.{WholeRadial, AllWhole}
use Rattle.reading.proofs.Radials.{all_whole}
use Rattle.ask.specs.declared.places.Where.TheVariants.{At, NoMoment}
use Rattle.ask.specs.declared.tallies.Sums.{Sums}
use Rattle.ask.specs.Answers.{radial_told, radial_of_file, coding_of, gate_in, gate_told}
use Rattle.ask.specs.Counted.{is_of, answered_with, gates_at, gates_one, sum_over, CountedOnce, Counted}
use Rattle.ask.specs.Growth.{gate_asked}
use Rattle.ask.specs.Places.{in_stretch, moment_in, in_found, where_is}
use Rattle.ask.specs.Tallies.{no_sums, added, carried, is_asked, tally_one, sums_over}
use Rattle.ask.proofs.AddUp.{full-circle}
use Rattle.ask.proofs.Asked.{find-type}
use Rattle.ask.proofs.Growing.{Placed, AllPlaced, all_placed, nth-placed}
use Rattle.ask.proofs.Sounding.{own-radial, stands, sound, whole-sound}

-- the codes of a moment, and what their header says of them
abbrev codes_at : List ℕ → ℕ → List ℕ
codes_at b p = codes_of (moment_at b p).bin_length (data_at b p)

abbrev coding_at : List ℕ → ℕ → Coding
coding_at b p = coding_of (moment_at b p)

-- ---- a radial that carries the type

-- the header that is answered of a whole radial is that of its own stretch
header_is : (f : List ℕ) (n : ℕ) (s : Stretch) → nth (stretches f) n ≡ Some s → (radial_of_file f n).header ≡ radial_at (bytes_of f s) 0
unfolding radial_told
header_is f n s e = rw e (sym (own-radial f s (nth-placed f n s e)))

module _ (f : List ℕ) (n t : ℕ) (s : Stretch) (p : ℕ) (e : where_is f n t ≡ At s p) where
  abbrev codes : List ℕ
  codes = codes_at (bytes_of f s) p

  abbrev kind : ℕ → ℕ
  kind code = kind_of (coding_at (bytes_of f s) p) code

  -- a gate is answered with its code's kind
  of-kind : (k i : ℕ) → i < length codes → is_of k (gate_asked f n t i) ≡ eqb (kind (get_or codes i 0)) k
  unfolding gate_told gate_in told_of
  of-kind k i h = rw (e, lt-ltb i (length codes) h)

  counted-below : (k m : ℕ) → m ≤ length codes → answered_with f n t k m ≡ count_of k (map kind (take m codes))
  unfolding answered_with count_of
  counted-below k zero h = refl
  counted-below k (suc m) h =
      let here = get_or codes m 0 in
      rw (
        counted-below k m (omega arith),
        of-kind k m (omega arith),
        take-suc codes m 0 (omega arith),
        map-append kind (take m codes) (here ∷ []),
        count-append k (map kind (take m codes)) (kind here ∷ []),
        add-zero,
      )

  module _ (w : Wedge) (inside : in_wedge w (radial_of_file f n).header.azimuth ≡ true) where
    header : (radial_of_file f n).header ≡ radial_at (bytes_of f s) 0
    header = header_is f n s (stands f n t s p e).radial

    here : in_wedge w (radial_at (bytes_of f s) 0).azimuth ≡ true
    here = ap (λ (r : Radial). in_wedge w r.azimuth) (sym header) ∙ inside

    one-is : tally_one f s.cut t w s ≡ carried (bytes_of f s) (At s p)
    unfolding in_stretch
    one-is = rw (eq-eqb s.cut s.cut refl, here, (stands f n t s p e).moment)

    counted-once : CountedOnce f n t w s p
    unfolding carried gates_at
    counted-once =
        let gates = (sound f n t s p e).gates in
        record {
          one = ap (λ (x : Sums). x.radials) one-is;
          blank = ap (λ (x : Sums). x.blanks) one-is ∙ ap (λ (r : Radial). cond (eqb r.spot_blank 1) 1 0) (sym header);
          kind = λ k h.
              ap (λ (x : Sums). get_or (in_order x.counts) k 0) one-is
              ∙ in_order_lem (map kind codes) k h
              ∙ sym (counted-below k (length codes) (omega arith) ∙ rw (take-length codes))
              ∙ ap (answered_with f n t k) gates;
          all = ap (λ (x : Sums). total_of x.counts) one-is ∙ counts_all (coding_at (bytes_of f s) p) codes ∙ gates;
        }

-- ---- a radial that adds nothing

module _ (f : List ℕ) (cut t : ℕ) (w : Wedge) where
  elsewhere : (s : Stretch) → (s.cut ≡ cut → ⊥) → tally_one f cut t w s ≡ no_sums
  elsewhere s d = rw (ne_eqb s.cut cut d)

  outside : (n : ℕ) (s : Stretch) → nth (stretches f) n ≡ Some s → in_wedge w (radial_of_file f n).header.azimuth ≡ false → tally_one f cut t w s ≡ no_sums
  outside n s e o =
      let there : in_wedge w (radial_at (bytes_of f s) 0).azimuth ≡ false = ap (λ (r : Radial). in_wedge w r.azimuth) (sym (header_is f n s e)) ∙ o in
      rw there (go (eqb s.cut cut))
    where
      go : (b : Bool) → cond (b && false) (carried (bytes_of f s) (moment_in f t s)) no_sums ≡ no_sums
      go true = refl
      go false = refl

  without : (n : ℕ) (s : Stretch) → nth (stretches f) n ≡ Some s → where_is f n t ≡ NoMoment → tally_one f cut t w s ≡ no_sums
  unfolding in_found carried
  without n s e o =
      let no : moment_in f t s ≡ NoMoment = rw e at o in
      rw no (go (is_asked f cut w s))
    where
      go : (b : Bool) → cond b no_sums no_sums ≡ no_sums
      go true = refl
      go false = refl

-- ---- all radials

total-added : (x y : Sums) → total_of (added x y).counts ≡ total_of x.counts + total_of y.counts
total-added x y = omega arith

-- the count that a type shuts out: of classes for a measurement, of values for any other
abbrev strays : Bool → Sums → ℕ
strays m a = cond m a.counts.class a.counts.value

none-astray : (m : Bool) → strays m no_sums ≡ 0
unfolding count_of
none-astray true = refl
none-astray false = refl

added-astray : (m : Bool) (x y : Sums) → strays m x ≡ 0 → strays m y ≡ 0 → strays m (added x y) ≡ 0
added-astray true x y a b = omega arith
added-astray false x y a b = omega arith

module _ (f : List ℕ) (t : ℕ) (w : Wedge) where
  carried-gates : (s : Stretch) → WholeRadial f s → Placed f s → total_of (carried (bytes_of f s) (moment_in f t s)).counts ≡ gates_at (bytes_of f s) (moment_in f t s)
  unfolding in_stretch carried gates_at count_of
  carried-gates s whole h = go (find_in (bytes_of f s) t (moments_of (bytes_of f s))) refl
    where
      go : (v : Option ℕ) → find_in (bytes_of f s) t (moments_of (bytes_of f s)) ≡ v → total_of (carried (bytes_of f s) (in_stretch s v)).counts ≡ gates_at (bytes_of f s) (in_stretch s v)
      go (Some p) e =
          counts_all (coding_at (bytes_of f s) p) (codes_at (bytes_of f s) p) ∙ (whole-sound f t s p whole h e).gates
      go None e = refl

  over-radials : (cut : ℕ) (ss : List Stretch) → (sums_over (tally_one f cut t w) ss).radials ≡ sum_over (λ s. (tally_one f cut t w s).radials) ss
  unfolding sums_over sum_over
  over-radials cut [] = refl
  over-radials cut (s ∷ ss) = rw (over-radials cut ss)

  over-blanks : (cut : ℕ) (ss : List Stretch) → (sums_over (tally_one f cut t w) ss).blanks ≡ sum_over (λ s. (tally_one f cut t w s).blanks) ss
  unfolding sums_over sum_over
  over-blanks cut [] = refl
  over-blanks cut (s ∷ ss) = rw (over-blanks cut ss)

  over-kinds : (cut k : ℕ) (ss : List Stretch) → k < 7
      → get_or (in_order (sums_over (tally_one f cut t w) ss).counts) k 0 ≡ sum_over (λ s. get_or (in_order (tally_one f cut t w s).counts) k 0) ss
  unfolding sums_over sum_over count_of
  over-kinds cut k [] h = in_order_lem [] k h
  over-kinds cut k (s ∷ ss) h =
      sum-in-order (tally_one f cut t w s).counts (sums_over (tally_one f cut t w) ss).counts k h
      ∙ ap (λ (x : ℕ). get_or (in_order (tally_one f cut t w s).counts) k 0 + x) (over-kinds cut k ss h)

  over-gates : (cut : ℕ) (ss : List Stretch) → AllWhole f ss → AllPlaced f ss → total_of (sums_over (tally_one f cut t w) ss).counts ≡ sum_over (gates_one f cut t w) ss
  unfolding sums_over sum_over count_of
  over-gates cut [] all h = refl
  over-gates cut (s ∷ ss) all h =
      total-added (tally_one f cut t w s) (sums_over (tally_one f cut t w) ss)
      ∙ rw (over-gates cut ss all.1 h.1) (ap (λ (x : ℕ). x + sum_over (gates_one f cut t w) ss) (go (is_asked f cut w s)))
    where
      go : (b : Bool) → total_of (cond b (carried (bytes_of f s) (moment_in f t s)) no_sums).counts ≡ cond b (gates_at (bytes_of f s) (moment_in f t s)) 0
      go true = carried-gates s all.0 h.0
      go false = refl

  carried-astray : (m : Bool) (s : Stretch) → is_measurement t ≡ m → strays m (carried (bytes_of f s) (moment_in f t s)) ≡ 0
  unfolding in_stretch carried
  carried-astray m s is = go (find_in (bytes_of f s) t (moments_of (bytes_of f s))) refl
    where
      type-is : (p : ℕ) (z : Bool) → find_in (bytes_of f s) t (moments_of (bytes_of f s)) ≡ Some p → is_measurement (moment_at (bytes_of f s) p).data_type ≡ z → m ≡ z
      type-is p z e k = sym is ∙ ap is_measurement (sym (find-type (bytes_of f s) t p (moments_of (bytes_of f s)) e)) ∙ k

      here : (m : Bool) (p : ℕ) → ((z : Bool) → is_measurement (moment_at (bytes_of f s) p).data_type ≡ z → m ≡ z) → strays m (carried (bytes_of f s) (At s p)) ≡ 0
      here true p h = count_none (coding_at (bytes_of f s) p) 6 (codes_at (bytes_of f s) p) (λ code k. true≢false (h false (kind-back (coding_at (bytes_of f s) p) code false k).0))
      here false p h = count_none (coding_at (bytes_of f s) p) 5 (codes_at (bytes_of f s) p) (λ code k. false≢true (h true (kind-back (coding_at (bytes_of f s) p) code true k).0))

      go : (v : Option ℕ) → find_in (bytes_of f s) t (moments_of (bytes_of f s)) ≡ v → strays m (carried (bytes_of f s) (in_stretch s v)) ≡ 0
      go (Some p) e = here m p (λ z k. type-is p z e k)
      go None e = none-astray m

  over-astray : (m : Bool) (cut : ℕ) (ss : List Stretch) → is_measurement t ≡ m → strays m (sums_over (tally_one f cut t w) ss) ≡ 0
  unfolding sums_over
  over-astray m cut [] is = none-astray m
  over-astray m cut (s ∷ ss) is = added-astray m (tally_one f cut t w s) (sums_over (tally_one f cut t w) ss) (go (is_asked f cut w s)) (over-astray m cut ss is)
    where
      go : (b : Bool) → strays m (cond b (carried (bytes_of f s) (moment_in f t s)) no_sums) ≡ 0
      go true = carried-astray m s is
      go false = none-astray m

pub counted : (f : List ℕ) (cut t : ℕ) (w : Wedge) → Counted f cut t w
counted f cut t w =
    record {
      once = λ n s p e i. counted-once f n t s p e w i;
      elsewhere = elsewhere f cut t w;
      outside = outside f cut t w;
      without = without f cut t w;
      all-round = full-circle f cut t w;
      radials = over-radials f t w cut (stretches f);
      blanks = over-blanks f t w cut (stretches f);
      kinds = λ k h. over-kinds f t w cut k (stretches f) h;
      all = over-gates f t w cut (stretches f) (all_whole f) (all_placed f);
      no_value = over-astray f t w false cut (stretches f);
      no-class = over-astray f t w true cut (stretches f);
    }

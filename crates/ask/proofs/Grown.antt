-- Growth of answers: the statement of specs/Growth, for every A and C with a byte at least. Assumes nothing.
use Prim.Native.Nat.{ℕ, ◌<◌}
use native.Mathlib.Omega.{arith}
use mathlib.Core.List.{List, ◌++◌}
use mathlib.Core.Logic.{◌⊎◌, inl, inr}
use mathlib.Core.Path.{◌≡◌, refl, sym, ap, transport, ◌∙◌}
use lib.IntN.{ℤ}
use lib.ListN.{length}
use Rattle.std.specs.Prelude.{Option, Some, None, Result}
use Rattle.refusal.specs.declared.Refusal.{Refusal}
use Rattle.gates.specs.Telling.{refused}
use Rattle.le.proofs.Laws.{part_in}
use Rattle.radial.specs.Radial.{radial_of, radial_at}
use Rattle.wedge.specs.declared.Wedge.{Wedge}
use Rattle.wedge.specs.Wedge.{wedge_ok}
use Rattle.moments.specs.Moments.{moments_of, find_in}
use Rattle.reading.specs.declared.Stretch.{Stretch}
use Rattle.reading.specs.Growth.{Same, Grows}
use Rattle.reading.specs.Reading.{stop, stretches, nth, bytes_of}
use Rattle.reading.proofs.Grown.{grows}
use Rattle.ask.specs.declared.places.Where.{Where}
use Rattle.ask.specs.declared.tallies.Sums.{Sums}
use Rattle.ask.specs.Answers.{radial_told, moment_told, data_told, gate_told, RowTold}
use Rattle.ask.specs.Growth.{gate_asked, RowAsked, Kept, AnswersGrow}
use Rattle.ask.specs.Places.{in_stretch, moment_in, in_found, where_is}
use Rattle.ask.specs.Tallies.{added, tally_one, sums_over, tally_of, cut_accepted, tally_answer}
use Rattle.ask.proofs.Growing.{nth-kept, nth_of, nth-placed, sums_same, accepted-kept, no-fewer}
use Rattle.ask.proofs.Tallying.{sums-append, told-31, told-61, told-counted, told-either, told-some}

module _ (A C : List ℕ) (some : 0 < length C) where
  -- ---- a radial that is whole in A

  module _ (n : ℕ) (s : Stretch) (here : nth (stretches A) n ≡ Some s) where
    g : Grows A C
    g = grows A C some

    there : nth (stretches (A ++ C)) n ≡ Some s
    there = ap (λ (l : List Stretch). nth l n) g.radials ∙ nth-kept (stretches A) g.later n s here

    same : bytes_of (A ++ C) s ≡ bytes_of A s
    same = nth_of (Same A (A ++ C)) (λ x. bytes_of (A ++ C) x ≡ bytes_of A x) (λ x l h. h) (stretches A) n s g.bytes here

    header : radial_at (A ++ C) s.start ≡ radial_at A s.start
    unfolding radial_at
    header =
        let p = nth-placed A n s here in
        let h = p.header in
        let w = p.within in
        ap radial_of (part_in 64 A C s.start (omega arith))

    place_kept : (t : ℕ) → where_is (A ++ C) n t ≡ where_is A n t
    unfolding in_found
    place_kept t = rw (there, here) (ap (λ (b : List ℕ). in_stretch s (find_in b t (moments_of b))) same)

    placed : (t : ℕ) → where_is A n t ≡ moment_in A t s
    unfolding in_found
    placed t = rw here

    -- an answer looks at the file only in the radial's own stretch
    moment-same : (v : Option ℕ) → moment_told (A ++ C) (in_stretch s v) ≡ moment_told A (in_stretch s v)
    unfolding in_stretch moment_told
    moment-same (Some p) = rw same
    moment-same None = refl

    data-same : (v : Option ℕ) → data_told (A ++ C) (in_stretch s v) ≡ data_told A (in_stretch s v)
    unfolding in_stretch data_told
    data-same (Some p) = rw same
    data-same None = refl

    gate_same : (v : Option ℕ) (i : ℕ) → gate_told (A ++ C) (in_stretch s v) i ≡ gate_told A (in_stretch s v) i
    unfolding in_stretch gate_told
    gate_same (Some p) i = rw same
    gate_same None i = refl

    row_same : (v : Option ℕ) (k k' : List ℕ) (h h' : List ℤ) (r : Result ℕ Refusal) → RowTold (A ++ C) (in_stretch s v) k h r k' h' ≡ RowTold A (in_stretch s v) k h r k' h'
    unfolding in_stretch RowTold
    row_same (Some p) k k' h h' r = rw same
    row_same None k k' h h' r = refl

    row_kept : (t : ℕ) (k k' : List ℕ) (h h' : List ℤ) (r : Result ℕ Refusal) → RowAsked (A ++ C) n t k h r k' h' ≡ RowAsked A n t k h r k' h'
    row_kept t k k' h h' r =
        ap (λ (w : Where). RowTold (A ++ C) w k h r k' h') (place_kept t ∙ placed t)
        ∙ row_same _ k k' h h' r
        ∙ ap (λ (w : Where). RowTold A w k h r k' h') (sym (placed t))

    pub kept : Kept A C n
    unfolding radial_told
    kept =
        record {
          radial = rw (there, here, header);
          place = place_kept;
          moment = λ t. ap (moment_told (A ++ C)) (place_kept t ∙ placed t) ∙ moment-same _ ∙ ap (moment_told A) (sym (placed t));
          bytes = λ t. ap (data_told (A ++ C)) (place_kept t ∙ placed t) ∙ data-same _ ∙ ap (data_told A) (sym (placed t));
          gate = λ t i. ap (λ (w : Where). gate_told (A ++ C) w i) (place_kept t ∙ placed t) ∙ gate_same _ i ∙ ap (λ (w : Where). gate_told A w i) (sym (placed t));
          row = λ t k k' h h' r. (transport (row_kept t k k' h h' r), transport (sym (row_kept t k k' h h' r)));
        }

  -- ---- any gate

  nowhere : (n t i : ℕ) → nth (stretches A) n ≡ None → gate_asked A n t i ≡ refused 30 0
  unfolding in_found gate_told
  nowhere n t i e = rw e

  gate-grows : (n t i : ℕ) (v : Option Stretch) → nth (stretches A) n ≡ v → (gate_asked A n t i ≡ refused 30 0) ⊎ (gate_asked (A ++ C) n t i ≡ gate_asked A n t i)
  gate-grows n t i None e = inl (nowhere n t i e)
  gate-grows n t i (Some s) e = inr ((kept n s e).gate t i)

  -- ---- tallies: the longer file's sums are A's with what later radials add

  sums_grown : (cut t : ℕ) (w : Wedge) → (b : Sums) × ((tally_of (A ++ C) cut t w).sums ≡ added (tally_of A cut t w).sums b)
  sums_grown cut t w =
      let h = grows A C some in
      let g = tally_one (A ++ C) cut t w in (
        sums_over g h.later,
        ap (sums_over g) h.radials
            ∙ sums-append g (stretches A) h.later
            ∙ ap (λ (x : Sums). added x (sums_over g h.later)) (sums_same A C cut t w (stretches A) h.bytes),
      )

  pub answers-grow : AnswersGrow A C
  unfolding tally_answer
  answers-grow =
      record {
        whole = λ n s e. kept n s e;
        gate = λ n t i. gate-grows n t i (nth (stretches A) n) refl;
        no-wedge = λ cut t w e. rw (told-61 (wedge_ok w) (cut_accepted (stop A) cut) (tally_of A cut t w) e);
        uncounted = λ cut t w e.
            let k = told-31 (wedge_ok w) (cut_accepted (stop A) cut) (tally_of A cut t w) e in
            rw (k.0, accepted-kept A C cut k.1) (told-either (tally_of (A ++ C) cut t w));
        counted = λ cut t w a e.
            let c = told-counted (wedge_ok w) (cut_accepted (stop A) cut) (tally_of A cut t w) a e in
            let g = sums_grown cut t w in
            let x = c.1.1.0 in
            let more : ((tally_of (A ++ C) cut t w).sums.radials ≡ 0 → ⊥) = λ z. c.1.1.1 (let r = ap (λ (y : Sums). y.radials) g.1 in omega arith) in (
              tally_of (A ++ C) cut t w,
              (
                rw (c.0, accepted-kept A C cut c.1.0) (told-some (tally_of (A ++ C) cut t w) more),
                rw (g.1, ← x) (no-fewer w (tally_of A cut t w).sums g.0),
              ),
            );
      }

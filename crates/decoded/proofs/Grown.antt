-- Growth of the answers on decoded rows: the statement of specs/Growth, for every A and C with a byte at least. Assumes nothing.
use Prim.Native.Nat.{ℕ, ◌<◌}
use mathlib.Core.List.{List, ◌++◌}
use mathlib.Core.Logic.{◌⊎◌, inl, inr}
use mathlib.Core.Path.{◌≡◌, refl, sym, ap, ◌∙◌}
use lib.IntN.{ℤ}
use lib.ListN.{length}
use Rattle.std.specs.Prelude.{Option, Some, None}
use Rattle.gates.specs.Telling.{refused}
use Rattle.reading.specs.declared.Stretch.{Stretch}
use Rattle.reading.specs.Reading.{stretches, nth}
use Rattle.ask.specs.declared.answers.MomentAnswer.{MomentAnswer}
use Rattle.ask.specs.declared.places.Where.{Where}
use Rattle.ask.specs.declared.places.Where.TheVariants.{At, NoRadial, NoMoment}
use Rattle.ask.specs.Answers.{moment_told, data_told}
use Rattle.ask.specs.Growth.{Kept}
use Rattle.ask.specs.Places.{in_found, where_is}
use Rattle.ask.proofs.Grown.{answers-grow}
use Rattle.decoded.specs.Decoded.{check_told, check_asked}
use Rattle.decoded.specs.Growth.{ChecksGrow}

-- the answer by the moment's header and data, which two files may share
module _ (k : List ℕ) (h : List ℤ) where
  by-answers : (f g : List ℕ) (w : Where) → moment_told f w ≡ moment_told g w → data_told f w ≡ data_told g w → check_told f w k h ≡ check_told g w k h
  unfolding check_told moment_told data_told
  by-answers f g NoRadial m d = refl
  by-answers f g NoMoment m d = refl
  by-answers f g (At s p) m d =
      let e = ap (λ (a : MomentAnswer). a.header) m in
      rw (e, d)

module _ (A C : List ℕ) (some : 0 < length C) where
  module _ (n : ℕ) (s : Stretch) (here : nth (stretches A) n ≡ Some s) (t : ℕ) (k : List ℕ) (h : List ℤ) where
    kept : Kept A C n
    kept = (answers-grow A C some).whole n s here

    whole : check_asked (A ++ C) n t k h ≡ check_asked A n t k h
    whole =
        let place = kept.place t in
        ap (λ (w : Where). check_told (A ++ C) w k h) place
        ∙ by-answers k h (A ++ C) A (where_is A n t) (sym (ap (moment_told (A ++ C)) place) ∙ kept.moment t) (sym (ap (data_told (A ++ C)) place) ∙ kept.bytes t)

  nowhere : (n t : ℕ) (k : List ℕ) (h : List ℤ) → nth (stretches A) n ≡ None → check_asked A n t k h ≡ refused 30 0
  unfolding in_found check_told
  nowhere n t k h e = rw e

  any : (n t : ℕ) (k : List ℕ) (h : List ℤ) (v : Option Stretch) → nth (stretches A) n ≡ v → (check_asked A n t k h ≡ refused 30 0) ⊎ (check_asked (A ++ C) n t k h ≡ check_asked A n t k h)
  any n t k h None e = inl (nowhere n t k h e)
  any n t k h (Some s) e = inr (whole n s e t k h)

  pub checks-grow : ChecksGrow A C
  checks-grow = record { whole = whole; any = λ n t k h. any n t k h (nth (stretches A) n) refl }

-- What is answered is what was asked for: specs/Asked, of every file. Assumes nothing.
use Prim.Native.Nat.{ℕ}
use native.Mathlib.Omega.{arith}
use mathlib.Core.Bool.{Bool, true, false, cond}
use mathlib.Core.List.{List, [], ◌∷◌}
use mathlib.Core.Path.{◌≡◌, refl, sym, ap, subst, ◌∙◌}
use borrow.Author.Tests.{eqb-true}
use lib.Dec.{eqb, ltb}
use lib.ListN.{length, get_or}
use Rattle.std.specs.Prelude.{Some}
use Rattle.moment.specs.declared.Moment.{Moment}
use Rattle.moment.specs.Moment.{moment_at}
use Rattle.gates.specs.Codes.{codes_of}
use Rattle.gates.specs.Gates.{is_measurement, told_of, Values, values_of}
use Rattle.gates.specs.Telling.{refused, answered}
use Rattle.gates.proofs.Gates.{kind-back}
use Rattle.moments.specs.Moments.{moments_of, find_in, data_at}
use Rattle.reading.specs.declared.Stretch.{Stretch}
use Rattle.reading.specs.Reading.{stretches, nth, bytes_of}
use Rattle.reading.proofs.Sequences.{nth-sequence}
use Rattle.ask.specs.declared.answers.RadialAnswer.{RadialAnswer}
use Rattle.ask.specs.declared.places.Where.{Where}
use Rattle.ask.specs.declared.places.Where.TheVariants.{At, NoRadial, NoMoment}
use Rattle.ask.specs.Answers.{radial_told, radial_of_file, coding_of, gate_in, gate_told}
use Rattle.ask.specs.Asked.{AsAsked}
use Rattle.ask.specs.Places.{where_is}
use Rattle.ask.proofs.Sounding.{stands}

-- a search finds a moment of the type that it seeks
pub find-type : (b : List ℕ) (t p : ℕ) (ats : List ℕ) → find_in b t ats ≡ Some p → (moment_at b p).data_type ≡ t
unfolding find_in
find-type b t p [] e = absurd (let z : ◌≡◌ {A = ℕ} 0 1 = cc in omega arith)
find-type b t p (at ∷ ats) e = go (eqb (moment_at b at).data_type t) refl (λ q. find-type b t p ats q)
  where
    go : (z : Bool) → eqb (moment_at b at).data_type t ≡ z → (find_in b t ats ≡ Some p → (moment_at b p).data_type ≡ t) → (moment_at b p).data_type ≡ t
    go true q later =
        let here : cond true (Some at) (find_in b t ats) ≡ Some p = rw q at e in
        let same : at ≡ p = cc in
        subst (λ (x : ℕ). (moment_at b x).data_type ≡ t) same (eqb-true _ t q)
    go false q later = later (rw q at e)

its-sequence : (f : List ℕ) (n : ℕ) (s : Stretch) → nth (stretches f) n ≡ Some s → (radial_of_file f n).header.sequence ≡ n
unfolding radial_told
its-sequence f n s e = ap (λ (r : RadialAnswer). r.header.sequence) (ap (radial_told f) e) ∙ nth-sequence f n s e

its-type : (f : List ℕ) (n t : ℕ) (s : Stretch) (p : ℕ) → where_is f n t ≡ At s p → (moment_at (bytes_of f s) p).data_type ≡ t
its-type f n t s p e = find-type (bytes_of f s) t p (moments_of (bytes_of f s)) (stands f n t s p e).moment

pub answered-one : {x y : Values} → answered x ≡ answered y → x ≡ y
answered-one e = cc

-- a gate answered as a value or as a class has the type that goes with it
gate-by-type : (h : Moment) (bytes : List ℕ) (i : ℕ) (v : Values) (m : Bool) → gate_in h bytes i ≡ answered v → v.gate.0 ≡ cond m 5 6 → is_measurement h.data_type ≡ m
unfolding gate_in told_of
gate-by-type h bytes i v m e k = go (ltb i (length (codes_of h.bin_length bytes))) e
  where
    go : (z : Bool) → cond z (answered (values_of (told_of (coding_of h) (get_or (codes_of h.bin_length bytes) i 0)))) (refused 32 0) ≡ answered v → is_measurement h.data_type ≡ m
    go true y = (kind-back (coding_of h) _ m (ap (λ (x : Values). x.gate.0) (answered-one y) ∙ k)).0
    go false y = absurd (let z : ◌≡◌ {A = ℕ} 0 1 = cc in omega arith)

by-type : (f : List ℕ) (n t i : ℕ) (v : Values) (m : Bool) → gate_told f (where_is f n t) i ≡ answered v → v.gate.0 ≡ cond m 5 6 → is_measurement t ≡ m
unfolding gate_told
by-type f n t i v m e k = go (where_is f n t) refl e
  where
    go : (w : Where) → where_is f n t ≡ w → gate_told f w i ≡ answered v → is_measurement t ≡ m
    go NoRadial q a = absurd (let z : ◌≡◌ {A = ℕ} 0 1 = cc in omega arith)
    go NoMoment q a = absurd (let z : ◌≡◌ {A = ℕ} 0 1 = cc in omega arith)
    go (At s p) q a =
        ap is_measurement (sym (its-type f n t s p q))
        ∙ gate-by-type (moment_at (bytes_of f s) p) (data_at (bytes_of f s) p) i v m a k

pub as-asked : (f : List ℕ) (n t : ℕ) → AsAsked f n t
as-asked f n t =
    record {
      sequence = its-sequence f n;
      data_type = its-type f n t;
      value = λ i v e k. by-type f n t i v true e k;
      class = λ i v e k. by-type f n t i v false e k;
    }

-- Two whole radials whose own bytes differ at most in the state are answered alike, since all else is read behind it. Assumes nothing.
use Prim.Native.Nat.{ℕ, zero, suc, ◌+◌, ◌-◌, ◌≤◌}
use native.Mathlib.Omega.{arith}
use mathlib.Core.Bool.{Bool, true, false, cond}
use mathlib.Core.List.{List, [], ◌∷◌}
use mathlib.Core.Path.{◌≡◌, refl, sym, ap, ap₂, subst, transport, ◌∙◌}
use lib.Dec.{eqb, leb}
use lib.IntN.{ℤ}
use lib.ListN.{length, take, drop}
use lib.Seq.{drop-drop}
use Rattle.std.specs.Prelude.{Option, Some, None, Result}
use Rattle.refusal.specs.declared.Refusal.{Refusal}
use Rattle.le.specs.Le.{le, part}
use Rattle.le.proofs.Laws.{le-own, part-drop, part-part}
use Rattle.moment.specs.declared.Moment.{Moment}
use Rattle.moment.specs.Moment.{moment_of, moment_at}
use Rattle.radial.specs.declared.Radial.{Radial}
use Rattle.radial.specs.Radial.{radial_of, radial_at}
use Rattle.gates.specs.Codes.{codes_of}
use Rattle.gates.specs.Rows.{Rowed}
use Rattle.moments.specs.Moments.{after, moments_from, moments_of, find_in, data_at}
use Rattle.reading.specs.declared.Stretch.{Stretch}
use Rattle.reading.specs.Reading.{stretches, nth, bytes_of}
use Rattle.ask.specs.declared.places.Where.{Where}
use Rattle.ask.specs.declared.places.Where.TheVariants.{At, NoMoment}
use Rattle.ask.specs.Answers.{radial_told, moment_told, data_told, coding_of, gate_in, gate_told, RowTold}
use Rattle.ask.specs.Growth.{RowAsked}
use Rattle.ask.specs.Places.{in_stretch, in_found, where_is}
use Rattle.ask.proofs.Growing.{nth-placed}
use Rattle.ask.proofs.Sounding.{own-radial}
use Rattle.mend.specs.Answers.{with_state, Alike}

-- what agrees either way agrees by a test
either {ℓ} : {A : Type 0} {X : Type ℓ} (v w : A → X) (x : Bool) {a b d e : A} → v a ≡ w b → v d ≡ w e → v (cond x a d) ≡ w (cond x b e)
either v w true y n = y
either v w false y n = n

-- ---- own bytes b and c that are the same behind the first four

module _ (b c : List ℕ) (long : length c ≡ length b) (same : drop 4 c ≡ drop 4 b) where
  behind : (at : ℕ) → 4 ≤ at → drop at c ≡ drop at b
  behind at h =
      let e : 4 + (at - 4) ≡ at = omega arith in
      subst (λ (a : ℕ). drop a c ≡ drop a b) e (sym (drop-drop (at - 4) 4 c) ∙ ap (drop (at - 4)) same ∙ drop-drop (at - 4) 4 b)

  parts : (n at : ℕ) → 4 ≤ at → part n c at ≡ part n b at
  parts n at h =
      let e : at + 0 ≡ at = omega arith in
      subst (λ (a : ℕ). part n c a ≡ part n b a) e (sym (part-drop n at c 0) ∙ ap (λ (l : List ℕ). part n l 0) (behind at h) ∙ part-drop n at b 0)

  own : (n at : ℕ) → 4 ≤ at → at + n ≤ 64 → part n (part 64 c 0) at ≡ part n (part 64 b 0) at
  own n at h r = part-part n 64 c 0 at r ∙ parts n (0 + at) (omega arith) ∙ sym (part-part n 64 b 0 at r)

  word : (at : ℕ) → 4 ≤ at → at + 4 ≤ 64 → le 4 (part 64 c 0) at ≡ le 4 (part 64 b 0) at
  word at h r = sym (le-own 4 (part 64 c 0) at) ∙ ap (λ (l : List ℕ). le 4 l 0) (own 4 at h r) ∙ le-own 4 (part 64 b 0) at

  pub header : radial_at c 0 ≡ with_state (radial_at b 0) (radial_at c 0).state
  unfolding radial_at radial_of
  header =
      λ i. record {
        state = (radial_at c 0).state;
        spot_blank = word 4 (omega arith) (omega arith) i;
        sequence = word 8 (omega arith) (omega arith) i;
        radial_number = word 12 (omega arith) (omega arith) i;
        elevation_number = word 16 (omega arith) (omega arith) i;
        azimuth = word 20 (omega arith) (omega arith) i;
        elevation = word 24 (omega arith) (omega arith) i;
        seconds = word 28 (omega arith) (omega arith) i;
        microseconds = word 32 (omega arith) (omega arith) i;
        length_of_data = word 36 (omega arith) (omega arith) i;
        moment_number = word 40 (omega arith) (omega arith) i;
        reserved = own 20 44 (omega arith) (omega arith) i;
      }

  moment-same : (at : ℕ) → 4 ≤ at → moment_at c at ≡ moment_at b at
  unfolding moment_at
  moment-same at h = ap moment_of (parts 32 at h)

  data-same : (at : ℕ) → 4 ≤ at → data_at c at ≡ data_at b at
  unfolding data_at
  data-same at h = ap₂ take (ap (λ (m : Moment). m.length) (moment-same at h)) (behind (at + 32) (omega arith))

  -- what is told of a search in c and of the same search in b, each by the header and the data of the moment that it finds
  module _ {ℓ} {X : Type ℓ} (v w : Option ℕ → X) (none : v None ≡ w None)
      (one : (p : ℕ) → moment_at c p ≡ moment_at b p → data_at c p ≡ data_at b p → v (Some p) ≡ w (Some p)) (t : ℕ) where
    told-on : (at : ℕ) → 4 ≤ at → (l m : List ℕ) → v (find_in c t l) ≡ w (find_in b t m) → v (find_in c t (at ∷ l)) ≡ w (find_in b t (at ∷ m))
    unfolding find_in
    told-on at h l m rest =
        ap (λ (x : Moment). v (cond (eqb x.data_type t) (Some at) (find_in c t l))) (moment-same at h)
        ∙ either v w (eqb (moment_at b at).data_type t) (one at (moment-same at h) (data-same at h)) rest

    told-from : (k at : ℕ) → 4 ≤ at → v (find_in c t (moments_from k c at)) ≡ w (find_in b t (moments_from k b at))
    unfolding find_in moments_from
    told-from zero at h = none
    told-from (suc k) at h =
        let l = moments_from k c (after c at) in
        let m = moments_from k b (after b at) in
        let rest = ap (λ (x : Moment). v (find_in c t (moments_from k c (at + 32 + x.length)))) (moment-same at h) ∙ told-from k (after b at) (omega arith) in
        ap (λ (x : ℕ). v (find_in c t (cond (leb (at + 32) x) (at ∷ l) []))) long
        ∙ either (λ x. v (find_in c t x)) (λ x. w (find_in b t x)) (leb (at + 32) (length b)) (told-on at h l m rest) none

    pub told : v (find_in c t (moments_of c)) ≡ w (find_in b t (moments_of b))
    told =
        ap (λ (r : Radial). v (find_in c t (moments_from r.moment_number c 64))) header ∙ told-from (radial_at b 0).moment_number 64 (omega arith)

-- ---- the two radials

module _ (f g : List ℕ) (n gap : ℕ) (s u : Stretch) (here : nth (stretches f) n ≡ Some s) (there : nth (stretches g) n ≡ Some u)
    (start : s.start ≡ u.start + gap) (long : length (bytes_of g u) ≡ length (bytes_of f s)) (same : drop 4 (bytes_of g u) ≡ drop 4 (bytes_of f s)) where
  header-alike : radial_at g u.start ≡ with_state (radial_at f s.start) (radial_at g u.start).state
  header-alike =
      transport (ap₂ (λ (x y : Radial). x ≡ with_state y x.state) (own-radial g u (nth-placed g n u there)) (own-radial f s (nth-placed f n s here)))
      (header (bytes_of f s) (bytes_of g u) long same)

  -- an answer that looks at a moment's header and data alone
  answer-alike {ℓ} : {X : Type ℓ} (a : List ℕ → Where → X) → a g NoMoment ≡ a f NoMoment
      → ((p : ℕ) → moment_at (bytes_of g u) p ≡ moment_at (bytes_of f s) p → data_at (bytes_of g u) p ≡ data_at (bytes_of f s) p → a g (At u p) ≡ a f (At s p))
      → (t : ℕ) → a g (where_is g n t) ≡ a f (where_is f n t)
  unfolding in_found in_stretch
  answer-alike a none one t =
      rw (here, there) (told (bytes_of f s) (bytes_of g u) long same (λ x. a g (in_stretch u x)) (λ x. a f (in_stretch s x)) none one t)

  row-alike : (t : ℕ) (k k' : List ℕ) (h h' : List ℤ) (r : Result ℕ Refusal) → RowAsked g n t k h r k' h' ≡ RowAsked f n t k h r k' h'
  unfolding RowTold
  row-alike t k k' h h' r =
      answer-alike (λ l w. RowTold l w k h r k' h') refl (λ p m d. ap₂ (λ x l. Rowed (coding_of x) (codes_of x.bin_length l) k h r k' h') m d) t

  pub alike : Alike f g n gap (radial_at g u.start).state
  unfolding radial_told moment_told data_told gate_told
  alike =
      record {
        there = (rw here, rw there);
        place = rw (here, there) (sym start);
        header = rw (here, there) header-alike;
        moment = answer-alike moment_told refl (λ p m d i. record { number = 0; header = m i });
        bytes = answer-alike data_told refl (λ p m d. d);
        gate = λ t i. answer-alike (λ l w. gate_told l w i) refl (λ p m d. ap₂ (λ x l. gate_in x l i) m d) t;
        row = λ t k k' h h' r. (transport (row-alike t k k' h h' r), transport (sym (row-alike t k k' h h' r)));
      }

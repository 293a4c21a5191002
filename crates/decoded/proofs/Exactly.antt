-- What the answer on a decoded row means: specs/Exactly, of every file and every two lists. Assumes nothing.
use Prim.Native.Nat.{ℕ, ◌≤◌, ◌<◌}
use native.Mathlib.Decide.{dec_lt}
use native.Mathlib.Omega.{arith}
use mathlib.Core.List.{List}
use mathlib.Core.Logic.{dite}
use mathlib.Core.Path.{◌≡◌, refl, sym, ap, subst, ◌∙◌}
use borrow.Author.Tests.{lt-ltb, le-ltb}
use lib.IntN.{ℤ}
use lib.ListN.{length, get_or}
use Rattle.moment.specs.declared.Moment.{Moment}
use Rattle.moment.specs.Moment.{moment_at}
use Rattle.gates.specs.declared.Coding.{Coding}
use Rattle.gates.specs.Codes.{codes_of}
use Rattle.gates.specs.Gates.{told_of, Values, values_of}
use Rattle.gates.specs.Telling.{Telling, refused, answered}
use Rattle.moments.specs.Moments.{data_at}
use Rattle.reading.specs.Reading.{bytes_of}
use Rattle.ask.specs.declared.places.Where.{Where}
use Rattle.ask.specs.declared.places.Where.TheVariants.{At, NoRadial, NoMoment}
use Rattle.ask.specs.Answers.{coding_of, gate_in, gate_told}
use Rattle.ask.specs.Growth.{gate_asked}
use Rattle.ask.specs.Places.{where_is}
use Rattle.decoded.specs.Decoded.{agreed, Checked, same, differs, checked, check_told, check_asked}
use Rattle.decoded.specs.Exactly.{There, Agrees, IsRow, FirstApart}
use Rattle.decoded.proofs.Agreed.{Alike, before, there, first}
use Rattle.decoded.proofs.Checked.{Ends, checked-same, checked-differs, ends-or}

-- ---- where the moment is

pub there-or : {P : Type 0} (f : List ℕ) (n t : ℕ) → (where_is f n t ≡ NoRadial → P) → (where_is f n t ≡ NoMoment → P) → (There f n t → P) → P
there-or {P} f n t no-radial no-moment is = go (where_is f n t) refl
  where
    go : (w : Where) → where_is f n t ≡ w → P
    go NoRadial q = no-radial q
    go NoMoment q = no-moment q
    go (At s p) q = is (record { stretch = s; place = p; at = q })

-- a refusal is no answer, and no other refusal
clash : (number : ℕ) (x : Checked) → refused number 0 ≡ answered x → ⊥
clash number x e = let z : ◌≡◌ {A = ℕ} 0 1 = cc in omega arith

refused-one : (a b : ℕ) → ◌≡◌ {A = Telling Values} (refused a 0) (refused b 0) → a ≡ b
refused-one a b e = cc

-- what is answered of a moment is answered of one that is there
pub found : (f : List ℕ) (n t : ℕ) (k : List ℕ) (h : List ℤ) (x : Checked) → check_asked f n t k h ≡ answered x → There f n t
unfolding check_told
found f n t k h x e = there-or f n t (λ q. absurd (clash 30 x (rw q at e))) (λ q. absurd (clash 31 x (rw q at e))) (λ w. w)

pub found-32 : (f : List ℕ) (n t i : ℕ) → gate_asked f n t i ≡ refused 32 0 → There f n t
unfolding gate_told
found-32 f n t i e =
    there-or f n t
    (λ q. absurd (let z = refused-one 30 32 (rw q at e) in omega arith))
    (λ q. absurd (let z = refused-one 31 32 (rw q at e) in omega arith))
    (λ w. w)

-- ---- the moment that is there, by its codes

module _ (f : List ℕ) (n t : ℕ) (w : There f n t) where
  abbrev pub moment : Moment
  moment = moment_at (bytes_of f w.stretch) w.place

  abbrev pub coding : Coding
  coding = coding_of moment

  abbrev pub codes : List ℕ
  codes = codes_of moment.bin_length (data_at (bytes_of f w.stretch) w.place)

  pub is-checked : (k : List ℕ) (h : List ℤ) → check_asked f n t k h ≡ answered (checked coding codes k h)
  unfolding check_told
  is-checked k h = rw w.at

  asked_in : (i : ℕ) → i < length codes → gate_asked f n t i ≡ answered (values_of (told_of coding (get_or codes i 0)))
  unfolding gate_told gate_in
  asked_in i l = rw (w.at, lt-ltb i (length codes) l)

  asked-out : (i : ℕ) → length codes ≤ i → gate_asked f n t i ≡ refused 32 0
  unfolding gate_told gate_in
  asked-out i l = rw (w.at, le-ltb i (length codes) l)

  -- an answered gate is one of the codes
  is-in : (i : ℕ) (v : Values) → gate_asked f n t i ≡ answered v → i < length codes
  is-in i v e =
      dite (dec_lt i (length codes)) (λ l. l)
      (λ l. let y : answered v ≡ refused 32 0 = sym e ∙ asked-out i (omega arith) in absurd (let z : ◌≡◌ {A = ℕ} 0 1 = cc in omega arith))

  is-out : (i : ℕ) → gate_asked f n t i ≡ refused 32 0 → length codes ≤ i
  is-out i e =
      dite (dec_lt i (length codes))
      (λ l. let y : answered (values_of (told_of coding (get_or codes i 0))) ≡ refused 32 0 = sym (asked_in i l) ∙ e in absurd (let z : ◌≡◌ {A = ℕ} 0 1 = cc in omega arith))
      (λ l. omega arith)

  module _ (k : List ℕ) (h : List ℤ) where
    to-alike : (i : ℕ) → Agrees f n t k h i → Alike coding codes k h i
    unfolding told_of
    to-alike i a =
        let l = is-in i a.shown.gate a.shown.answer in
        let e : answered (values_of (told_of coding (get_or codes i 0))) ≡ answered a.shown.gate = sym (asked_in i l) ∙ a.shown.answer in
        let v : values_of (told_of coding (get_or codes i 0)) ≡ a.shown.gate = cc in
        record {
          row = l;
          kinds = a.kinds;
          hundredths = a.hundredths;
          kind = ap (λ (x : Values). x.gate.0) v ∙ sym a.shown.kind;
          shown = ap (λ (x : Values). x.hundredths) v ∙ sym a.shown.hundredths;
        }

    from-alike : (i : ℕ) → Alike coding codes k h i → Agrees f n t k h i
    unfolding told_of
    from-alike i a = record {
      kinds = a.kinds;
      hundredths = a.hundredths;
      shown = record { gate = values_of (told_of coding (get_or codes i 0)); answer = asked_in i a.row; kind = sym a.kind; hundredths = sym a.shown };
    }

    -- they agree up to no gate past any end
    up_to : (m : ℕ) → ((i : ℕ) → i < m → Alike coding codes k h i) → (m ≤ length codes) × (m ≤ length k) × (m ≤ length h)
    up_to m each =
        let past : (e : ℕ) → (Alike coding codes k h e → e < e) → m ≤ e = λ e stop. dite (dec_lt e m) (λ l. absurd (let x = stop (each e l) in omega arith)) (λ l. omega arith) in
        (past (length codes) (λ a. a.row), past (length k) (λ a. a.kinds), past (length h) (λ a. a.hundredths))

    pub ends-row : Ends coding codes k h → IsRow f n t k h
    ends-row e =
        let r = e.row in
        let lk = e.kinds in
        let lh = e.hundredths in
        record {
          gates = length codes;
          each = λ i l. from-alike i (before coding codes k h i (omega arith));
          last = record { row = asked-out (length codes) (omega arith); kinds = omega arith; hundredths = omega arith };
        }

    pub row_ends : IsRow f n t k h → Ends coding codes k h
    row_ends r =
        let m = r.gates in
        let each : (i : ℕ) → i < m → Alike coding codes k h i = λ i l. to-alike i (r.each i l) in
        let out = is-out m r.last.row in
        let g = first coding codes k h m each (λ a. let x = a.row in omega arith) in
        let u = up_to m each in
        let u0 = u.0 in
        let u1 = u.1 in
        let u2 = u.2 in
        let lk = r.last.kinds in
        let lh = r.last.hundredths in
        record { row = omega arith; kinds = omega arith; hundredths = omega arith }

    pub is_same : Ends coding codes k h → check_asked f n t k h ≡ answered same
    is_same e = is-checked k h ∙ ap (λ (x : Checked). answered x) (checked-same coding codes k h e)

    pub same_ends : check_asked f n t k h ≡ answered same → Ends coding codes k h
    same_ends e =
        ends-or coding codes k h (λ x. x)
        (λ not.
        let y : answered same ≡ answered (differs (agreed coding codes k h)) = sym e ∙ is-checked k h ∙ ap (λ (x : Checked). answered x) (checked-differs coding codes k h not) in
        absurd (let z : ◌≡◌ {A = ℕ} 0 1 = cc in omega arith))

    pub differs-first : (g : ℕ) → check_asked f n t k h ≡ answered (differs g) → FirstApart f n t k h g
    differs-first g e =
        ends-or coding codes k h
        (λ x.
        let y : answered (differs g) ≡ answered same = sym e ∙ is_same x in
        absurd (let z : ◌≡◌ {A = ℕ} 0 1 = cc in omega arith))
        (λ not.
        let y : answered (differs g) ≡ answered (differs (agreed coding codes k h)) = sym e ∙ is-checked k h ∙ ap (λ (x : Checked). answered x) (checked-differs coding codes k h not) in
        let at : g ≡ agreed coding codes k h = cc in
        let each : (i : ℕ) → i < g → Alike coding codes k h i = λ i l. before coding codes k h i (omega arith) in
        let u = up_to g each in
        let u0 = u.0 in
        let u1 = u.1 in
        let u2 = u.2 in
        record {
          moment = w;
          before = λ i l. from-alike i (each i l);
          apart = λ a. there coding codes k h (subst (Alike coding codes k h) at (to-alike g a));
          not-ended = λ x.
              let out = is-out g x.row in
              let lk = x.kinds in
              let lh = x.hundredths in
              not (record { row = omega arith; kinds = omega arith; hundredths = omega arith });
        })

    pub first-differs : (g : ℕ) → FirstApart f n t k h g → check_asked f n t k h ≡ answered (differs g)
    first-differs g a =
        let at = first coding codes k h g (λ i l. to-alike i (a.before i l)) (λ x. a.apart (from-alike g x)) in
        is-checked k h
        ∙ ap (λ (x : Checked). answered x)
        (checked-differs coding codes k h
        (λ e.
        let r = e.row in
        let lk = e.kinds in
        let lh = e.hundredths in
        a.not-ended (record { row = asked-out g (omega arith); kinds = omega arith; hundredths = omega arith }))
        ∙ ap differs (sym at))

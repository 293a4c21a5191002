-- What is answered of a list, question by question: the statements of specs/Meaning. Assumes nothing.
use Prim.Native.Nat.{ℕ, ◌<◌, min}
use native.Mathlib.Omega.{arith}
use native.Mathlib.Decide.{dec_le}
use mathlib.Core.Bool.{Bool, true, false}
use mathlib.Core.List.{List}
use mathlib.Core.Logic.{◌⊎◌, inl, inr, dite}
use mathlib.Core.Path.{◌≡◌, refl, sym, ap, ◌∙◌}
use lib.IntN.{ℤ, pos}
use lib.ListN.{length, get_or, drop, length-map}
use lib.Seq.{drop_at}
use Rattle.std.specs.Prelude.{Result}
use Rattle.refusal.specs.declared.Refusal.{Refusal}
use Rattle.gates.specs.Gates.{Values}
use Rattle.gates.specs.Rows.{filled}
use Rattle.gates.specs.Telling.{Telling, refused, answered}
use Rattle.gates.proofs.Rows.{at-filled}
use Rattle.ask.specs.Growth.{gate_asked}
use Rattle.index.specs.Answer.{right_for}
use Rattle.engine.specs.Engine.{Question, asked, kind_for, hundredths_for, kinds_of, hundredths_of, told_list, answer_of, buffer_of, rooms, Answers}
use Rattle.engine.specs.Meaning.{Stands, its_own, no-radial, no-moment, no-gate, EachStands, AsInRow}
use Rattle.engine.proofs.Filling.{stands-asked}
use Rattle.engine.proofs.Listed.{many-asked, at-asked, no_question, question_at}

-- ---- a list that is answered was filled

record IsFilled (f : List ℕ) (qs : List Question) (k : List ℕ) (h : List ℤ) (m : ℕ) (k' : List ℕ) (h' : List ℤ) : Type 0 where
  all : m ≡ length qs
  kinds : k' ≡ filled (kinds_of f qs) k
  hundredths : h' ≡ filled (hundredths_of f qs) h

list-filled : (f x : List ℕ) (qs : List Question) (k k' : List ℕ) (h h' : List ℤ) (r : Result ℕ Refusal) (m : ℕ) → Answers f x qs k h r k' h' → told_list r ≡ answered m
    → IsFilled f qs k h m k' h'
unfolding answer_of buffer_of
list-filled f x qs k k' h h' r m p e = go (right_for f x) refl (rooms (length qs) k h) refl
  where
    go : (a : Bool) → right_for f x ≡ a → (b : Bool) → rooms (length qs) k h ≡ b → IsFilled f qs k h m k' h'
    go true q true s =
        let here : answered m ≡ answered (length qs) = sym e ∙ rw (q, s) at p.answer in
        let all : m ≡ length qs = cc in
        record { all = all; kinds = rw (q, s) at p.kinds; hundredths = rw (q, s) at p.hundredths }
    go true q false s =
        let here : answered m ≡ refused 33 0 = sym e ∙ rw (q, s) at p.answer in
        absurd (let z : ◌≡◌ {A = ℕ} 0 1 = cc in omega arith)
    go false q b s =
        let here : answered m ≡ refused 59 0 = sym e ∙ rw q at p.answer in
        absurd (let z : ◌≡◌ {A = ℕ} 0 1 = cc in omega arith)

-- ---- what it then holds

-- behind what was filled a buffer is what it was
behind : {A : Type 0} (new old : List A) (m : ℕ) → m ≡ length new → drop m (filled new old) ≡ drop m old
behind new old m e = drop_at new (drop (length new) old) m (sym e) ∙ ap (λ (n : ℕ). drop n old) (sym e)

-- the least of three numbers is one of them
at_least : (a b c m : ℕ) → m ≡ min a (min b c) → (m ≡ a) ⊎ ((m ≡ b) ⊎ (m ≡ c))
at_least a b c m e = dite (dec_le a (min b c)) (λ h. inl (omega arith)) (λ h. inr (dite (dec_le b c) (λ l. inl (omega arith)) (λ l. inr (omega arith))))

module _ (f ns ts gs k : List ℕ) (h : List ℤ) (i : ℕ) (l : i < length (asked ns ts gs)) where
  abbrev one : Question
  one = question_at ns ts gs i

  kind-here : get_or (filled (kinds_of f (asked ns ts gs)) k) i 0 ≡ kind_for f one
  kind-here = at-filled (kind_for f) (asked ns ts gs) k 0 no_question i l ∙ ap (kind_for f) (at-asked ns ts gs i l)

  hundredths-here : get_or (filled (hundredths_of f (asked ns ts gs)) h) i (pos 0) ≡ hundredths_for f one
  hundredths-here = at-filled (hundredths_for f) (asked ns ts gs) h (pos 0) no_question i l ∙ ap (hundredths_for f) (at-asked ns ts gs i l)

pub each_stands : EachStands
each_stands f x ns ts gs k k' h h' r m p e =
    let w = list-filled f x (asked ns ts gs) k k' h h' r m p e in
    let all = w.all in
    let many = all ∙ many-asked ns ts gs in
    record {
      radials = omega arith;
      types = omega arith;
      gates = omega arith;
      shortest = at_least (length ns) (length ts) (length gs) m many;
      each = λ i l. rw (w.kinds, w.hundredths, kind-here f ns ts gs k h i (omega arith), hundredths-here f ns ts gs k h i (omega arith))
          (stands-asked f (get_or ns i 0) (get_or ts i 0) (get_or gs i 0));
      kinds = ap (drop m) w.kinds ∙ behind (kinds_of f (asked ns ts gs)) k m (all ∙ sym (length-map (asked ns ts gs) _));
      hundredths = ap (drop m) w.hundredths ∙ behind (hundredths_of f (asked ns ts gs)) h m (all ∙ sym (length-map (asked ns ts gs) _));
    }

-- ---- a gate of a row

stands-answered : (a : Telling Values) (v : Values) (k : ℕ) (h : ℤ) → Stands a k h → a ≡ answered v → (k ≡ v.gate.0) × (h ≡ v.hundredths)
stands-answered _ v _ _ (its_own {v = u} l) e = let z : u ≡ v = cc in (ap (λ (w : Values). w.gate.0) z, ap (λ (w : Values). w.hundredths) z)
stands-answered _ v _ _ no-radial e = absurd (let z : ◌≡◌ {A = ℕ} 0 1 = cc in omega arith)
stands-answered _ v _ _ no-moment e = absurd (let z : ◌≡◌ {A = ℕ} 0 1 = cc in omega arith)
stands-answered _ v _ _ no-gate e = absurd (let z : ◌≡◌ {A = ℕ} 0 1 = cc in omega arith)

pub as-in-row : AsInRow
as-in-row f n t m k h s g l a b w =
    let here = s.each g l in
    let x = stands-answered (gate_asked f n t g) here.gate a b w here.answer in
    (x.0 ∙ sym here.kind, x.1 ∙ sym here.hundredths)

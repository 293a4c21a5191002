-- Both buffers after some of the questions, and what a finished or a refused list promises. Assumes nothing.
use Prim.Native.Nat.{ℕ, ◌+◌, ◌%◌, ◌≤◌, ◌<◌, min}
use native.Mathlib.Nat.{mod-eq_of_lt}
use native.Mathlib.Omega.{arith}
use mathlib.Core.Bool.{Bool, true, false}
use mathlib.Core.List.{List}
use mathlib.Core.Path.{◌≡◌, refl}
use borrow.Author.Tests.{le-leb}
use Rattle.std.specs.Prelude.{Ok, Err}
use Rattle.refusal.specs.declared.Refusal.TheVariants.{NoRoom, WrongIndex}
use Rattle.std.proofs.lemmas.Bool.Decides.{nat_tests}
use lib.Dec.{ltb, lit<}
use lib.IntN.{ℤ}
use lib.ListN.{length, get_or, set}
use Rattle.moment.specs.declared.Moment.{Moment}
use Rattle.gates.specs.Codes.{codes_of}
use Rattle.gates.specs.Gates.{Values, told_of, values_of}
use Rattle.gates.specs.Rows.{filled}
use Rattle.gates.specs.Telling.{Telling}
use Rattle.gates.proofs.Gates.{kind-lt}
use Rattle.gates.proofs.Rows.{Partly, fill_none, fill-turn, fill-all}
use Rattle.ask.specs.declared.places.Where.{Where}
use Rattle.ask.specs.declared.places.Where.TheVariants.{At, NoRadial, NoMoment}
use Rattle.ask.specs.Answers.{coding_of, gate_in, gate_told}
use Rattle.ask.specs.Growth.{gate_asked}
use Rattle.ask.specs.Places.{where_is}
use Rattle.index.specs.Answer.{right_for}
use Rattle.engine.specs.Engine.{Question, kind_shown, hundredths_shown, kind_for, hundredths_for, kinds_of, hundredths_of, answer_of, buffer_of, Answers, rooms}
use Rattle.engine.specs.Meaning.{Stands, its_own, no-radial, no-moment, no-gate}
use Rattle.engine.proofs.Listed.{no_question}

-- ---- what stands for an answer

module _ (h : Moment) (bytes : List ℕ) (i : ℕ) where
  stands-in : Stands (gate_in h bytes i) (kind_shown (gate_in h bytes i)) (hundredths_shown (gate_in h bytes i))
  unfolding gate_in kind_shown hundredths_shown
  stands-in = go (ltb i (length (codes_of h.bin_length bytes))) refl
    where
      go : (b : Bool) → ltb i (length (codes_of h.bin_length bytes)) ≡ b → Stands (gate_in h bytes i) (kind_shown (gate_in h bytes i)) (hundredths_shown (gate_in h bytes i))
      go true q =
          let told = told_of (coding_of h) (get_or (codes_of h.bin_length bytes) i 0) in
          rw q (its_own {v = values_of told} (let k = kind-lt told.gate in omega arith))
      go false q = rw q no-gate

stands-told : (f : List ℕ) (w : Where) (i : ℕ) → Stands (gate_told f w i) (kind_shown (gate_told f w i)) (hundredths_shown (gate_told f w i))
unfolding gate_told kind_shown hundredths_shown
stands-told f NoRadial i = no-radial
stands-told f NoMoment i = no-moment
stands-told f (At s p) i = stands-in _ _ i

pub stands-asked : (f : List ℕ) (n t i : ℕ) → Stands (gate_asked f n t i) (kind_shown (gate_asked f n t i)) (hundredths_shown (gate_asked f n t i))
stands-asked f n t i = stands-told f (where_is f n t) i

below : {a : Telling Values} {k : ℕ} {h : ℤ} → Stands a k h → k < 256
below (its_own l) = omega arith
below no-radial = lit< tt
below no-moment = lit< tt
below no-gate = lit< tt

-- so a kind fits its byte
pub kind_fits : (f : List ℕ) (n t i : ℕ) → kind_shown (gate_asked f n t i) % 256 ≡ kind_shown (gate_asked f n t i)
kind_fits f n t i = mod-eq_of_lt (below (stands-asked f n t i))

-- ---- the loop

module _ (f : List ℕ) (qs : List Question) (k : List ℕ) (h : List ℤ) where
  pub record Begun (i : ℕ) (k' : List ℕ) (h' : List ℤ) : Type 0 where
    pub kinds : Partly (kind_for f) qs k i k'
    pub hundredths : Partly (hundredths_for f) qs h i h'

  pub begun-none : Begun 0 k h
  begun-none = record { kinds = fill_none (kind_for f) qs k; hundredths = fill_none (hundredths_for f) qs h }

  pub begun-turn : {i : ℕ} {k' : List ℕ} {h' : List ℤ} (v : ℕ) (w : ℤ) → Begun i k' h' → i < length qs → i < length k → i < length h
      → v ≡ kind_for f (get_or qs i no_question) → w ≡ hundredths_for f (get_or qs i no_question) → Begun (i + 1) (set k' i v) (set h' i w)
  begun-turn {i} {k'} {h'} v w b hq hk hh ev ew = record {
    kinds = fill-turn (kind_for f) qs k no_question i k' v b.kinds hq hk ev;
    hundredths = fill-turn (hundredths_for f) qs h no_question i h' w b.hundredths hq hh ew;
  }

  pub begun_all : {i : ℕ} {k' : List ℕ} {h' : List ℤ} → Begun i k' h' → i ≡ length qs → (k' ≡ filled (kinds_of f qs) k) × (h' ≡ filled (hundredths_of f qs) h)
  begun_all {i} {k'} {h'} b e =
      (fill-all (kind_for f) qs k i k' b.kinds e, fill-all (hundredths_for f) qs h i h' b.hundredths e)

-- ---- the promise

module _ (f x : List ℕ) (qs : List Question) (k : List ℕ) (h : List ℤ) where
  -- 59, and 33: both buffers are as they were
  pub not_right : right_for f x ≡ false → Answers f x qs k h (Err WrongIndex) k h
  unfolding answer_of buffer_of
  not_right e = record { answer = rw e; kinds = rw e; hundredths = rw e }

  no_room : right_for f x ≡ true → rooms (length qs) k h ≡ false → Answers f x qs k h (Err NoRoom) k h
  unfolding answer_of buffer_of
  no_room r e = record { answer = rw (r, e); kinds = rw (r, e); hundredths = rw (r, e) }

  pub short : right_for f x ≡ true → min (length k) (length h) < length qs → Answers f x qs k h (Err NoRoom) k h
  short r l = no_room r (grind (arith, nat_tests))

  pub all-filled : {n : ℕ} {k' : List ℕ} {h' : List ℤ} → right_for f x ≡ true → n ≡ length qs → length qs ≤ length k → length qs ≤ length h
      → k' ≡ filled (kinds_of f qs) k → h' ≡ filled (hundredths_of f qs) h → Answers f x qs k h (Ok n) k' h'
  unfolding answer_of buffer_of
  all-filled {n} {k'} {h'} r e lk lh ek eh =
      let room : rooms (length qs) k h ≡ true = rw (le-leb (length qs) (length k) lk, le-leb (length qs) (length h) lh) in
      record { answer = rw (r, room, e); kinds = rw (r, room) ek; hundredths = rw (r, room) eh }

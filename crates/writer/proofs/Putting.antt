-- What an answer says of the tests before it, and what the writer's functions promise by it. Assumes nothing.
use Prim.Native.Nat.{ℕ, ◌+◌, ◌≤◌, ◌<◌, ◌^◌}
use native.Mathlib.Omega.{arith}
use mathlib.Core.Path.{◌≡◌, refl, sym, ap, ◌∙◌}
use mathlib.Core.Bool.{Bool, true, false, cond}
use mathlib.Core.List.{List}
use lib.Dec.{leb, ltb}
use lib.ListN.{length}
use borrow.Author.Tests.{le-leb, leb-true, le-ltb, ltb-false}
use Rattle.le.specs.Le.{stored}
use Rattle.le.proofs.Laws.{stored-in}
use Rattle.walk.specs.declared.due.Due.{Due}
use Rattle.walk.specs.declared.due.Walk.{Walk}
use Rattle.reading.specs.declared.step.Step.{Step}
use Rattle.reading.specs.declared.step.Step.TheVariants as step
use Rattle.walk.specs.Due.{is_end}
use Rattle.reading.specs.Take.{in_room}
use Rattle.reading.proofs.Rooms.{fits-room}
use Rattle.writer.specs.declared.order.Answer.{Answer}
use Rattle.writer.specs.declared.order.Answer.TheVariants.{Taken, Refused}
use Rattle.writer.specs.declared.order.Put.{Put}
use Rattle.writer.specs.Agree.{same_kind, agrees}
use Rattle.writer.specs.Block.{Block, kind_of, says_of, fits_of, length_of, bytes_of}
use Rattle.writer.specs.Put.{last_tests, checked, answer_to, next_of, settled, settled_by, outcome, put_on, put, Puts}
use Rattle.writer.proofs.Same.{kind-is, kind-if}

-- ---- a refusal is no taking

two : (n p : ℕ) → Refused n p ≡ Taken → ⊥
two n p e = let z : ◌≡◌ {A = ℕ} 0 1 = cc in omega arith

not_first : (t : Bool) (n p : ℕ) (a : Answer) → cond t (Refused n p) a ≡ Taken → t ≡ false
not_first true n p a e = absurd (two n p e)
not_first false n p a e = refl

then-first : (t : Bool) (n p : ℕ) (a : Answer) → cond t a (Refused n p) ≡ Taken → t ≡ true
then-first true n p a e = refl
then-first false n p a e = absurd (two n p e)

-- ---- the tests that a block taken has passed

pub record Passed (kind : Due) (says : Step) (fits : Bool) (size : ℕ) (w : Walk) (room : ℕ) : Type 0 where
  pub within : w.at ≤ room
  pub going : is_end w.due ≡ false
  pub kind-due : w.due ≡ kind
  pub rules : checked says Taken ≡ Taken
  pub whole : fits ≡ true
  pub suffices : w.at + size ≤ room

checked-taken : (s : Step) (a : Answer) → checked s a ≡ Taken → a ≡ Taken
unfolding checked
checked-taken (step.Took m) a e = e
checked-taken (step.Refused n p) a e = absurd (two n p e)
checked-taken (step.Open n) a e = e
checked-taken step.Complete a e = e

pub passed : (kind : Due) (says : Step) (fits : Bool) (size : ℕ) (w : Walk) (room : ℕ) → answer_to kind says fits size w room ≡ Taken → Passed kind says fits size w room
unfolding answer_to last_tests
passed kind says fits size w room e =
    let short = not_first (ltb room w.at) 37 0 _ e in
    let e1 = rw short at e in
    let going = not_first (is_end w.due) 25 w.at _ e1 in
    let e2 = rw going at e1 in
    let same = then-first (same_kind w.due kind) 34 w.at _ e2 in
    let e3 : checked says (last_tests fits w.at size room) ≡ Taken = rw same at e2 in
    let tests : last_tests fits w.at size room ≡ Taken = checked-taken says _ e3 in
    let whole = then-first fits 35 w.at _ tests in
    let e4 = rw whole at tests in
    record {
      within = ltb-false room w.at short;
      going = going;
      kind-due = kind-is w.due kind same;
      rules = rw tests at e3;
      whole = whole;
      suffices = leb-true (w.at + size) room (then-first (leb (w.at + size) room) 33 w.at _ e4);
    }

pub passes : (kind : Due) (says : Step) (fits : Bool) (size : ℕ) (w : Walk) (room : ℕ) → Passed kind says fits size w room → answer_to kind says fits size w room ≡ Taken
unfolding answer_to last_tests
passes kind says fits size w room h =
    rw (le-ltb room w.at h.within, h.going, kind-if w.due kind h.kind-due, h.whole, le-leb (w.at + size) room h.suffices) h.rules

-- the same of an answer that a function gave
pub has-passed : (kind : Due) (says : Step) (fits : Bool) (size : ℕ) (w : Walk) (room : ℕ) {a : Answer} → a ≡ answer_to kind says fits size w room → a ≡ Taken → Passed kind says fits size w room
has-passed kind says fits size w room e t = passed kind says fits size w room (sym e ∙ t)

-- ---- what is said with no room behind it: what is settled by it is the same for any room, which has fewer than 2^63 bytes

module _ (kind : Due) {s : Step} (says : Step) (fits : Bool) (size : ℕ) (w : Walk) (room : ℕ) (said : s ≡ in_room w.at says) (short : room < 2 ^ 63) where
  pub settled-in : {p : Put} → p ≡ settled_by kind s fits size w room → p ≡ settled_by kind says fits size w room
  unfolding answer_to settled
  settled-in e = e ∙ go (ltb room w.at) refl
    where
      go : (t : Bool) → ltb room w.at ≡ t → settled_by kind s fits size w room ≡ settled_by kind says fits size w room
      go true q = rw q
      go false q =
          let h = ltb-false room w.at q in
          ap (λ (x : Step). settled_by kind x fits size w room) (said ∙ sym (fits-room w.at says (omega arith)))

pub answer-is : (a : Answer) (s : Step) (w : Walk) → (settled a s w).answer ≡ a
unfolding settled
answer-is Taken s w = refl
answer-is (Refused n p) s w = refl

-- ---- what a function has done that stores what it settled

module _ (b : Block) (w : Walk) (room : List ℕ) {p : Put} (e : p ≡ settled_by (kind_of b) (says_of b room w) (fits_of b w) (length_of b) w (length room)) where
  answered : {a : Answer} → p.answer ≡ a → answer_to (kind_of b) (says_of b room w) (fits_of b w) (length_of b) w (length room) ≡ a
  answered t = sym (answer-is _ (says_of b room w) w) ∙ ap (λ (x : Put). x.answer) (sym e) ∙ t

  pub puts-taken : {held : List ℕ} → p.answer ≡ Taken → held ≡ stored (length_of b) room w.at (bytes_of b) → Puts (put_on b w room) p held
  unfolding put_on outcome settled
  puts-taken t h =
      let a = answered t in
      let q : p ≡ record { answer = Taken; walk = next_of (says_of b room w) w } = rw a at e in
      rw (a, q) (record {
        answer = refl;
        walk = refl;
        room = h ∙ stored-in (length_of b) room w.at (bytes_of b) (passed _ _ _ _ w _ a).suffices;
      })

  pub puts-refused : (n k : ℕ) → p.answer ≡ Refused n k → Puts (put_on b w room) p room
  unfolding put_on outcome settled
  puts-refused n k t =
      let a = answered t in
      let q : p ≡ record { answer = Refused n k; walk = w } = rw a at e in
      rw (a, q) (record { answer = refl; walk = refl; room = refl })

module _ (b : Block) (w : Walk) (room : List ℕ) where
  pub puts-agreed : {held : List ℕ} {p : Put} {t : Bool} → t ≡ agrees w room → t ≡ true → Puts (put_on b w room) p held → Puts (put b w room) p held
  unfolding put
  puts-agreed e t h = rw (sym e ∙ t) h

  pub puts-astray : {p : Put} {t : Bool} → t ≡ agrees w room → t ≡ false → p ≡ record { answer = Refused 37 0; walk = w } → Puts (put b w room) p room
  unfolding put
  puts-astray e t q = rw (sym e ∙ t, q) (record { answer = refl; walk = refl; room = refl })

-- Demand 1: the refusals by computing the definitions on the case at hand, the rest by citing. Assumes nothing.
use mathlib.Core.Bool.{Bool, true, false, cond, ◌&&◌}
use mathlib.Core.List.{List}
use mathlib.Core.Logic.{◌↔◌, ◌⊎◌, inl, inr}
use mathlib.Core.Path.{◌≡◌, refl, sym, ap, ◌∙◌}
use Prim.Native.Nat.{ℕ, ◌+◌, ◌≤◌, ◌<◌}
use native.Mathlib.Omega.{arith}
use borrow.Author.Tests.{le-leb, le-ltb, lt-leb, lt-ltb, ltb-true, leb-false}
use lib.Dec.{eqb, leb, ltb}
use lib.IntN.{ℤ}
use lib.ListN.{length}
use Rattle.std.specs.Prelude.{Option, Some, None, Result, Err}
use Rattle.refusal.specs.declared.Refusal.{Refusal}
use Rattle.refusal.specs.Refusal.{number_of}
use Rattle.le.specs.Le.{stored, Bytes}
use Rattle.le.proofs.Laws.{stored_no}
use Rattle.le.proofs.Tests.{both}
use Rattle.wedge.specs.declared.Wedge.{Wedge}
use Rattle.wedge.specs.Wedge.{wedge_ok}
use Rattle.gates.specs.Codes.{codes_of}
use Rattle.gates.specs.Rows.{rooms, Rowed}
use Rattle.gates.specs.Telling.{refused, answered}
use Rattle.gates.proofs.Rows.{row_one}
use Rattle.gates.proofs.Tellings.{told-gate-one, values_one}
use Rattle.moment.specs.Moment.{moment_at}
use Rattle.moments.specs.Moments.{data_at}
use Rattle.walk.specs.declared.due.Walk.{Walk}
use Rattle.walk.specs.Due.{at_start, is_end}
use Rattle.reading.specs.declared.Reading.{Reading}
use Rattle.reading.specs.declared.Stretch.{Stretch}
use Rattle.reading.specs.declared.Verdict.{Verdict}
use Rattle.reading.specs.declared.Verdict.TheVariants as verdict
use Rattle.reading.specs.declared.step.Step.{Step}
use Rattle.reading.specs.declared.step.Step.TheVariants as step
use Rattle.reading.specs.Reading.{Tells, verdict_told, ending, ending_told, fuel, stop, bytes_of}
use Rattle.reading.proofs.Run.{Stays, last_off, enough}
use Rattle.ask.specs.declared.places.Where.{Where}
use Rattle.ask.specs.declared.places.Where.TheVariants.{At, NoRadial, NoMoment}
use Rattle.ask.specs.declared.tallies.Tally.{Tally}
use Rattle.ask.specs.Answers.{radial_told, moment_told, data_told, coding_of, gate_in, gate_told, Unfilled, RowTold}
use Rattle.ask.specs.Places.{in_found}
use Rattle.ask.specs.Tallies.{tally_of, cut_accepted, tally_told, tally_answer}
use Rattle.ask.proofs.Asked.{as-asked}
use Rattle.ask.proofs.Tellings.{told-gate-answer-one, told-tally-one, row-told-one}
use Rattle.lent.specs.Lending.{lent_of, told_lent}
use Rattle.decoded.specs.Decoded.{check_told}
use Rattle.decoded.specs.Exactly.{There}
use Rattle.citing.proofs.Alone.{because}
use Rattle.decoded.proofs.Exactly.{is-checked}
use Rattle.decoded.proofs.Tellings.{told-check-one}
use Rattle.index.specs.Answer.{complete, right_for, told_index, answer_of, room_of, Writes}
use Rattle.index.specs.Index.{index_of}
use Rattle.index.proofs.Same.{told-once}
use Rattle.writer.specs.declared.order.Answer as writer
use Rattle.writer.specs.declared.order.Answer.TheVariants.{Taken, Refused}
use Rattle.writer.specs.Agree.{same_kind, agrees}
use Rattle.writer.specs.Block.{Block, kind_of, says_of, fits_of, length_of, bytes_of as block_bytes}
use Rattle.writer.specs.Put.{last_tests, checked, answer_to, outcome, Outcome, put, put_on}
use Rattle.writer.proofs.Same.{tests-agreement}
use Rattle.writer.proofs.Told.{puts-same}
use Rattle.shelf.proofs.Bringing.{refused_all}
use Rattle.mend.specs.Kept.{last_kept}
use Rattle.mend.specs.Mend as mend
use Rattle.mend.proofs.Longest.{nothing}
use Rattle.mend.proofs.Tellings.{told-mended-one}
use Rattle.pick.specs.declared.Picked.TheVariants as picked
use Rattle.pick.specs.Pick as pick
use Rattle.pick.proofs.Tellings.{told-picked-one}
use Rattle.engine.specs.Engine as engine
use Rattle.engine.proofs.Tellings.{told-list-one, list-kept}
use Rattle.demands.specs.One.{Ending, is-complete, is_open, is-refused, Questions, Row, Tallied, Indexed, MendRefused, PickRefused, ListRefused, WriterRefuses, Unchanged, Determined, DemandOne}

-- ---- every file has an ending

ends : (f : List ℕ) → Ending f
unfolding Stays ending_told
ends f = go (ending f) refl (last_off true (fuel f) f at_start (enough f at_start))
  where
    go : (s : Step) → ending f ≡ s → Stays (ending f) → Ending f
    go (step.Took m) e h = absurd (rw e at h)
    go step.Complete e h = is-complete (ap ending_told e)
    go (step.Open n) e h = is_open n (ap ending_told e)
    go (step.Refused n p) e h = is-refused n p (ap ending_told e)

-- ---- what is refused, with which number and place

past-the-gates : (f : List ℕ) (s : Stretch) (p i : ℕ) → length (codes_of (moment_at (bytes_of f s) p).bin_length (data_at (bytes_of f s) p)) ≤ i
    → gate_told f (At s p) i ≡ refused 32 0
unfolding gate_told gate_in
past-the-gates f s p i h = rw (le-ltb i (length (codes_of (moment_at (bytes_of f s) p).bin_length (data_at (bytes_of f s) p))) h)

questions : (f : List ℕ) (n t : ℕ) → Questions f n t
unfolding radial_told in_found moment_told data_told gate_told check_told
questions f n t =
    record {
      radial = λ e. rw e (refl, refl);
      no-radial = λ e. rw e;
      moment-30 = λ e. rw e (refl, refl);
      moment-31 = λ e. rw e (refl, refl);
      gate-30 = λ i e. rw e;
      gate-31 = λ i e. rw e;
      gate-32 = λ i s p e h. ap (λ (a : Where). gate_told f a i) e ∙ past-the-gates f s p i h;
      check-30 = λ k h e. rw e;
      check-31 = λ k h e. rw e;
      checked = λ k h s p e. let w : There f n t = record { stretch = s; place = p; at = e } in (_, is-checked f n t w k h);
      why = λ i. (because f n t i).refused-so;
      as-asked = as-asked f n t;
    }

rows : (f : List ℕ) (at : Where) (k k' : List ℕ) (h h' : List ℤ) (r : Result ℕ Refusal) → Row f at k k' h h' r
unfolding RowTold
rows f at k k' h h' r =
    record {
      row-30 = λ e x. let u : Unfilled 30 k h r k' h' = rw e at x in u.answer;
      row-31 = λ e x. let u : Unfilled 31 k h r k' h' = rw e at x in u.answer;
      row-33 = λ s p e short x.
          let codes = codes_of (moment_at (bytes_of f s) p).bin_length (data_at (bytes_of f s) p) in
          let u : Rowed (coding_of (moment_at (bytes_of f s) p)) codes k h r k' h' = rw e at x in
          rw short at u.answer;
    }

-- the number in a lent record tells a refusal from a tally
lent-told : (old : Tally) (range accepted : Bool) (t : Tally)
    → told_lent (lent_of old (cond range (tally_told accepted t) (refused 61 0))) ≡ cond range (tally_told accepted t) (refused 61 0)
unfolding tally_told lent_of
lent-told old true true t = go (eqb t.sums.radials 0)
  where
    go : (z : Bool) → told_lent (lent_of old (cond z (refused 31 0) (answered t))) ≡ cond z (refused 31 0) (answered t)
    go true = refl
    go false = refl
lent-told old true false t = refl
lent-told old false accepted t = refl

pub wedge-range : (w : Wedge) → (wedge_ok w ≡ true) ↔ ((w.start ≤ 35999) × (w.end ≤ 35999))
unfolding wedge_ok
wedge-range w = (
  λ e.
      let x = both (ltb w.start 36000) (ltb w.end 36000) e in
      let a = ltb-true w.start 36000 x.0 in
      let b = ltb-true w.end 36000 x.1 in
      (omega arith, omega arith),
  λ p. rw (lt-ltb w.start 36000 (omega (arith, p.0)), lt-ltb w.end 36000 (omega (arith, p.1))),
)

pub tallies : (f : List ℕ) (cut t : ℕ) (w : Wedge) → Tallied f cut t w
unfolding tally_answer tally_told
tallies f cut t w =
    record {
      range = wedge-range w;
      tally-61 = λ o. rw o;
      tally-30 = λ o e. rw (o, e);
      tally-31 = λ o e z. rw (o, e, z);
      lent = λ old. lent-told old (wedge_ok w) (cut_accepted (stop f) cut) (tally_of f cut t w);
    }

indexes : (f : List ℕ) (room : ℕ) → Indexed f room
unfolding answer_of
indexes f room = record { index-36 = λ e. rw e; index-33 = λ e l. rw (e, lt-leb (length (index_of f)) room l) }

picks : (f : List ℕ) (wanted room : ℕ) → PickRefused f wanted room
unfolding pick.answer_by
picks f wanted room =
    record {
      pick-36 = λ c. rw c;
      pick-60 = λ c s e. rw (c, e);
      pick-33 = λ c e l. rw (c, e, lt-leb (length (pick.picked wanted f)) room l);
      written = λ c e l. rw (c, e, le-leb (length (pick.picked wanted f)) room l);
    }

-- either buffer too short
no-rooms : (n : ℕ) (k : List ℕ) (h : List ℤ) → (length k < n) ⊎ (length h < n) → engine.rooms n k h ≡ false
no-rooms n k h (inl l) = rw (lt-leb n (length k) l)
no-rooms n k h (inr l) = rw (lt-leb n (length h) l) (neither (leb n (length k)))
  where
    neither : (b : Bool) → (b && false) ≡ false
    neither true = refl
    neither false = refl

lists : (f x : List ℕ) (n : ℕ) (k : List ℕ) (h : List ℤ) → ListRefused f x n k h
unfolding engine.answer_of right_for
lists f x n k h =
    record {
      list-59 = λ e. rw e;
      not-complete = λ e. rw e;
      list-33 = λ e l. rw (e, no-rooms n k h l);
      filled = λ e a b. rw (e, le-leb n (length k) a, le-leb n (length h) b);
    }

mends : (f : List ℕ) (room : ℕ) → Bytes f → MendRefused f room
unfolding mend.answer_by
mends f room bs =
    record {
      mend-54 = λ n. rw ((nothing f bs).1 n);
      mend-33 = λ s e l. rw (e, lt-leb (length (mend.mended f s)) room l);
      written = λ s e l. rw (e, le-leb (length (mend.mended f s)) room l);
    }

put-yes : (b : Block) (w : Walk) (room : List ℕ) → agrees w room ≡ true → put b w room ≡ put_on b w room
unfolding put
put-yes b w room a = rw a

put-no : (b : Block) (w : Walk) (room : List ℕ) → agrees w room ≡ false → put b w room ≡ record { answer = Refused 37 0; walk = w; room = room }
unfolding put
put-no b w room a = rw a

outcome-is : (a : writer.Answer) (says : Step) (bs : List ℕ) (w : Walk) (room : List ℕ) → (outcome a says bs w room).answer ≡ a
unfolding outcome
outcome-is Taken says bs w room = refl
outcome-is (Refused n p) says bs w room = refl

-- where state and room agree, the order that is left
answer-is : (b : Block) (w : Walk) (room : List ℕ) → agrees w room ≡ true
    → (put b w room).answer ≡ cond (is_end w.due) (Refused 25 w.at) (cond (same_kind w.due (kind_of b)) (checked (says_of b room w) (last_tests (fits_of b w) w.at (length_of b) (length room))) (Refused 34 w.at))
unfolding put_on answer_to
answer-is b w room a =
    ap (λ (o : Outcome). o.answer) (put-yes b w room a)
    ∙ outcome-is (answer_to (kind_of b) (says_of b room w) (fits_of b w) (length_of b) w (length room)) (says_of b room w) (block_bytes b) w room
    ∙ rw (le-ltb (length room) w.at ((tests-agreement w room).yes a).within)

writer-refuses : (b : Block) (w : Walk) (room : List ℕ) → WriterRefuses b w room
unfolding checked last_tests
writer-refuses b w room =
    record {
      agreement = tests-agreement w room;
      astray = λ a. ap (λ (o : Outcome). o.answer) (put-no b w room a);
      ended = λ a e. answer-is b w room a ∙ rw e;
      kind = λ a e k. answer-is b w room a ∙ rw (e, k);
      rule = λ a e k n p s. answer-is b w room a ∙ rw (e, k, s);
      another-length = λ a e k m s h. answer-is b w room a ∙ rw (e, k, s, h);
      short-room = λ a e k m s h l. answer-is b w room a ∙ rw (e, k, s, h, lt-leb (w.at + length_of b) (length room) l);
    }

-- ---- what was lent is what it was

kept : (a : writer.Answer) (says : Step) (bs : List ℕ) (w : Walk) (room : List ℕ) (n p : ℕ) → (outcome a says bs w room).answer ≡ Refused n p
    → ((outcome a says bs w room).walk ≡ w) × ((outcome a says bs w room).room ≡ room)
unfolding outcome
kept Taken says bs w room n p e = absurd (let z : ◌≡◌ {A = ℕ} 0 1 = cc in omega arith)
kept (Refused m q) says bs w room n p e = (refl, refl)

put-on-kept : (b : Block) (w : Walk) (room : List ℕ) (n p : ℕ) → (put_on b w room).answer ≡ Refused n p → ((put_on b w room).walk ≡ w) × ((put_on b w room).room ≡ room)
unfolding put_on
put-on-kept b w room n p e =
    kept (answer_to (kind_of b) (says_of b room w) (fits_of b w) (length_of b) w (length room)) (says_of b room w) (block_bytes b) w room n p e

put-kept : (b : Block) (w : Walk) (room : List ℕ) (n p : ℕ) → (put b w room).answer ≡ Refused n p → ((put b w room).walk ≡ w) × ((put b w room).room ≡ room)
put-kept b w room n p e = go (agrees w room) refl
  where
    go : (t : Bool) → agrees w room ≡ t → ((put b w room).walk ≡ w) × ((put b w room).room ≡ room)
    go true a = rw (put-yes b w room a) (put-on-kept b w room n p (rw (put-yes b w room a) at e))
    go false a = rw (put-no b w room a) (refl, refl)

row_kept : (f : List ℕ) (at : Where) (k k' : List ℕ) (h h' : List ℤ) (x : Refusal) → RowTold f at k h (Err x) k' h' → (k' ≡ k) × (h' ≡ h)
unfolding RowTold
row_kept f NoRadial k k' h h' x r = (r.kinds, r.hundredths)
row_kept f NoMoment k k' h h' x r = (r.kinds, r.hundredths)
row_kept f (At s p) k k' h h' x r =
    let codes = codes_of (moment_at (bytes_of f s) p).bin_length (data_at (bytes_of f s) p) in
    go (rooms codes k h) refl
  where
    go : (t : Bool) → rooms (codes_of (moment_at (bytes_of f s) p).bin_length (data_at (bytes_of f s) p)) k h ≡ t → (k' ≡ k) × (h' ≡ h)
    go true e =
        let a : refused (number_of x) 0 ≡ answered (length (codes_of (moment_at (bytes_of f s) p).bin_length (data_at (bytes_of f s) p))) = rw e at r.answer in
        absurd (let z : ◌≡◌ {A = ℕ} 0 1 = cc in omega arith)
    go false e = (rw e at r.kinds, rw e at r.hundredths)

too_long : (x room : List ℕ) → leb (length x) (length room) ≡ false → stored (length x) room 0 x ≡ room
too_long x room e =
    let l = leb-false (length x) (length room) e in
    stored_no (length x) room 0 x (lt-leb (0 + length x) (length room) (omega arith))

index_kept : (f before after : List ℕ) (x : Refusal) → Writes f before (Err x) after → after ≡ before
unfolding told_index answer_of room_of
index_kept f before after x r = go (complete f) (leb (length (index_of f)) (length before)) refl refl
  where
    go : (c t : Bool) → complete f ≡ c → leb (length (index_of f)) (length before) ≡ t → after ≡ before
    go true true p q = absurd (let z : ◌≡◌ {A = ℕ} 2 1 = ap (λ (x : List ℕ). length x) (rw (p, q) at r.answer) in omega arith)
    go true false p q = rw p at r.room ∙ too_long (index_of f) before q
    go false t p q = rw p at r.room

mended-kept : (f before after : List ℕ) (x : Refusal) → mend.Mends f before (Err x) after → after ≡ before
unfolding mend.answer_by mend.room_by
mended-kept f before after x r = go (last_kept f) refl
  where
    go : (w : Option Stretch) → last_kept f ≡ w → after ≡ before
    go None e = rw e at r.room
    go (Some s) e = by (leb (length (mend.mended f s)) (length before)) refl
      where
        by : (t : Bool) → leb (length (mend.mended f s)) (length before) ≡ t → after ≡ before
        by true q =
            let a : refused (number_of x) 0 ≡ answered (mend.said (length (mend.mended f s)) (mend.report_of f s)) = rw (e, q) at r.answer in
            absurd (let z : ◌≡◌ {A = ℕ} 0 1 = cc in omega arith)
        by false q = rw e at r.room ∙ too_long (mend.mended f s) before q

picked-kept : (f : List ℕ) (wanted : ℕ) (before after : List ℕ) (n p : ℕ) → pick.Picks f wanted before (picked.Refused n p) after → after ≡ before
unfolding pick.answer_by pick.room_by
picked-kept f wanted before after n p r = go (complete f) (pick.empty_in wanted f) (leb (length (pick.picked wanted f)) (length before)) refl refl refl
  where
    go : (c : Bool) (w : Option Stretch) (t : Bool) → complete f ≡ c → pick.empty_in wanted f ≡ w → leb (length (pick.picked wanted f)) (length before) ≡ t → after ≡ before
    go false w t d e q = rw d at r.room
    go true (Some s) t d e q = rw (d, e) at r.room
    go true None true d e q =
        let a : refused n p ≡ answered (length (pick.picked wanted f)) = rw (d, e, q) at r.answer in
        absurd (let z : ◌≡◌ {A = ℕ} 0 1 = cc in omega arith)
    go true None false d e q = rw (d, e) at r.room ∙ too_long (pick.picked wanted f) before q

tally-kept : (old : Tally) (n p : ℕ) → (lent_of old (refused n p)).tally ≡ old
unfolding lent_of
tally-kept old n p = refl

unchanged : Unchanged
unchanged =
    record {
      put = put-kept;
      put_on = put-on-kept;
      row = row_kept;
      tally = tally-kept;
      index = index_kept;
      imported = λ g s t c f room n p e.
          let r = refused_all g s t c f room n p e in
          (ap (λ (o : Outcome). o.walk) r, ap (λ (o : Outcome). o.room) r);
      mended = mended-kept;
      picked = picked-kept;
      listed = list-kept;
      block = λ n room at bs h. stored_no n room at bs (lt-leb (at + n) (length room) h);
    }

-- ---- no promise leaves a choice

verdict-one : (a b : Verdict) → verdict_told a ≡ verdict_told b → a ≡ b
unfolding verdict_told
verdict-one verdict.Complete verdict.Complete e = refl
verdict-one verdict.Complete (verdict.Open m) e = cc
verdict-one verdict.Complete (verdict.Refused n p) e = cc
verdict-one (verdict.Open m) verdict.Complete e = cc
verdict-one (verdict.Open m) (verdict.Open k) e = cc
verdict-one (verdict.Open m) (verdict.Refused n p) e = cc
verdict-one (verdict.Refused n p) verdict.Complete e = cc
verdict-one (verdict.Refused n p) (verdict.Open m) e = cc
verdict-one (verdict.Refused n p) (verdict.Refused m q) e = cc

reading-one : (f : List ℕ) (a b : Reading) → Tells f a → Tells f b → a ≡ b
reading-one f a b x y =
    λ i. record {
      verdict = verdict-one a.verdict b.verdict (x.verdict ∙ sym y.verdict) i;
      read = (x.read ∙ sym y.read) i;
      radials = (x.radials ∙ sym y.radials) i;
    }

determined : Determined
determined =
    record {
      verdict = verdict-one;
      reading = reading-one;
      gate = told-gate-one;
      gate-told = values_one;
      gate-asked = told-gate-answer-one;
      check = told-check-one;
      tally = told-tally-one;
      row = λ c codes k h a b k₁ k₂ h₁ h₂ x y. row_one x y;
      row-asked = row-told-one;
      index = λ f before a b x y p q. (told-once a b (p.answer ∙ sym q.answer), p.room ∙ sym q.room);
      mended = λ f before a b x y p q. (told-mended-one a b (p.answer ∙ sym q.answer), p.room ∙ sym q.room);
      picked = λ f wanted before a b x y p q. (told-picked-one a b (p.answer ∙ sym q.answer), p.room ∙ sym q.room);
      listed = λ f x qs k h a b k₁ k₂ h₁ h₂ p q. (told-list-one a b (p.answer ∙ sym q.answer), p.kinds ∙ sym q.kinds, p.hundredths ∙ sym q.hundredths);
      put = puts-same;
    }

pub demand-one : DemandOne
demand-one =
    record {
      endings = ends;
      questions = questions;
      rows = rows;
      tallies = tallies;
      indexes = indexes;
      mends = mends;
      picks = picks;
      lists = lists;
      writer = writer-refuses;
      unchanged = unchanged;
      determined = determined;
    }

-- A block is taken exactly when state and room agree, the reader would take it there and the room suffices; then state and
-- room agree again. Assumes nothing.
use Prim.Native.Nat.{ℕ, ◌+◌}
use native.Mathlib.Omega.{arith}
use mathlib.Core.Path.{◌≡◌, refl, sym, ap, subst⁻¹, ◌∙◌}
use mathlib.Core.Bool.{Bool, true, false}
use mathlib.Core.List.{List, ◌++◌}
use lib.ListN.{length, take, length-append}
use lib.Seq.{length-take-le}
use Rattle.le.specs.Le.{patch}
use Rattle.le.proofs.Laws.{length-patch}
use Rattle.walk.specs.declared.due.Due.{Due}
use Rattle.walk.specs.declared.due.Walk.{Walk}
use Rattle.reading.specs.declared.step.Step.{Step}
use Rattle.reading.specs.declared.step.Step.TheVariants as step
use Rattle.walk.specs.Due.{size_at, size_of, is_end}
use Rattle.reading.specs.Reading.{stop}
use Rattle.reading.specs.Step.{say_block, step_of}
use Rattle.reading.proofs.Run.{Plain, took, refused, is-here, taken}
use Rattle.writer.specs.declared.order.Answer.{Answer}
use Rattle.writer.specs.declared.order.Answer.TheVariants.{Taken, Refused}
use Rattle.writer.specs.Agree.{written, Agrees, agrees}
use Rattle.writer.specs.Block.{Block, kind_of, says_of, fits_of, length_of, bytes_of}
use Rattle.writer.specs.Put.{checked, next_of, outcome, Outcome, put_on, put}
use Rattle.writer.specs.Trips.{Fits, stored_as, WouldTake, TakenWhen, Keeps}
use Rattle.writer.proofs.Ahead.{stops-next}
use Rattle.writer.proofs.Bytes.{front-all, front-last, front-before, front-patch}
use Rattle.writer.proofs.EachKind.{going, long, size_is, size-if, says_plain, finds, says-in}
use Rattle.writer.proofs.Places.{cut-behind}
use Rattle.writer.proofs.Putting.{Passed, passed, passes}
use Rattle.writer.proofs.Same.{agree-is, agree-if}

-- ---- the outcome, by the tests that were passed

module _ (b : Block) (w : Walk) (room : List ℕ) where
  -- where state and room agree, nothing is lost by taking the state as it is given
  pub inner-is : Agrees w room → put b w room ≡ put_on b w room
  unfolding put
  inner-is a = rw (agree-if w room a)

  pub put-passed : (m : Walk) → Agrees w room → Passed (kind_of b) (says_of b room w) (fits_of b w) (length_of b) w (length room) → says_of b room w ≡ step.Took m
      → put b w room ≡ stored_as b w m room
  unfolding put_on outcome next_of
  put-passed m a h s =
      inner-is a
      ∙ ap (λ (x : Answer). outcome x (says_of b room w) (bytes_of b) w room) (passes _ _ _ _ w _ h)
      ∙ ap (λ (x : Step). outcome Taken x (bytes_of b) w room) s

  -- what a block that was taken says
  pub record Taking : Type 0 where
    pub next : Walk
    pub agree : Agrees w room
    pub passed : Passed (kind_of b) (says_of b room w) (fits_of b w) (length_of b) w (length room)
    pub says : says_of b room w ≡ step.Took next
    pub is : put b w room ≡ stored_as b w next room

  answer-of : (x : Answer) (s : Step) → (outcome x s (bytes_of b) w room).answer ≡ x
  unfolding outcome
  answer-of Taken s = refl
  answer-of (Refused n p) s = refl

  says-took : Plain (says_of b room w) → checked (says_of b room w) Taken ≡ Taken → (g : (m : Walk) → says_of b room w ≡ step.Took m → Taking) → Taking
  unfolding checked
  says-took (took m q) h g = g m q
  says-took (refused n p q) h g = absurd (let r : Refused n p ≡ Taken = rw q at h in let z : ◌≡◌ {A = ℕ} 0 1 = cc in omega arith)

  pub taking : (put b w room).answer ≡ Taken → Taking
  unfolding put put_on
  taking t = go (agrees w room) refl
    where
      go : (x : Bool) → agrees w room ≡ x → Taking
      go true e =
          let a = agree-is w room e in
          let u : (put_on b w room).answer ≡ Taken = ap (λ (o : Outcome). o.answer) (sym (inner-is a)) ∙ t in
          let h = passed _ _ _ _ w _ (sym (answer-of _ (says_of b room w)) ∙ u) in
          says-took (says_plain b room w) h.rules (λ m s. record { next = m; agree = a; passed = h; says = s; is = put-passed m a h s })
      go false e = absurd (let r : Refused 37 0 ≡ Taken = rw e at t in let z : ◌≡◌ {A = ℕ} 0 1 = cc in omega arith)

-- ---- the reader at what is written, followed by the block

module _ (b : Block) (fits : Fits b) (w : Walk) (room : List ℕ) where
  ends : Agrees w room → length (written w room ++ bytes_of b) ≡ w.at + length_of b
  ends a =
      let l = length-take-le w.at room a.within in
      let n = long b fits in
      length-append (written w room) (bytes_of b) ∙ omega arith

  pub reads : Agrees w room → w.due ≡ kind_of b → fits_of b w ≡ true → step_of (written w room ++ bytes_of b) w ≡ says_of b room w
  reads a k f =
      let p = written w room ++ bytes_of b in
      let n = long b fits in
      let size : length_of b ≡ size_of w = size_is b w f ∙ ap (λ (d : Due). size_at d w.rest.length) (sym k) in
      let e = ends a in
      is-here p w (ap is_end k ∙ going b) (omega arith)
      ∙ ap (λ (l : List ℕ). say_block w.due l w) (ap (λ (i : ℕ). take (w.at + i) p) (sym size) ∙ front-all room w.at (bytes_of b) (length_of b) n a.within)
      ∙ ap (λ (d : Due). say_block d p w) k
      ∙ says-in (kind_of b) p room w (going b) (λ d. front-before room w.at (bytes_of b) (length_of b) n a.within 256 _ (cut-behind (written w room) w a.stops (k ∙ d)))
      ∙ ap (λ (x : Block). says_of x room w) (finds b fits p w f (front-last room w.at (bytes_of b) (length_of b) n a.within))

  would : (g : Taking b w room) → WouldTake b w g.next room
  would g =
      let a = g.agree in
      let h = g.passed in
      let s = reads a h.kind-due h.whole ∙ g.says in
      let e = (taken _ w g.next s).end in
      let z : length_of b ≡ size_of w = size_is b w h.whole ∙ ap (λ (d : Due). size_at d w.rest.length) (sym h.kind-due) in
      record { agree = a; kind = h.kind-due; suffices = h.suffices; takes = s; whole = omega arith }

  pub taken-when : TakenWhen b w room
  unfolding checked
  taken-when =
      record {
        only = λ t.
            let g = taking b w room t in
            subst⁻¹ (λ (m : Walk). WouldTake b w m room) (ap (λ (o : Outcome). o.walk) g.is) (would g);
        always = λ m h.
            let a = h.agree in
            let k = h.kind in
            let l = h.whole in
            let e = (taken _ w m h.takes).end in
            let z : length_of b ≡ size_of w = omega arith in
            let f = size-if b w (z ∙ ap (λ (d : Due). size_at d w.rest.length) k) in
            let s = sym (reads a k f) ∙ h.takes in
            put-passed b w room m a
            (record {
              within = a.within;
              going = ap is_end k ∙ going b;
              kind-due = k;
              rules = rw s;
              whole = f;
              suffices = h.suffices;
            }) s;
      }

  -- ---- what is written after it

  adds-is : (g : Taking b w room) → written g.next (patch room w.at (bytes_of b)) ≡ written w room ++ bytes_of b
  adds-is g =
      ap (λ (n : ℕ). take n (patch room w.at (bytes_of b))) (would g).whole
      ∙ front-patch room w.at (bytes_of b) (length_of b) (long b fits) g.agree.within

  agree-next : (g : Taking b w room) → Agrees g.next (patch room w.at (bytes_of b))
  agree-next g =
      let v = would g in
      let l = v.whole in
      let s = v.suffices in
      let n = long b fits in
      let p = length-patch room w.at (bytes_of b) (omega arith) in
      record {
        within = omega arith;
        stops = ap stop (adds-is g) ∙ stops-next (written w room) (bytes_of b) w g.next g.agree.stops v.takes (l ∙ sym (ends g.agree));
      }

  pub keeps : Keeps b w room
  keeps =
      record {
        inner = λ a. sym (inner-is b w room a);
        agree = λ t. let g = taking b w room t in subst⁻¹ (λ (o : Outcome). Agrees o.walk o.room) g.is (agree-next g);
        adds = λ t. let g = taking b w room t in ap (λ (o : Outcome). written o.walk o.room) g.is ∙ adds-is g;
      }

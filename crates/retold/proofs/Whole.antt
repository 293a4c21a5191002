-- The radials that are whole in what is written, block by block: the last data of a radial makes it whole, and no other block
-- changes which are. Assumes nothing.
use Prim.Native.Nat.{ℕ, suc, ◌+◌, ◌-◌, ◌<◌, ◌≤◌}
use native.Mathlib.Omega.{arith}
use borrow.Author.Tests.{eq-eqb, ne_eqb, eqb-true}
use mathlib.Core.Bool.{Bool, true, false}
use mathlib.Core.List.{List, [], ◌∷◌, ◌++◌, append-nil}
use mathlib.Core.Path.{◌≡◌, sym, ap, ap₂, subst⁻¹, ◌∙◌}
use lib.Dec.{eqb}
use lib.ListN.{length}
use lib.Seq.{length-take-le}
use Rattle.rules.proofs.Judged.{all_hold}
use Rattle.moment.specs.declared.Moment.{Moment}
use Rattle.moment.specs.Moment.{MomentFits}
use Rattle.radial.specs.declared.Radial.{Radial}
use Rattle.radial.specs.Radial.{radial_check, radial_rules}
use Rattle.radial.proofs.Header.{header}
use Rattle.walk.specs.declared.due.Due.{Due}
use Rattle.walk.specs.declared.due.Walk.{Walk}
use Rattle.walk.specs.Due.{ends_radial, radial_due}
use Rattle.walk.specs.After.{after_radial, after_moment}
use Rattle.reading.specs.declared.Stretch.{Stretch}
use Rattle.reading.specs.declared.step.Step.TheVariants.{Took}
use Rattle.reading.specs.Reading.{fuel, stop, trace, stretches, stretch_if, stretch_of}
use Rattle.reading.specs.Step.{take_radial, take_moment, cut_in, step_of}
use Rattle.reading.proofs.Growing.{kept}
use Rattle.reading.proofs.Run.{hoped, settle-took, settle-fine, data_then, took_more, took-last, enough, run_step, run-stays}
use Rattle.writer.specs.declared.order.Answer.TheVariants.{Taken}
use Rattle.writer.specs.Agree.{written}
use Rattle.writer.specs.Block.{Block, radial, moment, «data», bytes_of}
use Rattle.writer.specs.Many.{put_all}
use Rattle.writer.specs.Put.{Outcome, put}
use Rattle.writer.specs.Trips.{Fits, stored_as}
use Rattle.writer.proofs.Agreeing.{taking, taken-when, keeps}
use Rattle.writer.proofs.Ahead.{stays_after}
use Rattle.retold.specs.Many.{All, written_in}
use Rattle.retold.specs.Retold.{Pair, PairsFit, moment_blocks}
use Rattle.retold.proofs.Many.{first}

-- ---- one block

-- the stretches of a file with one block more, which ends where the bytes end
stretches-more : (A C : List ℕ) (w m : Walk) → stop A ≡ w → step_of (A ++ C) w ≡ Took m → m.at ≡ length (A ++ C)
    → stretches (A ++ C) ≡ stretches A ++ stretch_of w m []
stretches-more A C w m s e l =
    kept A C
    ∙ ap (λ (r : List Stretch). stretches A ++ r)
    (ap (trace (fuel (A ++ C)) (A ++ C)) s
    ∙ run_step true (λ v. []) stretch_of (fuel (A ++ C)) (A ++ C) w m (enough (A ++ C) w) e
    ∙ ap (stretch_of w m) (run-stays true (λ v. []) stretch_of (fuel (A ++ C)) (A ++ C) m (stays_after (A ++ C) w m e l)))

module _ (b : Block) (fits : Fits b) (w : Walk) (room : List ℕ) (t : (put b w room).answer ≡ Taken) where
  pub block-stretches : stretches (written_in (put b w room)) ≡ stretches (written w room) ++ stretch_of w (put b w room).walk []
  block-stretches =
      let m = (put b w room).walk in
      let v = (taken-when b fits w room).only t in
      let k = keeps b fits w room in
      ap stretches (k.adds t)
      ∙ stretches-more (written w room) (bytes_of b) w m v.agree.stops v.takes
      (sym (length-take-le m.at (put b w room).room (k.agree t).within) ∙ ap length (k.adds t))

  -- a block that is not the last of its radial leaves them as they were
  pub same-stretches : ends_radial w.due w.rest.todo ≡ false → stretches (written_in (put b w room)) ≡ stretches (written w room)
  unfolding stretch_if
  same-stretches e =
      block-stretches
      ∙ ap (λ (x : Bool). stretches (written w room) ++ stretch_if x w (put b w room).walk []) e
      ∙ append-nil (stretches (written w room))

-- ---- where a radial's and a moment's header lead

-- each is stored at the end of what is written, and the walk after it is the one that the reader goes on with
pub radial-put : (r : Radial) (w : Walk) (room : List ℕ) → (put (radial r) w room).answer ≡ Taken
    → put (radial r) w room ≡ stored_as (radial r) w (after_radial r (cut_in room w).moments_mask (cut_in room w).size_mask w (w.at + 64)) room
unfolding take_radial
radial-put r w room t =
    let g = taking (radial r) w room t in
    g.is ∙ ap (λ (m : Walk). stored_as (radial r) w m room) (sym (settle-took _ _ _ _ (hoped _ _ _ _ g.says).0))

-- a radial that is taken announces a moment
pub radial-some : (r : Radial) (w : Walk) (room : List ℕ) → (put (radial r) w room).answer ≡ Taken → 1 ≤ r.moment_number
unfolding take_radial radial_check
radial-some r w room t =
    let g = taking (radial r) w room t in
    (header r (radial_due w) (all_hold (radial_rules r (radial_due w)) (settle-fine _ _ _ _ (hoped _ _ _ _ g.says).0))).some

pub moment-put : (h : Moment) (w : Walk) (room : List ℕ) → (put (moment h) w room).answer ≡ Taken
    → put (moment h) w room ≡ stored_as (moment h) w (after_moment h w (w.at + 32)) room
unfolding take_moment
moment-put h w room t =
    let g = taking (moment h) w room t in
    g.is ∙ ap (λ (m : Walk). stored_as (moment h) w m room) (sym (settle-took _ _ _ _ (hoped _ _ _ _ g.says).0))

-- ---- from a radial's header to its last data

-- each data has the length that its header says
abbrev pub PairsLong : List Pair → Type 0
PairsLong ps = All (λ p. length p.bytes ≡ p.header.length) ps

-- from o to q the present radial goes on: it is the same, and no other has become whole
record Goes (o q : Outcome) : Type 0 where
  stretches : stretches (written_in q) ≡ stretches (written_in o)
  start : q.walk.present.start ≡ o.walk.present.start
  sequence : q.walk.present.sequence ≡ o.walk.present.sequence
  cut : q.walk.count.cut ≡ o.walk.count.cut

-- from o to q the present radial becomes whole, where q's bytes end
pub record Ends (o q : Outcome) : Type 0 where
  pub stretches : stretches (written_in q) ≡ stretches (written_in o) ++ (record { start = o.walk.present.start; end = q.walk.at; cut = o.walk.count.cut } ∷ [])
  pub whole : q.walk.count.whole ≡ o.walk.present.sequence

goes_on : (o p q : Outcome) → Goes o p → Goes p q → Goes o q
goes_on o p q a b =
    record { stretches = b.stretches ∙ a.stretches; start = b.start ∙ a.start; sequence = b.sequence ∙ a.sequence; cut = b.cut ∙ a.cut }

goes-ends : (o p q : Outcome) → Goes o p → Ends p q → Ends o q
goes-ends o p q g e =
    record {
      stretches =
          e.stretches
          ∙ ap (λ (l : List Stretch). l ++ (record { start = p.walk.present.start; end = q.walk.at; cut = p.walk.count.cut } ∷ [])) g.stretches
          ∙ ap₂ (λ (i j : ℕ). stretches (written_in o) ++ (record { start = i; end = q.walk.at; cut = j } ∷ [])) g.start g.cut;
      whole = e.whole ∙ g.sequence;
    }

module _ (h : Moment) (fits : MomentFits h) (o : Outcome) (t : (put (moment h) o.walk o.room).answer ≡ Taken) where
  moment-goes : Goes o (put (moment h) o.walk o.room)
  unfolding ends_radial
  moment-goes =
      let d = ((taken-when (moment h) fits o.walk o.room).only t).kind in
      let e = moment-put h o.walk o.room t in
      record {
        stretches = same-stretches (moment h) fits o.walk o.room t (ap (λ (x : Due). ends_radial x o.walk.rest.todo) d);
        start = ap (λ (x : Outcome). x.walk.present.start) e;
        sequence = ap (λ (x : Outcome). x.walk.present.sequence) e;
        cut = ap (λ (x : Outcome). x.walk.count.cut) e;
      }

  moment-todo : (put (moment h) o.walk o.room).walk.rest.todo ≡ o.walk.rest.todo - 1
  moment-todo = ap (λ (x : Outcome). x.walk.rest.todo) (moment-put h o.walk o.room t)

  moment-length : (put (moment h) o.walk o.room).walk.rest.length ≡ h.length
  moment-length = ap (λ (x : Outcome). x.walk.rest.length) (moment-put h o.walk o.room t)

module _ (d : List ℕ) (o : Outcome) (t : (put («data» d) o.walk o.room).answer ≡ Taken) where
  data-ends-radial : (b : Bool) → eqb o.walk.rest.todo 0 ≡ b → ends_radial o.walk.due o.walk.rest.todo ≡ b
  unfolding ends_radial
  data-ends-radial b e = ap (λ (x : Due). ends_radial x o.walk.rest.todo) ((taken-when («data» d) tt o.walk o.room).only t).kind ∙ e

  data-long : length d ≡ o.walk.rest.length
  data-long = eqb-true (length d) o.walk.rest.length (taking («data» d) o.walk o.room t).passed.whole

  data-more : 0 < o.walk.rest.todo → (put («data» d) o.walk o.room).walk ≡ data_then true o.walk
  data-more h = let g = taking («data» d) o.walk o.room t in ap (λ (x : Outcome). x.walk) g.is ∙ sym (took_more o.walk g.next h g.says)

  data-last : o.walk.rest.todo ≡ 0 → (put («data» d) o.walk o.room).walk ≡ data_then false o.walk
  data-last h = let g = taking («data» d) o.walk o.room t in ap (λ (x : Outcome). x.walk) g.is ∙ sym (took-last o.walk g.next h g.says)

  data-goes : 0 < o.walk.rest.todo → Goes o (put («data» d) o.walk o.room)
  data-goes h =
      let e = data-more h in
      record {
        stretches = same-stretches («data» d) tt o.walk o.room t (data-ends-radial false (ne_eqb o.walk.rest.todo 0 (λ z. omega arith)));
        start = ap (λ (x : Walk). x.present.start) e;
        sequence = ap (λ (x : Walk). x.present.sequence) e;
        cut = ap (λ (x : Walk). x.count.cut) e;
      }

  data-todo : 0 < o.walk.rest.todo → (put («data» d) o.walk o.room).walk.rest.todo ≡ o.walk.rest.todo
  data-todo h = ap (λ (x : Walk). x.rest.todo) (data-more h)

  data-ends : o.walk.rest.todo ≡ 0 → Ends o (put («data» d) o.walk o.room)
  unfolding stretch_if
  data-ends h =
      record {
        stretches =
            block-stretches («data» d) tt o.walk o.room t
            ∙ ap (λ (x : Bool). stretches (written_in o) ++ stretch_if x o.walk (put («data» d) o.walk o.room).walk []) (data-ends-radial true (eq-eqb _ 0 h));
        whole = ap (λ (x : Walk). x.count.whole) (data-last h);
      }

-- a moment with its data, and the blocks after it
record Pairwise (p : Pair) (bs : List Block) (o : Outcome) : Type 0 where
  next : Outcome
  is : put_all (moment p.header ∷ «data» p.bytes ∷ bs) o ≡ put_all bs next
  rest : (put_all bs next).answer ≡ Taken
  long : length p.bytes ≡ p.header.length
  more : 1 < o.walk.rest.todo → Goes o next × (next.walk.rest.todo ≡ o.walk.rest.todo - 1)
  last : o.walk.rest.todo ≡ 1 → Ends o next

pairwise : (p : Pair) (bs : List Block) → MomentFits p.header → (o : Outcome) → (put_all (moment p.header ∷ «data» p.bytes ∷ bs) o).answer ≡ Taken → Pairwise p bs o
pairwise p bs fits o t =
    let one = first (moment p.header) («data» p.bytes ∷ bs) o t in
    let q = put (moment p.header) o.walk o.room in
    let two = first («data» p.bytes) bs q one.rest in
    let todo = moment-todo p.header fits o one.taken in
    let goes = moment-goes p.header fits o one.taken in
    record {
      next = put («data» p.bytes) q.walk q.room;
      is = one.is ∙ two.is;
      rest = two.rest;
      long = data-long p.bytes q two.taken ∙ moment-length p.header fits o one.taken;
      more = λ h. (goes_on o q _ goes (data-goes p.bytes q two.taken (omega arith)), data-todo p.bytes q two.taken (omega arith) ∙ todo);
      last = λ h. goes-ends o q _ goes (data-ends p.bytes q two.taken (omega arith));
    }

-- the moments of a radial, put where as many are still to come
pub record Through (ps : List Pair) (o : Outcome) : Type 0 where
  pub ends : Ends o (put_all (moment_blocks ps) o)
  pub long : PairsLong ps

pub through : (p : Pair) (ps : List Pair) → PairsFit (p ∷ ps) → (o : Outcome) → o.walk.rest.todo ≡ suc (length ps)
    → (put_all (moment_blocks (p ∷ ps)) o).answer ≡ Taken → Through (p ∷ ps) o
unfolding moment_blocks put_all
through p [] fits o k t =
    let one = pairwise p [] fits.0 o t in
    record { ends = subst⁻¹ (Ends o) one.is (one.last k); long = (one.long, tt) }
through p (x ∷ xs) fits o k t =
    let one = pairwise p (moment_blocks (x ∷ xs)) fits.0 o t in
    let on = one.more (omega arith) in
    let todo = on.1 in
    let r = through x xs fits.1 one.next (omega arith) one.rest in
    record { ends = subst⁻¹ (Ends o) one.is (goes-ends o one.next _ on.0 r.ends); long = (one.long, r.long) }

-- One old radial: settled as the import takes it over and, where it is taken, what it leaves. Assumes nothing.
use Rattle.std.proofs.Common.{◌≡◌, ℕ, ◌+◌, ◌-◌, ◌*◌, ◌<◌, ◌≤◌, Bool, true, false, cond, eqb, List, [], ◌∷◌, ◌++◌, length, replicate, sym, refl, ap, ◌∙◌, ap₂, append_assoc, arith}
use mathlib.Core.Path.{subst⁻¹}
use Rattle.le.specs.Le.{Bytes, part, run}
use Rattle.le.proofs.Laws.{length_part, part-past, part_in, part-take, stored-in}
use Rattle.rules.specs.Check.{Check}
use Rattle.std.specs.Prelude.{Ok, Err}
use Rattle.cut.specs.declared.Cut.{Cut}
use Rattle.cut.specs.Cut.{cut_of, cut_at}
use Rattle.moment.specs.Moment.{MomentFits}
use Rattle.radial.specs.declared.Radial.{Radial}
use Rattle.walk.specs.declared.due.Due.TheVariants as due
use Rattle.walk.specs.declared.due.Plan.{Plan}
use Rattle.walk.specs.declared.due.Walk.{Walk}
use Rattle.walk.specs.Due.{cut_place}
use Rattle.walk.specs.After.{after_data}
use Rattle.reading.specs.Step.{cut_in, say_radial, take_data}
use Rattle.reading.proofs.Run.{took-inj}
use Rattle.writer.specs.declared.order.Answer.{Answer}
use Rattle.writer.specs.declared.order.Answer.TheVariants.{Taken, Refused}
use Rattle.writer.specs.declared.order.Put.{Put}
use Rattle.writer.specs.Agree.{Agrees}
use Rattle.writer.specs.Block.{Block, radial, moment, «data», bytes_of}
use Rattle.writer.specs.Many.{unless_refused, put_next, put_all}
use Rattle.writer.specs.Put.{Outcome, put}
use Rattle.writer.proofs.Agreeing.{taking, taken-when}
use Rattle.writer.proofs.Places.{behind}
use Rattle.retold.specs.Many.{All, FitsAll, written_in, Added}
use Rattle.retold.specs.Retold.{Pair, PairsFit, moment_blocks, radial_blocks}
use Rattle.retold.proofs.Many.{all_join, first, all-added}
use Rattle.retold.proofs.Retold.{blocks-fit}
use Rattle.retold.proofs.Whole.{radial-put, moment-put}
use Rattle.old.specs.declared.codes.Quantity.{Quantity}
use Rattle.old.specs.declared.codes.Quantity.TheVariants.{Reflectivity, Velocity, Width}
use Rattle.old.specs.declared.record.OldRadial.{OldRadial}
use Rattle.old.specs.Codes.{new_bytes}
use Rattle.old.specs.Headers.{gates_of, place_of, moment_from, radial_from}
use Rattle.old.specs.Old.{OldFits, old_at, old_check}
use Rattle.old.proofs.Back.{new-length}
use Rattle.old.proofs.Fitting.{old-fits, radial-fits, moment-fits}
use Rattle.shelf.specs.Import.{moment_of, moments_of, old_radial, old_blocks, unless_broken, take_over}
use Rattle.shelf.specs.Settled.{unless, front, settle_in, settle_next, settle_data, counted, radial_next, settle_moment, settle_moments, unless_bad, settle_over, laid_bytes, laid_if, bytes_next, settled_over, lay_over}
use Rattle.shelf.proofs.Settling.{put_of, settle_all, settle-append, Roomless, Settles, next, first-settles, all-settles}
use Rattle.shelf.proofs.Walks.{small}

-- ---- its blocks

gates-fit : (q : Quantity) (o : OldRadial) → OldFits o → gates_of q o < 65536
unfolding gates_of
gates-fit Reflectivity o h = h.reflectivity
gates-fit Velocity o h = h.doppler
gates-fit Width o h = h.doppler

moment-pair-fits : (q : Quantity) (o : OldRadial) (f : List ℕ) (at : ℕ) → OldFits o → PairsFit (moment_of q o f at)
unfolding moment_of
moment-pair-fits q o f at h = go (eqb (gates_of q o) 0)
  where
    go : (x : Bool)
        → PairsFit (cond x [] (record { header = moment_from q o.resolution (gates_of q o); bytes = run new_bytes (part (gates_of q o) f (at + place_of q o)) } ∷ []))
    go true = tt
    go false = (moment-fits q o.resolution (gates_of q o) (gates-fit q o h), tt)

pub pairs-fit : (o : OldRadial) (f : List ℕ) (at : ℕ) → OldFits o → PairsFit (moments_of o f at)
pairs-fit o f at h =
    all_join (λ p. MomentFits p.header) (moment_of Reflectivity o f at) (moment_of Velocity o f at ++ moment_of Width o f at) (moment-pair-fits Reflectivity o f at h)
    (all_join (λ p. MomentFits p.header) (moment_of Velocity o f at) (moment_of Width o f at) (moment-pair-fits Velocity o f at h) (moment-pair-fits Width o f at h))

roomless : (ps : List Pair) → All Roomless (moment_blocks ps)
unfolding moment_blocks
roomless [] = tt
roomless (p ∷ ps) = ((λ room other w. refl), ((λ room other w. refl), roomless ps))

pub blocks-join : (xs ys : List Pair) → moment_blocks (xs ++ ys) ≡ moment_blocks xs ++ moment_blocks ys
unfolding moment_blocks
blocks-join [] ys = refl
blocks-join (p ∷ xs) ys = ap (λ (l : List Block). moment p.header ∷ «data» p.bytes ∷ l) (blocks-join xs ys)

-- ---- its moments settled

module _ (c : List ℕ) (room : ℕ) (o : OldRadial) (f : List ℕ) (at : ℕ) where
  settle-moment : (q : Quantity) (p : Put) → settle_all c room (moment_blocks (moment_of q o f at)) p ≡ settle_moment room q o p
  unfolding moment_of settle_moment moment_blocks settle_all
  settle-moment q p = go (eqb (gates_of q o) 0)
    where
      go : (x : Bool)
          → settle_all c room (moment_blocks (cond x [] (record { header = moment_from q o.resolution (gates_of q o); bytes = run new_bytes (part (gates_of q o) f (at + place_of q o)) } ∷ []))) p
          ≡ cond x p (settle_data room (2 * gates_of q o) (settle_next room (moment (moment_from q o.resolution (gates_of q o))) p))
      go true = refl
      go false =
          ap (λ (k : ℕ). settle_data room k (settle_next room (moment (moment_from q o.resolution (gates_of q o))) p))
          (new-length (part (gates_of q o) f (at + place_of q o)) ∙ ap (λ (k : ℕ). 2 * k) (length_part (gates_of q o) f (at + place_of q o)))

  settle-moments : (p : Put) → settle_all c room (moment_blocks (moments_of o f at)) p ≡ settle_moments room o p
  settle-moments p =
      let r = moment_of Reflectivity o f at in
      let v = moment_of Velocity o f at in
      let w = moment_of Width o f at in
      ap (λ (l : List Block). settle_all c room l p) (blocks-join r (v ++ w) ∙ ap (λ (l : List Block). moment_blocks r ++ l) (blocks-join v w))
      ∙ settle-append c room (moment_blocks r) (moment_blocks v ++ moment_blocks w) p
      ∙ settle-append c room (moment_blocks v) (moment_blocks w) (settle_all c room (moment_blocks r) p)
      ∙ ap (λ (x : Put). settle_all c room (moment_blocks w) (settle_all c room (moment_blocks v) x)) (settle-moment Reflectivity p)
      ∙ ap (settle_all c room (moment_blocks w)) (settle-moment Velocity (settle_moment room Reflectivity o p))
      ∙ settle-moment Width (settle_moment room Velocity o (settle_moment room Reflectivity o p))

-- ---- what holds of a state behind our records, while nothing is refused

pub record Standing (c : List ℕ) (o : Outcome) : Type 0 where
  pub agree : Agrees o.walk o.room
  -- the cut records stand behind generic, site and task
  pub head : List ℕ
  pub more : List ℕ
  pub is : written_in o ≡ head ++ (c ++ more)
  pub long : length head ≡ cut_place 1
  -- and are all that are planned
  pub planned : o.walk.due ≡ due.Radial → 256 * o.walk.plan.cuts ≤ length c

-- a radial's cut is the same in the room and in the cut records
pub same-cut : (c : List ℕ) (o : Outcome) → Standing c o → o.walk.due ≡ due.Radial → cut_in o.room o.walk ≡ cut_in (front c) o.walk
unfolding cut_at
same-cut c o h d =
    let w = o.walk in
    let b = behind (written_in o) w h.agree.stops d in
    let one = b.one in
    let last = b.last in
    let ends = b.cuts in
    let few = h.planned d in
    let n = h.long in
    let k = 256 * (w.count.cut - 1) in
    let place : cut_place w.count.cut ≡ length h.head + k = omega arith in
    let in-room : part 256 o.room (cut_place w.count.cut) ≡ part 256 c k =
    sym (part-take 256 o.room (cut_place w.count.cut) w.at (omega arith))
    ∙ ap₂ (part 256) h.is place
    ∙ part-past 256 h.head (c ++ h.more) k
    ∙ part_in 256 c h.more k (omega arith) in
    let in-records : part 256 (front c) (cut_place w.count.cut) ≡ part 256 c k = part-past 256 (replicate (cut_place 1) 0) c k in
    ap cut_of (in-room ∙ sym in-records)

-- the counts of a state are small, so that the next ones are whole
counted_is : (n : ℕ) → n ≤ 65536 → counted n ≡ n + 1
counted_is n h = omega arith

pub radial-is : (o : Outcome) (r : OldRadial) → Agrees o.walk o.room
    → radial_next r o.walk ≡ radial_from r (o.walk.count.whole + 1) (o.walk.count.in_cut + 1)
radial-is o r a =
    let s = small (written_in o) o.walk a.stops in
    let n = s.whole in
    let m = s.in_cut in
    ap₂ (radial_from r) (counted_is o.walk.count.whole (omega arith)) (counted_is o.walk.count.in_cut (omega arith))

module _ (c f : List ℕ) (at : ℕ) (bytes : Bytes f) (o : Outcome) where
  pub blocks-fit-all : Agrees o.walk o.room → FitsAll (old_blocks f at o.walk)
  blocks-fit-all a =
      let s = small (written_in o) o.walk a.stops in
      let n = s.whole in
      let m = s.in_cut in
      let h = old-fits f at bytes in
      (radial-fits (old_at f at) _ _ h (omega arith) (omega arith), blocks-fit (moments_of (old_at f at) f at) (pairs-fit (old_at f at) f at h))

  all_blocks : Standing c o → Settles c (old_blocks f at o.walk) o
  all_blocks h =
      let fits = blocks-fit-all h.agree in
      let r = radial (old_radial f at o.walk) in
      let n = next c r fits.0 o (λ e. h.agree) (λ e d. ap (λ (x : Cut). say_radial (old_radial f at o.walk) x o.walk) (same-cut c o h d)) in
      first-settles c r fits.0 (moment_blocks (moments_of (old_at f at) f at)) o n
      (all-settles c (moment_blocks (moments_of (old_at f at) f at)) fits.1 (roomless (moments_of (old_at f at) f at)) (put_next r o) n.agreed)

  -- what is settled of the radial
  pub record OverSettles : Type 0 where
    pub settles : put_of (take_over f at o) ≡ settle_over c (length o.room) (old_at f at) at (put_of o)
    pub long : length (take_over f at o).room ≡ length o.room

  blocks-settle : (h : Standing c o)
      → put_of (put_all (old_blocks f at o.walk) o)
      ≡ settle_moments (length o.room) (old_at f at) (settle_in (front c) (length o.room) (radial (radial_next (old_at f at) o.walk)) (put_of o))
  unfolding settle_all
  blocks-settle h =
      (all_blocks h).settles
      ∙ settle-moments c (length o.room) (old_at f at) f at (settle_in (front c) (length o.room) (radial (old_radial f at o.walk)) (put_of o))
      ∙ ap (λ (x : Radial). settle_moments (length o.room) (old_at f at) (settle_in (front c) (length o.room) (radial x) (put_of o))) (sym (radial-is o (old_at f at) h.agree))

  pub over-settles : (o.answer ≡ Taken → Standing c o) → OverSettles
  unfolding unless_refused unless unless_broken unless_bad
  over-settles h = go o.answer refl
    where
      next_one : Outcome
      next_one = unless_broken (old_check (old_at f at)) at o (put_all (old_blocks f at o.walk) o)

      settled-one : Put
      settled-one =
          unless_bad (old_check (old_at f at)) at (put_of o)
          (settle_moments (length o.room) (old_at f at) (settle_in (front c) (length o.room) (radial (radial_next (old_at f at) o.walk)) (put_of o)))

      by-check : (x : Check) → Standing c o
          → (put_of (unless_broken x at o (put_all (old_blocks f at o.walk) o))
          ≡ unless_bad x at (put_of o)
          (settle_moments (length o.room) (old_at f at) (settle_in (front c) (length o.room) (radial (radial_next (old_at f at) o.walk)) (put_of o))))
          × (length (unless_broken x at o (put_all (old_blocks f at o.walk) o)).room ≡ length o.room)
      by-check (Ok tt) s = (blocks-settle s, (all_blocks s).room)
      by-check (Err k) s = (refl, refl)

      go : (x : Answer) → o.answer ≡ x → OverSettles
      go Taken e =
          let b = by-check (old_check (old_at f at)) (h e) in
          let is : take_over f at o ≡ next_one = ap (λ (x : Answer). unless_refused x o next_one) e in
          record {
            settles = ap put_of is ∙ b.0 ∙ sym (ap (λ (x : Answer). unless x (put_of o) settled-one) e);
            long = ap (λ (x : Outcome). length x.room) is ∙ b.1;
          }
      go (Refused n p) e =
          let is : take_over f at o ≡ o = ap (λ (x : Answer). unless_refused x o next_one) e in
          record {
            settles = ap put_of is ∙ sym (ap (λ (x : Answer). unless x (put_of o) settled-one) e);
            long = ap (λ (x : Outcome). length x.room) is;
          }

-- ---- the plan stays while a radial is put

moments-plan : (ps : List Pair) (o : Outcome) → (put_all (moment_blocks ps) o).answer ≡ Taken → (put_all (moment_blocks ps) o).walk.plan ≡ o.walk.plan
unfolding moment_blocks put_all take_data after_data
moments-plan [] o t = refl
moments-plan (p ∷ ps) o t =
    let one = first (moment p.header) («data» p.bytes ∷ moment_blocks ps) o t in
    let q = put (moment p.header) o.walk o.room in
    let two = first («data» p.bytes) (moment_blocks ps) q one.rest in
    let r = put («data» p.bytes) q.walk q.room in
    let g = taking («data» p.bytes) q.walk q.room two.taken in
    let by-data : r.walk.plan ≡ q.walk.plan = ap (λ (x : Outcome). x.walk.plan) g.is ∙ ap (λ (x : Walk). x.plan) (sym (took-inj _ _ g.says)) in
    let by-moment : q.walk.plan ≡ o.walk.plan = ap (λ (x : Outcome). x.walk.plan) (moment-put p.header o.walk o.room one.taken) in
    ap (λ (x : Outcome). x.walk.plan) (one.is ∙ two.is) ∙ moments-plan ps r two.rest ∙ by-data ∙ by-moment

radial-plan : (r : Radial) (ps : List Pair) (o : Outcome) → (put_all (radial_blocks r ps) o).answer ≡ Taken → (put_all (radial_blocks r ps) o).walk.plan ≡ o.walk.plan
radial-plan r ps o t =
    let one = first (radial r) (moment_blocks ps) o t in
    let q = put (radial r) o.walk o.room in
    ap (λ (x : Outcome). x.walk.plan) one.is
    ∙ moments-plan ps q one.rest
    ∙ ap (λ (x : Outcome). x.walk.plan) (radial-put r o.walk o.room one.taken)

-- ---- a radial that is taken over

module _ (f : List ℕ) (at : ℕ) (o : Outcome) (taken : (take_over f at o).answer ≡ Taken) where
  pub record TakenOver : Type 0 where
    pub before : o.answer ≡ Taken
    pub fine : old_check (old_at f at) ≡ (Ok tt)
    pub is : take_over f at o ≡ put_all (old_blocks f at o.walk) o
    pub all : (put_all (old_blocks f at o.walk) o).answer ≡ Taken

  pub over-taking : TakenOver
  unfolding unless_refused unless_broken
  over-taking = go o.answer refl (old_check (old_at f at)) refl
    where
      blocks : Outcome
      blocks = put_all (old_blocks f at o.walk) o

      go : (x : Answer) → o.answer ≡ x → (y : Check) → old_check (old_at f at) ≡ y → TakenOver
      go Taken e (Ok tt) k =
          let is : take_over f at o ≡ blocks =
          ap (λ (x : Answer). unless_refused x o (unless_broken (old_check (old_at f at)) at o blocks)) e ∙ ap (λ (y : Check). unless_broken y at o blocks) k in
          record { before = e; fine = k; is = is; all = ap (λ (x : Outcome). x.answer) (sym is) ∙ taken }
      go Taken e (Err b) k =
          let is : take_over f at o ≡ unless_broken (Err b) at o blocks =
          ap (λ (x : Answer). unless_refused x o (unless_broken (old_check (old_at f at)) at o blocks)) e ∙ ap (λ (y : Check). unless_broken y at o blocks) k in
          absurd (let r : Refused b.number at ≡ Taken = ap (λ (x : Outcome). x.answer) (sym is) ∙ taken in let z : ◌≡◌ {A = ℕ} 0 1 = cc in omega arith)
      go (Refused n p) e y k =
          let is : take_over f at o ≡ o = ap (λ (x : Answer). unless_refused x o (unless_broken (old_check (old_at f at)) at o blocks)) e in
          absurd (let r : Refused n p ≡ Taken = sym e ∙ ap (λ (x : Outcome). x.answer) (sym is) ∙ taken in let z : ◌≡◌ {A = ℕ} 0 1 = cc in omega arith)

module _ (c f : List ℕ) (at : ℕ) (bytes : Bytes f) (o : Outcome) (taken : (take_over f at o).answer ≡ Taken) (h : Standing c o) where
  pub over-added : Added (old_blocks f at o.walk) o
  over-added = all-added (old_blocks f at o.walk) (blocks-fit-all c f at bytes o h.agree) o h.agree (over-taking f at o taken).all

  pub over-standing : Standing c (take_over f at o)
  over-standing =
      let g = over-taking f at o taken in
      let a = over-added in
      let fits = blocks-fit-all c f at bytes o h.agree in
      let r = old_radial f at o.walk in
      let ps = moments_of (old_at f at) f at in
      let one = first (radial r) (moment_blocks ps) o g.all in
      let was = ((taken-when (radial r) fits.0 o.walk o.room).only one.taken).kind in
      let plan = radial-plan r ps o g.all in
      subst⁻¹ (Standing c) g.is
      (record {
        agree = a.agree;
        head = h.head;
        more = h.more ++ run bytes_of (old_blocks f at o.walk);
        is = a.adds ∙ ap (λ (l : List ℕ). l ++ run bytes_of (old_blocks f at o.walk)) h.is ∙ simp append_assoc;
        long = h.long;
        planned = λ d. subst⁻¹ (λ (x : Plan). 256 * x.cuts ≤ length c) plan (h.planned was);
      })

  -- laid down, it is what the writer left
  pub over-laid : lay_over c f at (record { walk = o.walk; room = o.room }) ≡ record { walk = (take_over f at o).walk; room = (take_over f at o).room }
  unfolding laid_if
  over-laid =
      let g = over-taking f at o taken in
      let a = over-added in
      let e = (over-settles c f at bytes o (λ t. h)).settles in
      let bs = run bytes_of (old_blocks f at o.walk) in
      let own : bytes_next f at o.walk ≡ bs =
      ap (λ (x : Radial). run bytes_of (radial_blocks x (moments_of (old_at f at) f at))) (radial-is o (old_at f at) h.agree) in
      let put_is : settled_over c f at (record { walk = o.walk; room = o.room }) ≡ put_of (take_over f at o) =
      sym (e ∙ ap (λ (x : Answer). settle_over c (length o.room) (old_at f at) at (record { answer = x; walk = o.walk })) g.before) in
      let n = a.at in
      let l = a.long in
      let w = a.agree.within in
      let room-is : laid_bytes o.room o.walk.at (bytes_next f at o.walk) ≡ (take_over f at o).room =
      ap (laid_bytes o.room o.walk.at) own
      ∙ stored-in (length bs) o.room o.walk.at bs (omega arith)
      ∙ sym a.room
      ∙ ap (λ (x : Outcome). x.room) (sym g.is) in
      ap₂ (λ (p : Put) (x : List ℕ). record { walk = p.walk; room = laid_if p.answer o.room x }) put_is room-is
      ∙ ap (λ (x : Answer). record { walk = (take_over f at o).walk; room = laid_if x o.room (take_over f at o).room }) taken

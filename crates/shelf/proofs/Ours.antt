-- Our records: settled as the writer answers them one by one and, where all are taken, laid down as their own bytes, behind one another
-- from the room's start on. Assumes nothing.
use Rattle.std.proofs.Common.{◌≡◌, ℕ, zero, suc, ◌+◌, ◌*◌, ◌/◌, ◌%◌, ◌≤◌, Bool, cond, leb, List, [], ◌∷◌, ◌++◌, length, drop, sym, refl, ap, ◌∙◌, subst, append_assoc, append-nil, zero-add, arith, length-append, length-drop, ne_eqb}
use Rattle.le.specs.Le.{Bytes, part, patch, run}
use Rattle.le.proofs.Laws.{length_part, part-all, part_bytes, part_join, run_end}
use Rattle.generic.specs.declared.Generic.{Generic}
use Rattle.generic.specs.Generic.{generic_bytes, GenericFits}
use Rattle.generic.proofs.Trips as generic-trip
use Rattle.site.specs.declared.Site.{Site}
use Rattle.site.specs.Site.{site_bytes, SiteFits}
use Rattle.site.proofs.Trips as site-trip
use Rattle.task.specs.declared.Task.{Task}
use Rattle.task.specs.Task.{task_bytes, TaskFits}
use Rattle.task.proofs.Trips as task-trip
use Rattle.cut.specs.declared.Cut.{Cut}
use Rattle.cut.specs.Cut.{cut_at, cut_size, CutFits}
use Rattle.cut.proofs.Trips as cut-trip
use Rattle.walk.specs.declared.due.Due.{Due}
use Rattle.walk.specs.declared.due.Due.TheVariants as due
use Rattle.walk.specs.declared.due.Walk.{Walk}
use Rattle.walk.specs.Due.{cut_place}
use Rattle.reading.specs.Step.{take_task, take_cut}
use Rattle.reading.proofs.Run.{hoped, settle-took, due-either}
use Rattle.writer.specs.declared.order.Answer.TheVariants.{Taken}
use Rattle.writer.specs.declared.order.Put.{Put}
use Rattle.writer.specs.Agree.{Agrees}
use Rattle.writer.specs.Block.{Block, generic, site, task, cut, «data», bytes_of}
use Rattle.writer.specs.Many.{beginning, put_next, put_all}
use Rattle.writer.specs.Put.{Outcome, put}
use Rattle.writer.specs.Trips.{Fits}
use Rattle.writer.proofs.Agreeing.{taking, taken-when}
use Rattle.writer.proofs.Runs.{start}
use Rattle.retold.specs.Many.{All, FitsAll, written_in}
use Rattle.retold.proofs.Many.{all_join, put-append, before-taken, next-put, first, all-added}
use Rattle.shelf.specs.Import.{first_cuts, rest_of, cut_blocks, our_blocks, ours}
use Rattle.shelf.specs.Settled.{settle_next, settle_data, settle_cuts, settle_rest, settle_head, settle_ours}
use Rattle.shelf.proofs.Settling.{put_of, settle_all, settle-append, Roomless, all-settles, Agreed}

-- ---- their blocks

-- what is so of every cut record is so of the first k
pub all-cuts : (P : Block → Type 0) (c : List ℕ) → ((at : ℕ) → P (cut (cut_at c at))) → (k : ℕ) → All P (first_cuts k c)
unfolding first_cuts
all-cuts P c each zero = tt
all-cuts P c each (suc k) = all_join P (first_cuts k c) (cut (cut_at c (k * cut_size)) ∷ []) (all-cuts P c each k) (each (k * cut_size), tt)

-- and of the bytes behind the last, where it is so of data
all_rest : (P : Block → Type 0) → ((bs : List ℕ) → P («data» bs)) → (l : List ℕ) → All P (rest_of l)
unfolding rest_of
all_rest P each [] = tt
all_rest P each (b ∷ bs) = (each (b ∷ bs), tt)

module _ (c : List ℕ) (bytes : Bytes c) where
  cut_fits : (at : ℕ) → CutFits (cut_at c at)
  unfolding cut_at
  cut_fits at = cut-trip.fits-of (part 256 c at) (part_bytes 256 c at bytes)

  -- the bytes of the first k are the first bytes of the list
  cuts-bytes : (k : ℕ) → run bytes_of (first_cuts k c) ≡ part (k * 256) c 0
  unfolding first_cuts run part cut_at
  cuts-bytes zero = refl
  cuts-bytes (suc k) =
      let own = cut-trip.back-and-there (part 256 c (k * 256)) (part_bytes 256 c (k * 256) bytes) (length_part 256 c (k * 256)) in
      let size : k * 256 + 256 ≡ suc k * 256 = omega arith in
      run_end bytes_of (first_cuts k c) (cut (cut_at c (k * cut_size)))
      ∙ ap (λ (l : List ℕ). run bytes_of (first_cuts k c) ++ l) own
      ∙ ap (λ (l : List ℕ). l ++ part 256 c (k * 256)) (cuts-bytes k)
      ∙ ap (λ (n : ℕ). part (k * 256) c 0 ++ part 256 c n) (sym (zero-add (k * 256)))
      ∙ part_join (k * 256) 256 c 0
      ∙ ap (λ (n : ℕ). part n c 0) size

-- ---- settled

settle-cuts : (c : List ℕ) (room k : ℕ) (p : Put) → settle_all c room (first_cuts k c) p ≡ settle_cuts k c room p
unfolding first_cuts settle_cuts settle_all
settle-cuts c room zero p = refl
settle-cuts c room (suc k) p =
    settle-append c room (first_cuts k c) (cut (cut_at c (k * cut_size)) ∷ []) p ∙ ap (settle_next room (cut (cut_at c (k * cut_size)))) (settle-cuts c room k p)

settle-rest : (c l : List ℕ) (room : ℕ) (p : Put) → settle_all c room (rest_of l) p ≡ settle_rest room (length l) p
unfolding rest_of settle_rest settle_all
settle-rest c [] room p = refl
settle-rest c (b ∷ bs) room p =
    sym (ap (λ (x : Bool). cond x p (settle_data room (length (b ∷ bs)) p)) (ne_eqb (length (b ∷ bs)) 0 (λ z. omega arith)))

rest-length : (c : List ℕ) → length (drop (length c / 256 * 256) c) ≡ length c % 256
rest-length c = length-drop (length c / 256 * 256) c ∙ omega arith

module _ (g : Generic) (s : Site) (t : Task) (c room : List ℕ) (gf : GenericFits g) (sf : SiteFits s) (tf : TaskFits t) (bytes : Bytes c) where
  -- our blocks, where it is so of each record and of data
  all-ours : (P : Block → Type 0) → P (generic g) → P (site s) → P (task t) → ((at : ℕ) → P (cut (cut_at c at))) → ((bs : List ℕ) → P («data» bs)) → All P (our_blocks g s t c)
  all-ours P a b d e h =
      let k = length c / 256 in
      let l = drop (length c / 256 * 256) c in
      (a, (b, (d, all_join P (first_cuts k c) (rest_of l) (all-cuts P c e k) (all_rest P h l))))

  pub our-fits : FitsAll (our_blocks g s t c)
  our-fits = all-ours Fits gf sf tf (cut_fits c bytes) (λ bs. tt)

  our-roomless : All Roomless (our_blocks g s t c)
  our-roomless = all-ours Roomless (λ r o w. refl) (λ r o w. refl) (λ r o w. refl) (λ at r o w. refl) (λ bs r o w. refl)

  pub record OursSettle : Type 0 where
    pub settles : put_of (ours g s t c room) ≡ settle_ours g s t c (length room)
    pub long : length (ours g s t c room).room ≡ length room
    pub agreed : Agreed (ours g s t c room)

  pub ours-settle : OursSettle
  unfolding settle_all
  ours-settle =
      let k = length c / 256 in
      let l = drop (length c / 256 * 256) c in
      let h = settle_head g s t (length room) in
      let r = all-settles c (our_blocks g s t c) our-fits our-roomless (beginning room) (λ e. start room) in
      record {
        settles =
            r.settles
            ∙ settle-append c (length room) (first_cuts k c) (rest_of l) h
            ∙ settle-rest c l (length room) (settle_all c (length room) (first_cuts k c) h)
            ∙ ap (settle_rest (length room) (length l)) (settle-cuts c (length room) k h)
            ∙ ap (λ (n : ℕ). settle_rest (length room) n (settle_cuts k c (length room) h)) (rest-length c);
        long = r.room;
        agreed = r.agreed;
      }

-- ---- taken, they leave no bytes behind the last whole cut record: data is never due there

unfoldable NoData : Due → Type 0
NoData due.Generic = Unit {0}
NoData due.Site = Unit {0}
NoData due.Task = Unit {0}
NoData due.Cut = Unit {0}
NoData due.Radial = Unit {0}
NoData due.Moment = Unit {0}
NoData due.Data = ⊥
NoData due.Nothing = Unit {0}

task-then : (t : Task) (w : Walk) (room : List ℕ) → (put (task t) w room).answer ≡ Taken → NoData (put (task t) w room).walk.due
unfolding take_task NoData
task-then t w room e =
    let g = taking (task t) w room e in
    subst (λ (x : Walk). NoData x.due) (settle-took _ _ _ _ g.says ∙ ap (λ (x : Outcome). x.walk) (sym g.is)) tt

cut-then : (r : Cut) (w : Walk) (room : List ℕ) → (put (cut r) w room).answer ≡ Taken → NoData (put (cut r) w room).walk.due
unfolding take_cut NoData
cut-then r w room e =
    let g = taking (cut r) w room e in
    subst (λ (x : Walk). NoData x.due) (settle-took _ _ _ _ (hoped _ _ _ _ g.says).0 ∙ ap (λ (x : Outcome). x.walk) (sym g.is))
    (due-either (λ d v. NoData d) (leb w.rest.todo 1) due.Radial due.Cut w tt tt)

cuts-then : (k : ℕ) (c : List ℕ) (o : Outcome) → NoData o.walk.due → (put_all (first_cuts k c) o).answer ≡ Taken → NoData (put_all (first_cuts k c) o).walk.due
unfolding first_cuts put_all
cuts-then zero c o d e = d
cuts-then (suc k) c o d e =
    let r = cut_at c (k * cut_size) in
    let q = put_all (first_cuts k c) o in
    let is = put-append (first_cuts k c) (cut r ∷ []) o in
    let u : (put_next (cut r) q).answer ≡ Taken = ap (λ (x : Outcome). x.answer) (sym is) ∙ e in
    let n = next-put (cut r) q (before-taken (cut r ∷ []) q u) in
    subst (λ (x : Outcome). NoData x.walk.due) (sym n ∙ sym is) (cut-then r q.walk q.room (ap (λ (x : Outcome). x.answer) (sym n) ∙ u))

rest-none : (l : List ℕ) (o : Outcome) → NoData o.walk.due → (put_all (rest_of l) o).answer ≡ Taken → l ≡ []
unfolding rest_of NoData
rest-none [] o d e = refl
rest-none (b ∷ bs) o d e =
    let f = first («data» (b ∷ bs)) [] o e in
    absurd (subst NoData ((taken-when («data» (b ∷ bs)) tt o.walk o.room).only f.taken).kind d)

-- ---- taken, they stand at the room's start

module _ (g : Generic) (s : Site) (t : Task) (c room : List ℕ) (gf : GenericFits g) (sf : SiteFits s) (tf : TaskFits t) (bytes : Bytes c)
    (taken : (ours g s t c room).answer ≡ Taken) where
  whole : drop (length c / 256 * 256) c ≡ []
  whole =
      let l = drop (length c / 256 * 256) c in
      let one = first (generic g) (site s ∷ task t ∷ cut_blocks c) (beginning room) taken in
      let o1 = put (generic g) (beginning room).walk room in
      let two = first (site s) (task t ∷ cut_blocks c) o1 one.rest in
      let o2 = put (site s) o1.walk o1.room in
      let three = first (task t) (cut_blocks c) o2 two.rest in
      let o3 = put (task t) o2.walk o2.room in
      let is = put-append (first_cuts (length c / 256) c) (rest_of l) o3 in
      let u : (put_all (rest_of l) (put_all (first_cuts (length c / 256) c) o3)).answer ≡ Taken = ap (λ (x : Outcome). x.answer) (sym is) ∙ three.rest in
      rest-none l _ (cuts-then (length c / 256) c o3 (task-then t o2.walk o2.room three.taken) (before-taken (rest_of l) _ u)) u

  own-bytes : run bytes_of (our_blocks g s t c) ≡ generic_bytes g ++ site_bytes s ++ task_bytes t ++ c
  unfolding run rest_of
  own-bytes =
      let n = sym (rest-length c) ∙ ap length whole in
      let cuts : run bytes_of (cut_blocks c) ≡ c =
      ap (λ (l : List ℕ). run bytes_of (first_cuts (length c / 256) c ++ rest_of l)) whole
      ∙ ap (run bytes_of) (append-nil (first_cuts (length c / 256) c))
      ∙ cuts-bytes c bytes (length c / 256)
      ∙ part-all (length c / 256 * 256) c (omega arith) in
      ap (λ (l : List ℕ). generic_bytes g ++ (site_bytes s ++ (task_bytes t ++ l))) cuts ∙ sym (simp append_assoc)

  own-length : length (run bytes_of (our_blocks g s t c)) ≡ cut_place 1 + length c
  own-length =
      let a = generic-trip.length-is g gf in
      let b = site-trip.length-is s sf in
      let d = task-trip.length-is t tf in
      ap length own-bytes ∙ simp length-append (omega arith)

  pub record OursTaken : Type 0 where
    pub agree : Agrees (ours g s t c room).walk (ours g s t c room).room
    pub written : written_in (ours g s t c room) ≡ generic_bytes g ++ site_bytes s ++ task_bytes t ++ c
    pub held : (ours g s t c room).room ≡ patch room 0 (generic_bytes g ++ site_bytes s ++ task_bytes t ++ c)
    pub at : (ours g s t c room).walk.at ≡ cut_place 1 + length c
    pub suffices : cut_place 1 + length c ≤ length room
    pub whole : drop (length c / 256 * 256) c ≡ []

  pub ours-taken : OursTaken
  ours-taken =
      let a = all-added (our_blocks g s t c) (our-fits g s t c room gf sf tf bytes) (beginning room) (start room) taken in
      let n = own-length in
      let at = a.at in
      let l = a.long in
      let w = a.agree.within in
      record {
        agree = a.agree;
        written = a.adds ∙ own-bytes;
        held = a.room ∙ ap (patch room 0) own-bytes;
        at = omega arith;
        suffices = omega arith;
        whole = whole;
      }

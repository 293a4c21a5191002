-- An import that is taken has brought over what `Brought` says. Assumes nothing.
use Rattle.std.proofs.Common.{◌≡◌, ℕ, zero, suc, ◌*◌, ◌/◌, ◌<◌, ◌≤◌, Bool, true, false, ◌⊎◌, List, [], ◌∷◌, ◌++◌, length, drop, sym, refl, ap, ◌∙◌, ap₂, inl, inr, ⊎_elim, append_assoc, append-nil, zero-add, arith, drop_at}
use native.Mathlib.Decide.{dec_lt}
use mathlib.Core.Logic.{dite}
use mathlib.Core.Path.{subst⁻¹}
use Rattle.le.specs.Le.{Bytes, patch, run}
use Rattle.generic.specs.declared.Generic.{Generic}
use Rattle.generic.specs.Generic.{GenericFits}
use Rattle.site.specs.declared.Site.{Site}
use Rattle.site.specs.Site.{SiteFits}
use Rattle.task.specs.declared.Task.{Task}
use Rattle.task.specs.Task.{TaskFits}
use Rattle.gates.specs.Gates.{Values}
use Rattle.gates.specs.Telling.{Telling, refused}
use Rattle.walk.specs.declared.due.Walk.{Walk}
use Rattle.walk.specs.Due.{at_start}
use Rattle.reading.specs.Step.{take_generic, take_site, take_task, take_cut}
use Rattle.reading.proofs.Counts.{counted-all}
use Rattle.reading.proofs.Run.{hoped, settle-took}
use Rattle.ask.specs.declared.answers.RadialAnswer.{RadialAnswer}
use Rattle.ask.specs.Answers.{gate_in, radial_of_file}
use Rattle.ask.specs.Growth.{gate_asked}
use Rattle.writer.specs.declared.order.Answer.{Answer}
use Rattle.writer.specs.declared.order.Answer.TheVariants.{Taken, Refused}
use Rattle.writer.specs.Block.{Block, generic, site, task, cut, radial, moment, «data», bytes_of}
use Rattle.writer.specs.Many.{beginning, put_all}
use Rattle.writer.specs.Put.{Outcome, put}
use Rattle.writer.specs.Trips.{Fits}
use Rattle.writer.proofs.Agreeing.{taking}
use Rattle.writer.proofs.Runs.{start, read_back}
use Rattle.retold.specs.Many.{All, FitsAll, written_in}
use Rattle.retold.specs.Retold.{moment_among, gate_among, moment_asked, whole_in, Retold}
use Rattle.retold.proofs.Many.{all_join, put-append, first, all-added}
use Rattle.retold.proofs.Retold.{retold}
use Rattle.old.specs.declared.codes.Quantity.{Quantity}
use Rattle.old.specs.Codes.{meaning}
use Rattle.old.specs.Headers.{gates_of, radial_from}
use Rattle.old.specs.Old.{old_at}
use Rattle.old.specs.Shelf.{shelf_ok, radials_in, radial_place}
use Rattle.old.proofs.Fitting.{old-fits}
use Rattle.shelf.specs.Brought.{type_of, old_code, Means, HeaderKeeps, MomentKeeps, RadialKeeps, Brought}
use Rattle.shelf.specs.Import.{first_cuts, rest_of, our_blocks, moments_of, old_radial, old_blocks, take_over, take_first, ours, through, refused_whole, all_or_nothing, import_of}
use Rattle.shelf.proofs.Imported.{radials, front-stands}
use Rattle.shelf.proofs.Kept.{header-keeps, count-is, moment-keeps, gate-means, no-gate, nowhere, types-apart}
use Rattle.shelf.proofs.Ours.{all-cuts, our-fits, ours-taken}
use Rattle.shelf.proofs.Over.{Standing, pairs-fit, blocks-fit-all, TakenOver, over-taking, over-added}

-- ---- no radial is whole behind our records

-- a block before the radials makes none whole
abbrev Early : Block → Type 0
Early (generic r) = Unit {0}
Early (site r) = Unit {0}
Early (task r) = Unit {0}
Early (cut r) = Unit {0}
Early (radial r) = ⊥
Early (moment r) = ⊥
Early («data» bs) = ⊥

early-whole : (b : Block) → Early b → (w : Walk) (room : List ℕ) → (put b w room).answer ≡ Taken → (put b w room).walk.count.whole ≡ w.count.whole
unfolding take_generic take_site take_task take_cut
early-whole (generic r) e w room t =
    let g = taking (generic r) w room t in ap (λ (x : Outcome). x.walk.count.whole) g.is ∙ ap (λ (x : Walk). x.count.whole) (sym (settle-took _ _ _ _ g.says))
early-whole (site r) e w room t =
    let g = taking (site r) w room t in ap (λ (x : Outcome). x.walk.count.whole) g.is ∙ ap (λ (x : Walk). x.count.whole) (sym (settle-took _ _ _ _ g.says))
early-whole (task r) e w room t =
    let g = taking (task r) w room t in ap (λ (x : Outcome). x.walk.count.whole) g.is ∙ ap (λ (x : Walk). x.count.whole) (sym (settle-took _ _ _ _ g.says))
early-whole (cut r) e w room t =
    let g = taking (cut r) w room t in
    ap (λ (x : Outcome). x.walk.count.whole) g.is ∙ ap (λ (x : Walk). x.count.whole) (sym (settle-took _ _ _ _ (hoped _ _ _ _ g.says).0))
early-whole (radial r) e w room t = absurd e
early-whole (moment r) e w room t = absurd e
early-whole («data» bs) e w room t = absurd e

all-early : (bs : List Block) → All Early bs → (o : Outcome) → (put_all bs o).answer ≡ Taken → (put_all bs o).walk.count.whole ≡ o.walk.count.whole
unfolding put_all
all-early [] e o t = refl
all-early (b ∷ bs) e o t =
    let f = first b bs o t in
    ap (λ (x : Outcome). x.walk.count.whole) f.is
    ∙ all-early bs e.1 (put b o.walk o.room) f.rest
    ∙ early-whole b e.0 o.walk o.room f.taken

-- ---- the radials, where all are taken

module _ (c f : List ℕ) (bytes : Bytes f) (o : Outcome) (h : Standing c o) where
  stands : (k : ℕ) → (take_first k f o).answer ≡ Taken → Standing c (take_first k f o)
  stands k t = (radials c f bytes o (λ e. h) k).standing t

  -- fewer are taken too, and what they have written begins what is written
  pub record Begins (k n : ℕ) : Type 0 where
    pub taken : (take_first k f o).answer ≡ Taken
    pub more : List ℕ
    pub is : written_in (take_first n f o) ≡ written_in (take_first k f o) ++ more

  all-of-them : (k n : ℕ) → k ≡ n → (take_first n f o).answer ≡ Taken → Begins k n
  all-of-them k n e t =
      subst⁻¹ (λ (i : ℕ). Begins i n) e (record { taken = t; more = []; is = sym (append-nil (written_in (take_first n f o))) })

  one_fewer : (k n : ℕ) → (take_over f (radial_place n) (take_first n f o)).answer ≡ Taken → Begins k n → Begins k (suc n)
  unfolding take_first
  one_fewer k n t b =
      let q = take_first n f o in
      let g = over-taking f (radial_place n) q t in
      let added = run bytes_of (old_blocks f (radial_place n) q.walk) in
      record {
        taken = b.taken;
        more = b.more ++ added;
        is =
            ap written_in g.is
            ∙ (over-added c f (radial_place n) bytes q t (stands n g.before)).adds
            ∙ ap (λ (l : List ℕ). l ++ added) b.is
            ∙ append_assoc (written_in (take_first k f o)) b.more added;
      }

  pub begins : (k n : ℕ) → k ≤ n → (take_first n f o).answer ≡ Taken → Begins k n
  unfolding take_first
  begins k zero l t = all-of-them k 0 (omega arith) t
  begins k (suc n) l t =
      dite (dec_lt k (suc n)) (λ e. one_fewer k n t (begins k n (omega arith) (over-taking f (radial_place n) (take_first n f o) t).before))
      (λ e. all-of-them k (suc n) (omega arith) t)

  -- the radial behind k others is put as its blocks, and is then told again
  abbrev over : ℕ → Outcome
  over k = take_over f (radial_place k) (take_first k f o)

  module _ (k : ℕ) (t : (over k).answer ≡ Taken) where
    was : TakenOver f (radial_place k) (take_first k f o) t
    was = over-taking f (radial_place k) (take_first k f o) t

    pub told-again : Retold (take_first k f o) (old_radial f (radial_place k) (take_first k f o).walk) (moments_of (old_at f (radial_place k)) f (radial_place k))
    unfolding radial_from
    told-again =
        let q = take_first k f o in
        let at = radial_place k in
        let a = (stands k was.before).agree in
        retold q (old_radial f at q.walk) (moments_of (old_at f at) f at) (blocks-fit-all c f at bytes q a).0
        (pairs-fit (old_at f at) f at (old-fits f at bytes)) (sym (count-is (old_at f at) f at)) was.all

-- so there are as many whole radials as are taken over, where there was none before
module _ (c f : List ℕ) (bytes : Bytes f) (o : Outcome) (h : Standing c o) (none : o.walk.count.whole ≡ 0) where
  counted : (k : ℕ) → (take_first k f o).answer ≡ Taken → (take_first k f o).walk.count.whole ≡ k
  unfolding take_first radial_from
  counted zero t = none
  counted (suc k) t =
      let g = was c f bytes o h k t in
      let n = counted k g.before in
      ap (λ (x : Outcome). x.walk.count.whole) g.is ∙ (told-again c f bytes o h k t).whole ∙ omega arith

  pub whole-are : (k : ℕ) → (take_first k f o).answer ≡ Taken → whole_in (take_first k f o) ≡ k
  whole-are k t =
      sym (counted-all (written_in (take_first k f o)))
      ∙ ap (λ (w : Walk). w.count.whole) (stands c f bytes o h k t).agree.stops
      ∙ counted k t

  -- each of them, in all that is written
  module _ (k n : ℕ) (l : k < n) (t : (take_first n f o).answer ≡ Taken) where
    here : Begins c f bytes o h (suc k) n
    here = begins c f bytes o h (suc k) n (omega arith) t

    taken_here : (over c f bytes o h k).answer ≡ Taken
    unfolding take_first
    taken_here = here.taken

    volume-is : written_in (take_first n f o) ≡ written_in (put_all (old_blocks f (radial_place k) (take_first k f o).walk) (take_first k f o)) ++ here.more
    unfolding take_first
    volume-is = here.is ∙ ap (λ (x : Outcome). written_in x ++ here.more) (was c f bytes o h k taken_here).is

    number_is : suc (whole_in (take_first k f o)) ≡ suc k
    number_is = ap suc (whole-are k (was c f bytes o h k taken_here).before)

    header_is : radial_of_file (written_in (take_first n f o)) (suc k) ≡ record { number = 0; place = (take_first k f o).walk.at; header = old_radial f (radial_place k) (take_first k f o).walk }
    header_is = ap₂ radial_of_file volume-is (sym number_is) ∙ (told-again c f bytes o h k taken_here).header here.more

    gate-is : (y i : ℕ) → gate_asked (written_in (take_first n f o)) (suc k) y i ≡ gate_among (moments_of (old_at f (radial_place k)) f (radial_place k)) y i
    gate-is y i = ap₂ (λ (v : List ℕ) (m : ℕ). gate_asked v m y i) volume-is (sym number_is) ∙ (told-again c f bytes o h k taken_here).gate here.more y i

    moment-is : (y : ℕ) → moment_asked (written_in (take_first n f o)) (suc k) y ≡ moment_among (moments_of (old_at f (radial_place k)) f (radial_place k)) y
    moment-is y = ap₂ (λ (v : List ℕ) (m : ℕ). moment_asked v m y) volume-is (sym number_is) ∙ (told-again c f bytes o h k taken_here).moment here.more y

    none_is : (y i : ℕ) → ((q : Quantity) → (type_of q ≡ y → ⊥) ⊎ (gates_of q (old_at f (radial_place k)) ≡ 0)) → gate_asked (written_in (take_first n f o)) (suc k) y i ≡ refused 31 0
    none_is y i none = gate-is y i ∙ nowhere (old_at f (radial_place k)) f (radial_place k) (λ x d. gate_in x d i) (refused 31 0) y none

    pub kept_here : RadialKeeps f k (written_in (take_first n f o))
    unfolding radial_from
    kept_here =
        let at = radial_place k in
        let c0 = counted k (was c f bytes o h k taken_here).before in
        record {
          there = ap (λ (x : RadialAnswer). x.number) header_is;
          sequence = ap (λ (x : RadialAnswer). x.header.sequence) header_is ∙ omega arith;
          header = subst⁻¹ (λ (x : RadialAnswer). HeaderKeeps (old_at f at) x.header) header_is (header-keeps (old_at f at) _ _ (old-fits f at bytes) (was c f bytes o h k taken_here).fine);
          moment = λ q some. subst⁻¹ MomentKeeps (moment-is (type_of q)) (moment-keeps (old_at f at) f at q some);
          gate = λ q i h. subst⁻¹ (λ (x : Telling Values). Means x (meaning q (old_at f at).resolution (old_code q f at i))) (gate-is (type_of q) i) (gate-means f at bytes q i h);
          no-gate = λ q i some h. gate-is (type_of q) i ∙ no-gate f at bytes q i some h;
          left_out = λ q i e. none_is (type_of q) i (λ p. ⊎_elim inl (λ z. inr (ap (λ (x : Quantity). gates_of x (old_at f at)) z ∙ e)) (types-apart p q));
          no_other = λ y i other. none_is y i (λ p. inl (other p));
        }

-- ---- all of it

-- what is put is put block by block
record PutAs (room : List ℕ) (o : Outcome) : Type 0 where
  blocks : List Block
  fit : FitsAll blocks
  is : o ≡ put_all blocks (beginning room)

module _ (c f room : List ℕ) (bytes : Bytes f) (o : Outcome) (h : Standing c o) (b : PutAs room o) where
  put_as : (k : ℕ) → (take_first k f o).answer ≡ Taken → PutAs room (take_first k f o)
  unfolding take_first
  put_as zero t = b
  put_as (suc k) t =
      let at = radial_place k in
      let q = take_first k f o in
      let g = over-taking f at q t in
      let r = put_as k g.before in
      let a = ((radials c f bytes o (λ e. h) k).standing g.before).agree in
      record {
        blocks = r.blocks ++ old_blocks f at q.walk;
        fit = all_join Fits r.blocks (old_blocks f at q.walk) r.fit (blocks-fit-all c f at bytes q a);
        is =
            g.is
            ∙ ap (put_all (old_blocks f at q.walk)) r.is
            ∙ sym (put-append r.blocks (old_blocks f at q.walk) (beginning room));
      }

-- behind what is put, the room is as it was
behind-all : (room bs : List ℕ) → drop (length bs) (patch room 0 bs) ≡ drop (length bs) room
unfolding patch
behind-all room bs = ap (λ (n : ℕ). drop (length bs) (bs ++ drop n room)) (zero-add (length bs)) ∙ drop_at bs (drop (length bs) room) (length bs) refl

module _ (g : Generic) (s : Site) (t : Task) (c f room : List ℕ) (gf : GenericFits g) (sf : SiteFits s) (tf : TaskFits t) (cb : Bytes c) (fb : Bytes f)
    (taken : (through g s t c f room).answer ≡ Taken) where
  abbrev n : ℕ
  n = radials_in (length f)

  abbrev o : Outcome
  o = ours g s t c room

  begun : o.answer ≡ Taken
  begun = (radials c f fb o (front-stands g s t c f room gf sf tf cb fb) n).begun taken

  stood : Standing c o
  stood = front-stands g s t c f room gf sf tf cb fb begun

  none-whole : o.walk.count.whole ≡ 0
  unfolding rest_of
  none-whole =
      let l = drop (length c / 256 * 256) c in
      let e : All Early (rest_of l) = subst⁻¹ (λ (x : List ℕ). All Early (rest_of x)) (ours-taken g s t c room gf sf tf cb begun).whole tt in
      all-early (our_blocks g s t c) (tt, (tt, (tt, all_join Early (first_cuts (length c / 256) c) (rest_of l) (all-cuts Early c (λ at. tt) (length c / 256)) e))) (beginning room) begun

  pub brought : Brought g s t c f room (through g s t c f room)
  unfolding take_first
  brought =
      let p = put_as c f room fb o stood (record { blocks = our_blocks g s t c; fit = our-fits g s t c room gf sf tf cb; is = refl }) n taken in
      let b = begins c f fb o stood 0 n (omega arith) taken in
      let agree = ((radials c f fb o (λ e. stood) n).standing taken).agree in
      let a = all-added p.blocks p.fit (beginning room) (start room) (ap (λ (x : Outcome). x.answer) (sym p.is) ∙ taken) in
      let bs = run bytes_of p.blocks in
      let end : (through g s t c f room).walk.at ≡ length bs = ap (λ (x : Outcome). x.walk.at) p.is ∙ a.at ∙ zero-add (length bs) in
      record {
        blocks = p.blocks;
        fit = p.fit;
        one_by_one = p.is;
        back = read_back (through g s t c f room).walk (through g s t c f room).room agree;
        radial-bytes = b.more;
        ours = b.is ∙ ap (λ (l : List ℕ). l ++ b.more) (ours-taken g s t c room gf sf tf cb begun).written;
        behind =
            ap₂ drop end (ap (λ (x : Outcome). x.room) p.is ∙ a.room)
            ∙ behind-all room bs
            ∙ ap (λ (i : ℕ). drop i room) (sym end);
        radials = whole-are c f fb o stood none-whole n taken;
        each = λ k l. kept_here c f fb o stood none-whole k n l taken;
      }

-- ---- an import that is taken or refused

module _ (g : Generic) (s : Site) (t : Task) (c f room : List ℕ) where
  -- it is what goes through, or a refusal whole
  data Ending : Type 0 where
    goes : import_of g s t c f room ≡ through g s t c f room → (through g s t c f room).answer ≡ Taken → Ending
    stops : (n p : ℕ) → import_of g s t c f room ≡ refused_whole n p room → Ending

  ending : Ending
  unfolding import_of all_or_nothing
  ending = go (shelf_ok (length f)) refl (through g s t c f room).answer refl
    where
      go : (x : Bool) → shelf_ok (length f) ≡ x → (y : Answer) → (through g s t c f room).answer ≡ y → Ending
      go true e Taken k = goes (rw e (ap (λ (y : Answer). all_or_nothing y (through g s t c f room) room) k)) k
      go true e (Refused n p) k = stops n p (rw e (ap (λ (y : Answer). all_or_nothing y (through g s t c f room) room) k))
      go false e y k = stops 50 0 (rw e)

  -- a refusal leaves everything as it was
  pub refused_all : (n p : ℕ) → (import_of g s t c f room).answer ≡ Refused n p → import_of g s t c f room ≡ refused_whole n p room
  refused_all n p r = go ending
    where
      go : Ending → import_of g s t c f room ≡ refused_whole n p room
      go (goes e k) =
          absurd (let x : Taken ≡ Refused n p = sym k ∙ ap (λ (o : Outcome). o.answer) (sym e) ∙ r in let z : ◌≡◌ {A = ℕ} 0 1 = cc in omega arith)
      go (stops m q e) =
          let same : Refused m q ≡ Refused n p = ap (λ (o : Outcome). o.answer) (sym e) ∙ r in
          e ∙ ap (λ (a : Answer). record { answer = a; walk = at_start; room = room }) same

  pub taken-all : GenericFits g → SiteFits s → TaskFits t → Bytes c → Bytes f → (import_of g s t c f room).answer ≡ Taken → Brought g s t c f room (import_of g s t c f room)
  taken-all gf sf tf cb fb r = go ending
    where
      go : Ending → Brought g s t c f room (import_of g s t c f room)
      go (goes e k) = subst⁻¹ (Brought g s t c f room) e (brought g s t c f room gf sf tf cb fb k)
      go (stops m q e) =
          absurd (let x : Refused m q ≡ Taken = ap (λ (o : Outcome). o.answer) (sym e) ∙ r in let z : ◌≡◌ {A = ℕ} 0 1 = cc in omega arith)

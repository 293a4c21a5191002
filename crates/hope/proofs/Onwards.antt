-- From every file whose blocks are all accepted there are bytes that complete it: block by block, each nearer to a volume's end. Assumes
-- nothing.
use Prim.Native.Nat.{ℕ, zero, suc, ◌+◌, ◌-◌, ◌*◌, ◌≤◌, ◌<◌}
use native.Mathlib.Decide.{dec_lt}
use native.Mathlib.Omega.{arith}
use mathlib.Core.Path.{◌≡◌, refl, sym, ap, subst, ◌∙◌}
use mathlib.Core.Bool.{Bool, true, false, cond}
use mathlib.Core.List.{List, [], ◌∷◌, ◌++◌, append_assoc, append-nil}
use mathlib.Core.Logic.{dite, ◌⊎◌, inl, inr}
use lib.Dec.{eqb, ltb}
use lib.ListN.{length, take, length-append}
use lib.Seq.{take_all}
use borrow.Author.Tests.{le-leb, lt-leb, ltb-true, eq-eqb, ne_eqb}
use Rattle.le.specs.Le.{Bytes}
use Rattle.walk.specs.declared.due.Due.{Due}
use Rattle.walk.specs.declared.due.Due.TheVariants as due
use Rattle.walk.specs.declared.due.Walk.{Walk}
use Rattle.walk.specs.Due.{at_start, size_at, size_of, is_end, due_if}
use Rattle.walk.specs.After.{after_generic, after_site, after_task, after_cut, after_radial, after_moment, after_data, after_data_if, closes_cut}
use Rattle.reading.specs.declared.step.Step.TheVariants as step
use Rattle.reading.specs.Step.{settle, take_generic, take_site, take_task, take_cut, take_data, cut_in, hope_after_cut, hoping, say_block, step_of}
use Rattle.reading.specs.Reading.{fuel, ending_told, stop, told}
use Rattle.reading.proofs.Run.{is-here, is-done, taken, took-hope, last-holds}
use Rattle.writer.specs.Block.{Block, generic, site, task, cut, radial, moment, «data», kind_of, says_of, fits_of, length_of, bytes_of}
use Rattle.writer.specs.Trips.{Fits}
use Rattle.writer.proofs.Ahead.{stops-next}
use Rattle.writer.proofs.Bytes.{front-all, front-last, front-before}
use Rattle.writer.proofs.EachKind.{going, long, size_is, finds, says-in}
use Rattle.writer.proofs.Places.{cut-behind}
use Rattle.hope.proofs.Was.{AllNarrow, bytes-narrow, Cutting, Stands, Inside, mask-small, Was, was-on}
use Rattle.hope.proofs.Hoped.{Within, Hoped, hoped-on}
use Rattle.hope.proofs.Back.{was-first}
use Rattle.hope.proofs.Made.{append-bytes, none-bytes, zeros, zeros-length, zeros-bytes, the_generic, the_site, the_task, the_cut, generic-fits, site-fits, task-fits, cut_fits, generic-fine, site-fine, task-fine, cut-fine, generic-bytes, site-bytes, task-bytes, cut-bytes}
use Rattle.hope.proofs.Headers.{moment-on, radial-on}

-- ---- the walk where a reading stops has hope

record Good (f : List ℕ) (w : Walk) : Type 0 where
  was : Was w.due f w
  hoped : Hoped w.due f w

good-on : (f : List ℕ) → AllNarrow f → (w m : Walk) → step_of f w ≡ step.Took m → Good f w → Good f m
good-on f small w m e g =
    let t = taken f w m e in
    record { was = was-on w.due f w m small g.was t.block; hoped = hoped-on w.due f w m g.was g.hoped (took-hope f w m e) t.block }

good-first : (f : List ℕ) → Good f at_start
unfolding Hoped
good-first f = record { was = was-first f; hoped = tt }

good-stop : (f : List ℕ) → AllNarrow f → Good f (stop f)
good-stop f small = last-holds true f (Good f) (good-on f small) (fuel f) at_start (good-first f)

-- ---- a block's bytes behind a file whose blocks are all accepted: the reading takes the block and stops behind it

pub record Ends (f : List ℕ) (w : Walk) : Type 0 where
  pub bytes : Bytes f
  pub stops : stop f ≡ w
  pub end : w.at ≡ length f

-- a block that may come there, and the walk behind it
record Comes (f : List ℕ) (w : Walk) (b : Block) (m : Walk) : Type 0 where
  fits : Fits b
  bytes : Bytes (bytes_of b)
  kind : w.due ≡ kind_of b
  whole : fits_of b w ≡ true
  says : says_of b f w ≡ step.Took m

module _ (f : List ℕ) (w m : Walk) (b : Block) (e : Ends f w) (c : Comes f w b m) where
  all : take w.at f ≡ f
  all = take_all w.at f (let x = e.end in omega arith)

  size : length_of b ≡ size_of w
  size = size_is b w c.whole ∙ ap (λ (d : Due). size_at d w.rest.length) (sym c.kind)

  reads : step_of (take w.at f ++ bytes_of b) w ≡ says_of b f w
  reads =
      let p = take w.at f ++ bytes_of b in
      let n = long b c.fits in
      let at = e.end in
      let k = c.kind in
      let s = size in
      let l : length p ≡ w.at + length_of b = length-append (take w.at f) (bytes_of b) ∙ (let z = ap length all in omega arith) in
      is-here p w (ap is_end k ∙ going b) (omega arith)
      ∙ ap (λ (x : List ℕ). say_block w.due x w) (ap (λ (i : ℕ). take (w.at + i) p) (sym s) ∙ front-all f w.at (bytes_of b) (length_of b) n (omega arith))
      ∙ ap (λ (d : Due). say_block d p w) k
      ∙ says-in (kind_of b) p f w (going b) (λ d. front-before f w.at (bytes_of b) (length_of b) n (omega arith) 256 _ (cut-behind f w e.stops (k ∙ d)))
      ∙ ap (λ (x : Block). says_of x f w) (finds b c.fits p w c.whole (front-last f w.at (bytes_of b) (length_of b) n (omega arith)))

  takes : step_of (f ++ bytes_of b) w ≡ step.Took m
  takes = ap (λ (x : List ℕ). step_of (x ++ bytes_of b) w) (sym all) ∙ reads ∙ c.says

  appended : Ends (f ++ bytes_of b) m
  appended =
      let at = e.end in
      let n = long b c.fits in
      let s = size in
      let t = (taken (f ++ bytes_of b) w m takes).end in
      let l : m.at ≡ length (f ++ bytes_of b) = let z = length-append f (bytes_of b) in omega arith in
      record { bytes = append-bytes f (bytes_of b) e.bytes c.bytes; stops = stops-next f (bytes_of b) w m e.stops takes l; end = l }

-- ---- how far it is to the end: radials that must still come, then moments, then data

abbrev far : Due → Walk → ℕ
far due.Generic w = 1002
far due.Site w = 1001
far due.Task w = 1000
far due.Cut w = 400 * w.plan.cuts + w.rest.todo
far due.Radial w = 200 * (cond (eqb w.count.in_cut 0) 2 1 + 2 * (w.plan.cuts - w.count.cut))
far due.Moment w = 200 * (cond (closes_cut w) 0 1 + 2 * (w.plan.cuts - w.count.cut)) + 2 * w.rest.todo
far due.Data w = 200 * (cond (closes_cut w) 0 1 + 2 * (w.plan.cuts - w.count.cut)) + 2 * w.rest.todo + 1
far due.Nothing w = 0

-- a block that may come, behind which it is less far
record Next (d : Due) (f : List ℕ) (w : Walk) : Type 0 where
  block : Block
  after : Walk
  comes : Comes f w block after
  nearer : far after.due after < far d w

module _ (f : List ℕ) (w : Walk) where
  next-generic : w.due ≡ due.Generic → Next due.Generic f w
  unfolding take_generic settle
  next-generic d =
      record { block = generic the_generic; after = after_generic w (w.at + 32); comes = record { fits = generic-fits; bytes = generic-bytes; kind = d; whole = refl; says = rw generic-fine }; nearer = omega arith }

  next-site : w.due ≡ due.Site → Next due.Site f w
  unfolding take_site settle
  next-site d = record { block = site the_site; after = after_site w (w.at + 128); comes = record { fits = site-fits; bytes = site-bytes; kind = d; whole = refl; says = rw site-fine }; nearer = omega arith }

  next-task : w.due ≡ due.Task → Next due.Task f w
  unfolding take_task settle
  next-task d = record { block = task the_task; after = after_task 0 1 w (w.at + 256); comes = record { fits = task-fits; bytes = task-bytes; kind = d; whole = refl; says = rw task-fine }; nearer = omega arith }

  next-cut : w.due ≡ due.Cut → Cutting f w → Next due.Cut f w
  unfolding take_cut settle hope_after_cut hoping due_if
  next-cut d i =
      record {
        block = cut the_cut;
        after = after_cut w (w.at + 256);
        comes = record { fits = cut_fits; bytes = cut-bytes; kind = d; whole = refl; says = rw cut-fine };
        nearer =
            let s = i.some in
            let m = i.most in
            let z : eqb w.count.in_cut 0 ≡ true = eq-eqb w.count.in_cut 0 i.fresh.in_cut in
            dite (dec_lt 1 w.rest.todo) (λ t. rw (lt-leb w.rest.todo 1 t) (omega arith)) (λ t. rw (le-leb w.rest.todo 1 (omega arith), z) (omega arith));
      }

  next-radial : w.due ≡ due.Radial → Stands f w → Hoped due.Radial f w → Next due.Radial f w
  unfolding Hoped closes_cut
  next-radial d i h =
      let c = cut_in f w in
      let l = i.last in
      let m = i.few in
      let o = radial-on c w (h.0 w.count.cut i.first i.last) (i.narrow w.count.cut i.first i.last) (omega arith) h.1 in
      let r = o.header in
      let one = o.one in
      let z = o.nearer in
      record {
        block = radial r;
        after = after_radial r c.moments_mask c.size_mask w (w.at + 64);
        comes = record { fits = o.fits; bytes = o.bytes; kind = d; whole = refl; says = o.says };
        nearer = omega arith;
      }

  next-moment : w.due ≡ due.Moment → Inside f w → 1 ≤ w.rest.todo → Within f w → Next due.Moment f w
  unfolding closes_cut
  next-moment d i some h =
      let o = moment-on w (mask-small f w i) some h.moments in
      let r = o.header in
      record {
        block = moment r;
        after = after_moment r w (w.at + 32);
        comes = record { fits = o.fits; bytes = o.bytes; kind = d; whole = refl; says = o.says };
        nearer = omega arith;
      }

  -- data, by what follows it
  nearer-data : (more closes later : Bool) (end : ℕ) → ltb 0 w.rest.todo ≡ more → closes_cut w ≡ closes → ltb w.count.cut w.plan.cuts ≡ later → 1 ≤ w.count.in_cut
      → far (after_data_if more closes later w end).due (after_data_if more closes later w end) < far due.Data w
  unfolding due_if closes_cut
  nearer-data true closes later end t c l i = omega arith
  nearer-data false true true end t c l i =
      let k = ltb-true w.count.cut w.plan.cuts l in
      let z : ◌≡◌ {A = ℕ} (cond (closes_cut w) 0 1) 0 = ap {B = ℕ} (λ (b : Bool). cond b 0 1) c in
      omega arith
  nearer-data false true false end t c l i = omega arith
  nearer-data false false later end t c l i =
      let z : ◌≡◌ {A = ℕ} (cond (closes_cut w) 0 1) 1 = ap {B = ℕ} (λ (b : Bool). cond b 0 1) c in
      let y : ◌≡◌ {A = ℕ} (cond (eqb w.count.in_cut 0) 2 1) 1 = ap {B = ℕ} (λ (b : Bool). cond b 2 1) (ne_eqb w.count.in_cut 0 (λ e. omega arith)) in
      omega arith

  next-data : w.due ≡ due.Data → Inside f w → Next due.Data f w
  unfolding take_data after_data
  next-data d i =
      let n = w.rest.length in
      record {
        block = «data» (zeros n);
        after = after_data w (w.at + n);
        comes = record { fits = tt; bytes = zeros-bytes n; kind = d; whole = eq-eqb (length (zeros n)) n (zeros-length n); says = refl };
        nearer = nearer-data (ltb 0 w.rest.todo) (closes_cut w) (ltb w.count.cut w.plan.cuts) (w.at + n) refl refl refl i.numbered;
      }

next-on : (d : Due) (f : List ℕ) (w : Walk) → w.due ≡ d → Was d f w → Hoped d f w → (is_end w.due ≡ true) ⊎ Next d f w
unfolding is_end Was Hoped
next-on due.Generic f w e i h = inr (next-generic f w e)
next-on due.Site f w e i h = inr (next-site f w e)
next-on due.Task f w e i h = inr (next-task f w e)
next-on due.Cut f w e i h = inr (next-cut f w e i)
next-on due.Radial f w e i h = inr (next-radial f w e i h)
next-on due.Moment f w e i h = inr (next-moment f w e i.0 i.1 h)
next-on due.Data f w e i h = inr (next-data f w e i)
next-on due.Nothing f w e i h = inl (ap is_end e)

-- ---- and so on to the end

pub record Finish (f : List ℕ) : Type 0 where
  pub more : List ℕ
  pub bytes : Bytes more
  pub complete : told (f ++ more) ≡ 0 ∷ []

finish : (n : ℕ) (f : List ℕ) (w : Walk) → Ends f w → far w.due w < n → Finish f
unfolding ending_told
finish zero f w e h = absurd (omega arith)
finish (suc n) f w e h = go (next-on w.due f w refl g.was g.hoped) (λ v x. finish n v x)
  where
    g : Good f w
    g = subst (Good f) e.stops (good-stop f (bytes-narrow f e.bytes))

    go : (is_end w.due ≡ true) ⊎ Next w.due f w → ((v : List ℕ) (x : Walk) → Ends v x → far x.due x < n → Finish v) → Finish f
    go (inl d) later =
        let a = e.end in
        record {
          more = [];
          bytes = none-bytes;
          complete = ap told (append-nil f) ∙ ap (λ (v : Walk). ending_told (step_of f v)) e.stops ∙ ap ending_told (is-done true f w d (omega arith));
        }
    go (inr s) later =
        let b = bytes_of s.block in
        let k = s.nearer in
        let r = later (f ++ b) s.after (appended f w s.after s.block e s.comes) (omega arith) in
        record { more = b ++ r.more; bytes = append-bytes b r.more s.comes.bytes r.bytes; complete = ap told (sym (append_assoc f b r.more)) ∙ r.complete }

-- the second half: a file whose blocks are all accepted has bytes that complete it
pub completes : (f : List ℕ) → Bytes f → (stop f).at ≡ length f → Finish f
completes f bs e = finish (suc (far (stop f).due (stop f))) f (stop f) (record { bytes = bs; stops = refl; end = e }) (omega arith)

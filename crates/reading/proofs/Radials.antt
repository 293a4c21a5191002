-- Every stretch that a walk passes is a whole radial: its header was accepted, and its moments tile it. The walk from a
-- radial's header to its last data is followed step by step, and what is shown of one radial holds of each. Assumes nothing.
use Prim.Native.Nat.{ℕ, zero, suc, ◌+◌, ◌-◌, ◌*◌, ◌%◌, ◌<◌, ◌≤◌}
use native.Mathlib.Omega.{arith}
use mathlib.Core.Path.{◌≡◌, refl, sym, ap, subst, ◌∙◌}
use mathlib.Core.Bool.{Bool, true, false, not, ◌&&◌}
use mathlib.Core.List.{List, [], ◌∷◌}
use lib.Dec.{eqb, leb, ltb}
use lib.IntN.{pos}
use lib.ListN.{length, take, length-take, length-drop}
use borrow.Author.Tests.{eqb-true, eqb-false, leb-true, leb-false}
use Rattle.le.specs.Le.{int}
use Rattle.le.proofs.Laws.{part-take}
use Rattle.le.proofs.Tests.{both}
use Rattle.rules.specs.Masks.{with_bit}
use Rattle.rules.specs.Tiling.{tiles, length_clauses}
use Rattle.rules.specs.Ranges.{among}
use Rattle.std.specs.Prelude.{Ok}
use Rattle.moment.specs.declared.Moment.{Moment}
use Rattle.moment.specs.declared.MomentDue.{MomentDue}
use Rattle.radial.specs.declared.Radial.{Radial}
use Rattle.moment.specs.Moment.{moment_of, moment_at, moment_check, moment_rules}
use Rattle.radial.specs.Radial.{radial_of, radial_at, radial_check, radial_rules}
use Rattle.radial.proofs.Header.{header}
use Rattle.rules.proofs.Judged.{all_hold}
use Rattle.walk.specs.declared.due.Due.{Due}
use Rattle.walk.specs.declared.due.Due.TheVariants as due
use Rattle.walk.specs.declared.due.Walk.{Walk}
use Rattle.reading.specs.declared.Stretch.{Stretch}
use Rattle.reading.specs.declared.Onward.{Onward}
use Rattle.reading.specs.declared.Onward.TheVariants.{Whole, Stopped}
use Rattle.reading.specs.declared.step.Step.TheVariants.{Took}
use Rattle.walk.specs.Due.{size_at, due_if, ends_radial, radial_due, at_start}
use Rattle.walk.specs.After.{closes_cut, after_radial, after_moment}
use Rattle.reading.specs.Step.{take_generic, take_site, take_task, take_cut, take_radial, take_moment, take_data, cut_in, block_at, step_of}
use Rattle.reading.specs.Reading.{fuel, stretch, trace, stretches, advance_if, on_to, advance_of, bytes_of}
use Rattle.reading.specs.Tiling.{due_with, Tiled, none, more, WholeRadial, AllWhole}
use Rattle.reading.proofs.Loops.{further, no_more}
use Rattle.reading.proofs.Run.{settle-fine, settle-took, data_then, took_more, took-last, due-either, ends-data, left, taken, run_holds, enough}

-- ---- a block is the same in the file and in the part of it that ends with the block

radial-same : (f : List ℕ) (at : ℕ) → radial_at (take (at + 64) f) at ≡ radial_at f at
unfolding radial_at
radial-same f at = ap radial_of (part-take 64 f at (at + 64) (omega arith))

moment-same : (f : List ℕ) (at : ℕ) → moment_at (take (at + 32) f) at ≡ moment_at f at
unfolding moment_at
moment-same f at = ap moment_of (part-take 32 f at (at + 32) (omega arith))

-- ---- what a walk still has before it, up to the end of the radial that becomes whole next

pub record Inside (f : List ℕ) (w : Walk) (s : Stretch) (k at : ℕ) : Type 0 where
  pub start : s.start ≡ w.present.start
  pub cut : s.cut ≡ w.count.cut
  pub end : at ≤ s.end
  pub rest : Tiled f w.present.mask w.present.sizes w.rest.seen w.rest.left k at s.end

pub record Outside (f : List ℕ) (w : Walk) (s : Stretch) : Type 0 where
  pub from : w.at ≤ s.start
  pub end : s.start + 64 ≤ s.end
  pub whole : WholeRadial f s

unfoldable Before : Due → List ℕ → Walk → Stretch → Type 0
Before due.Generic f w s = Outside f w s
Before due.Site f w s = Outside f w s
Before due.Task f w s = Outside f w s
Before due.Cut f w s = Outside f w s
Before due.Radial f w s = Outside f w s
Before due.Moment f w s = 1 ≤ w.rest.todo → Inside f w s w.rest.todo w.at
Before due.Data f w s = Inside f w s w.rest.todo (w.at + w.rest.length)
Before due.Nothing f w s = Outside f w s

out-back : (f : List ℕ) (w m : Walk) (s : Stretch) → w.at ≤ m.at → Outside f m s → Outside f w s
out-back f w m s h o = let a = o.from in record { from = omega arith; end = o.end; whole = o.whole }

out-if : (b : Bool) (f : List ℕ) (m : Walk) (s : Stretch) → Before (due_if b due.Radial due.Cut) f m s → Outside f m s
unfolding Before due_if
out-if true f m s o = o
out-if false f m s o = o

-- one moment more in front of those that tile
pub tile-more : (f : List ℕ) (mask sizes seen left todo at end : ℕ) (h : Moment) → h ≡ moment_at f at → 1 ≤ todo
    → moment_check h (due_with mask sizes seen left todo) ≡ (Ok tt)
    → Tiled f mask sizes (with_bit seen h.data_type) (left - (32 + h.length)) (todo - 1) (at + 32 + h.length) end
    → Tiled f mask sizes seen left todo at end
tile-more f mask sizes seen left zero at end h e t g r = absurd (omega arith)
tile-more f mask sizes seen left (suc k) at end h e t g r =
    let one : suc k - 1 ≡ k = omega arith in
    more (ap (λ (x : Moment). moment_check x (due_with mask sizes seen left (suc k))) (sym e) ∙ g)
    (subst (λ (x : Moment). Tiled f mask sizes (with_bit seen x.data_type) (left - (32 + x.length)) k (at + 32 + x.length) end) e (rw one at r))

-- what lies before a walk, from what lies before the next
module _ (f : List ℕ) (w m : Walk) (s : Stretch) (later : Before m.due f m s) where
  moved : (x : Walk) → x ≡ m → Before x.due f x s
  moved x e = subst (λ (y : Walk). Before y.due f y s) (sym e) later

  back-radial : take_radial (radial_at (take (w.at + 64) f) w.at) (cut_in (take (w.at + 64) f) w) w ≡ Took m → Outside f w s
  unfolding take_radial radial_check Before
  back-radial e =
      let r = radial_at (take (w.at + 64) f) w.at in
      let c = cut_in (take (w.at + 64) f) w in
      let g = settle-fine _ _ _ m e in
      let h = all_hold (radial_rules r (radial_due w)) g in
      let k = (header r (radial_due w) h).some in
      let i = moved (after_radial r c.moments_mask c.size_mask w (w.at + 64)) (settle-took _ _ _ m e) k in
      let same : r ≡ radial_at f s.start = radial-same f w.at ∙ ap (radial_at f) (sym i.start) in
      let st = i.start in
      let en = i.end in
      record {
        from = omega arith;
        end = omega arith;
        whole =
            record {
              against = radial_due w;
              cut = i.cut;
              header = ap (λ (x : Radial). radial_check x (radial_due w)) (sym same) ∙ g;
              mask = c.moments_mask;
              sizes = c.size_mask;
              moments =
                  subst (λ (x : Radial). Tiled f c.moments_mask c.size_mask 0 x.length_of_data x.moment_number (s.start + 64) s.end) same
                  (subst (λ (a : ℕ). Tiled f c.moments_mask c.size_mask 0 r.length_of_data r.moment_number (a + 64) s.end) (sym st) i.rest);
            };
      }

  back-moment : take_moment (moment_at (take (w.at + 32) f) w.at) w ≡ Took m → 1 ≤ w.rest.todo → Inside f w s w.rest.todo w.at
  unfolding take_moment Before
  back-moment e t =
      let h = moment_at (take (w.at + 32) f) w.at in
      let g = settle-fine _ _ _ m e in
      let i = moved (after_moment h w (w.at + 32)) (settle-took _ _ _ m e) in
      let same : h ≡ moment_at f w.at = moment-same f w.at in
      let en = i.end in
      record {
        start = i.start;
        cut = i.cut;
        end = omega arith;
        rest = tile-more f _ _ _ _ w.rest.todo w.at s.end h same t g i.rest;
      }

  back-data : take_data w ≡ Took m → 0 < w.rest.todo → Inside f w s w.rest.todo (w.at + w.rest.length)
  unfolding Before due_if
  back-data e t =
      let i = moved (data_then true w) (took_more w m t e) (omega arith) in
      record { start = i.start; cut = i.cut; end = i.end; rest = i.rest }

  back : (d : Due) → block_at d (take (w.at + size_at d w.rest.length) f) w ≡ Took m → m.at ≡ w.at + size_at d w.rest.length
      → ends_radial d w.rest.todo ≡ false → Before d f w s
  unfolding block_at take_generic take_site take_task take_cut size_at ends_radial Before
  back due.Generic e a t = out-back f w _ s (omega arith) (moved _ (settle-took _ _ _ m e))
  back due.Site e a t = out-back f w _ s (omega arith) (moved _ (settle-took _ _ _ m e))
  back due.Task e a t = out-back f w _ s (omega arith) (moved _ (settle-took _ _ _ m e))
  back due.Cut e a t = out-back f w _ s (omega arith) (out-if _ f _ s (moved _ (settle-took _ _ _ m e)))
  back due.Radial e a t = back-radial e
  back due.Moment e a t = back-moment e
  back due.Data e a t = back-data e (let n = eqb-false w.rest.todo 0 t in omega arith)
  back due.Nothing e a t = absurd (let z : ◌≡◌ {A = ℕ} 0 1 = cc in omega arith)

-- at a radial's last data, its stretch ends where the data do
ends : (d : Due) (f : List ℕ) (w m : Walk) → m.at ≡ w.at + size_at d w.rest.length → ends_radial d w.rest.todo ≡ true → Before d f w (stretch w m)
unfolding ends_radial size_at Before
ends d f w m a t =
    let is-data = ends-data d w.rest.todo t in
    let last : m.at ≡ w.at + w.rest.length = rw is-data at a in
    let zero_left : w.rest.todo ≡ 0 = eqb-true w.rest.todo 0 (rw is-data at t) in
    rw is-data (record { start = refl; cut = refl; end = omega arith; rest = rw (zero_left, last) none })

-- ---- a walk between radials

unfoldable pub Between : Due → Type 0
Between due.Generic = Unit {0}
Between due.Site = Unit {0}
Between due.Task = Unit {0}
Between due.Cut = Unit {0}
Between due.Radial = Unit {0}
Between due.Moment = ⊥
Between due.Data = ⊥
Between due.Nothing = Unit {0}

before-out : (d : Due) (f : List ℕ) (w : Walk) (s : Stretch) → Between d → Before d f w s → Outside f w s
unfolding Between Before
before-out due.Generic f w s b o = o
before-out due.Site f w s b o = o
before-out due.Task f w s b o = o
before-out due.Cut f w s b o = o
before-out due.Radial f w s b o = o
before-out due.Moment f w s b o = absurd b
before-out due.Data f w s b o = absurd b
before-out due.Nothing f w s b o = o

between-data : (d : Due) (p : List ℕ) (w m : Walk) → block_at d p w ≡ Took m → ends_radial d w.rest.todo ≡ true → Between m.due
unfolding block_at ends_radial Between due_if
between-data d p w m e t =
    let is-data = ends-data d w.rest.todo t in
    let none_left : w.rest.todo ≡ 0 = eqb-true w.rest.todo 0 (rw is-data at t) in
    subst (λ (x : Walk). Between x.due) (took-last w m none_left (rw is-data at e)) (due-either (λ d x. Between d) (closes_cut w && not (ltb w.count.cut w.plan.cuts)) due.Nothing due.Radial w tt tt)

-- ---- along a run: what lies before a walk whose advance comes to a whole radial, and where that leaves the next walk

abbrev Leads : List ℕ → Walk → Onward → Type 0
Leads f w (Whole s n) = Before w.due f w s × Between n.due
Leads f w (Stopped v) = Unit {0}

leads-step : (f : List ℕ) (w m : Walk) (b : Bool) (o : Onward) → step_of f w ≡ Took m → ends_radial w.due w.rest.todo ≡ b → Leads f m o → Leads f w (advance_if b w m o)
unfolding advance_if
leads-step f w m true o e p r = let t = taken f w m e in (ends w.due f w m t.end p, between-data w.due _ w m t.block p)
leads-step f w m false (Whole s n) e p r = let t = taken f w m e in (back f w m s r.0 w.due t.block t.end p, r.1)
leads-step f w m false (Stopped v) e p r = tt

leads : (f : List ℕ) (w : Walk) (s : Stretch) (n : Walk) → advance_of f w ≡ Whole s n → Leads f w (Whole s n)
leads f w s n e =
    subst (Leads f w) e
    (run_holds true (λ v. Stopped v) on_to f (Leads f) (λ v. tt) (λ v m o q. leads-step f v m (ends_radial v.due v.rest.todo) o q refl) (fuel f) w)

-- from between radials, an advance comes to a whole radial that starts at or after the walk's place
pub outside : (f : List ℕ) (w : Walk) (s : Stretch) (n : Walk) → Between w.due → advance_of f w ≡ Whole s n → Outside f w s
outside f w s n b e = before-out w.due f w s b (leads f w s n e).0

pub between_next : (f : List ℕ) (w : Walk) (s : Stretch) (n : Walk) → advance_of f w ≡ Whole s n → Between n.due
between_next f w s n e = (leads f w s n e).1

-- ---- what holds of no stretch, and of a whole radial with others behind it if of those, holds of a file's stretches

module _ (f : List ℕ) (P : List Stretch → Type 0) (none : P []) (one : (w : Walk) (s : Stretch) (ss : List Stretch) → Outside f w s → s.end ≤ length f → P ss → P (s ∷ ss)) where
  each_from : (k : ℕ) (w : Walk) → left f w < k → Between w.due → P (trace (fuel f) f w)
  each_from zero w h b = absurd (omega arith)
  each_from (suc k) w h b = go (advance_of f w) refl (each_from k)
    where
      go : (a : Onward) → advance_of f w ≡ a → ((n : Walk) → left f n < k → Between n.due → P (trace (fuel f) f n)) → P (trace (fuel f) f w)
      go (Stopped v) e r = rw (no_more f w v e) none
      go (Whole s n) e r =
          let x = further f w s n e in
          let l = x.less in
          let i = x.within in
          rw x.more (one w s _ (outside f w s n b e) (rw x.end i) (r n (omega arith) (between_next f w s n e)))

  pub each-radial : P (stretches f)
  unfolding Between
  each-radial = each_from (fuel f) at_start (enough f at_start) tt

-- every stretch of a file is a whole radial
pub all_whole : (f : List ℕ) → AllWhole f (stretches f)
all_whole f = each-radial f (AllWhole f) tt (λ w s ss o h r. (o.whole, r))

-- ---- what a whole radial's header says: its cut, and where the radial ends

-- a moment that keeps its rules fits in what is left, and the last leaves nothing
fits-left : (h : Moment) (d : MomentDue) → moment_check h d ≡ (Ok tt) → (32 + h.length ≤ d.left) × (d.todo ≤ 1 → 32 + h.length ≡ d.left)
unfolding moment_check length_clauses tiles
fits-left h d e = go (leb d.todo 1) refl
  where
    well : tiles d.todo d.left h.length ≡ true
    well = (both (among (pos 1) (pos 32768) (int h.length) && eqb (h.length % h.bin_length) 0) (tiles d.todo d.left h.length) (all_hold (moment_rules h d) e).1.1.1.1.0).1

    go : (b : Bool) → leb d.todo 1 ≡ b → (32 + h.length ≤ d.left) × (d.todo ≤ 1 → 32 + h.length ≡ d.left)
    go true q = let k = eqb-true (32 + h.length) d.left (rw q at well) in (omega arith, λ few. k)
    go false q =
        let k = leb-true (32 + h.length + 33 * (d.todo - 1)) d.left (rw q at well) in
        let g = leb-false d.todo 1 q in
        (omega arith, λ few. absurd (omega arith))

-- so moments that tile end where the bytes left for them do
tiled-end : (f : List ℕ) (mask sizes seen left todo at end : ℕ) → Tiled f mask sizes seen left todo at end → 1 ≤ todo → end ≡ at + left
tiled-end f mask sizes seen left zero at end t h = absurd (omega arith)
tiled-end f mask sizes seen left (suc zero) at end (more g none) h = let l = (fits-left (moment_at f at) _ g).1 (omega arith) in omega arith
tiled-end f mask sizes seen left (suc (suc k)) at end (more g r) h =
    let l = (fits-left (moment_at f at) _ g).0 in
    let e = tiled-end f mask sizes (with_bit seen (moment_at f at).data_type) (left - (32 + (moment_at f at).length)) (suc k) (at + 32 + (moment_at f at).length) end r (omega arith) in
    omega arith

pub record Said (f : List ℕ) (s : Stretch) : Type 0 where
  pub cut : s.cut ≡ (radial_at f s.start).elevation_number
  pub end : s.end ≡ s.start + 64 + (radial_at f s.start).length_of_data

pub said : (f : List ℕ) (s : Stretch) → WholeRadial f s → Said f s
unfolding radial_check
said f s x =
    let h = header (radial_at f s.start) x.against (all_hold (radial_rules (radial_at f s.start) x.against) x.header) in
    record {
      cut = x.cut ∙ sym h.elevation;
      end = tiled-end f _ _ _ _ _ _ _ x.moments h.some;
    }

-- what lies in a stretch's bytes lies in the file
pub in-file : (f : List ℕ) (s : Stretch) (n : ℕ) → 0 < n → n ≤ length (bytes_of f s) → s.start + n ≤ length f
in-file f s n some h = omega (arith, simp (length-take, length-drop) at h)

-- Hope is what reading asks for: the two halves joined, and what reading tells against what the plain reading tells. Assumes nothing.
use Prim.Native.Nat.{ℕ, ◌+◌, ◌-◌, ◌≤◌, ◌<◌}
use native.Mathlib.Omega.{arith}
use mathlib.Core.Path.{◌≡◌, refl, sym, ap, subst, subst⁻¹, ◌∙◌}
use mathlib.Core.Bool.{true, false}
use mathlib.Core.List.{List, [], ◌∷◌, ◌++◌, append_assoc, append-nil}
use mathlib.Core.Logic.{◌↔◌, ◌⊎◌, inl, inr}
use lib.ListN.{length, take, drop, length-append, take-append-drop}
use lib.Seq.{take-take, take-add, length-take-le, take-append-le}
use Rattle.le.specs.Le.{Bytes}
use Rattle.le.proofs.Here.{drop-bytes}
use Rattle.le.proofs.Laws.{middle-bytes}
use Rattle.walk.specs.declared.due.Due.{Due}
use Rattle.walk.specs.declared.due.Due.TheVariants as due
use Rattle.walk.specs.declared.due.Walk.{Walk}
use Rattle.walk.specs.Due.{at_start, size_at, size_of}
use Rattle.reading.specs.declared.Stretch.{Stretch}
use Rattle.reading.specs.declared.step.Step.{Step}
use Rattle.reading.specs.declared.step.Step.TheVariants.{Took, Open, Refused, Complete}
use Rattle.reading.specs.Step.{hope_at, plainly, say_block, step_by, plain_step, step_of}
use Rattle.reading.specs.Reading.{last_by, last, fuel, stretch_of, trace_by, ending_told, plain_stop, plain_stretches, plain_told, stop, ending, stretches, told}
use Rattle.reading.proofs.Run.{Asked, asks, is-here, to-plain, took-hope, taken, plain-taken, Stays, run-stops, run-stays, run_step, last-holds, last_off, enough}
use Rattle.reading.proofs.Run as run
use Rattle.reading.proofs.Growing.{stretch-append, through, rests}
use Rattle.reading.proofs.Grown.{grows}
use Rattle.writer.proofs.Ahead.{stops-next}
use Rattle.writer.proofs.Runs as writing
use Rattle.volume.specs.InPlace.{AllInPlace}
use Rattle.volume.proofs.Accepts.{holds}
use Rattle.volume.proofs.Meaning.{reads}
use Rattle.volume.proofs.Placed as placed
use Rattle.hope.specs.Hope.{Hope, Begins, Reached, start, next, Tested, Lost, Against, same, lost, ReadAlike}
use Rattle.hope.proofs.Was.{bytes-narrow}
use Rattle.hope.proofs.Back.{with-hope, no_block, complete-told}
use Rattle.hope.proofs.Made.{append-bytes}
use Rattle.hope.proofs.Onwards.{completes}

-- ---- complete by the reading is complete by the plain one

-- the plain step where the reading's takes no block: it says the same, or takes a block behind which no hope is left
data Beside (f : List ℕ) (w : Walk) : Type 0 where
  alike : step_of f w ≡ plain_step f w → Beside f w
  past : (m : Walk) → hope_at w.due (take (w.at + size_of w) f) w ≡ false → plain_step f w ≡ Took m → step_of f w ≡ Refused 40 w.at → Beside f w

beside : (f : List ℕ) (w : Walk) → Beside f w
unfolding step_by
beside f w = go (asks (hope_at w.due (take (w.at + size_of w) f) w) w.at (plainly f w))
  where
    go : Asked (hope_at w.due (take (w.at + size_of w) f) w) w.at (plainly f w) → Beside f w
    go (run.same e) = alike e
    go (run.lost m l t e) = past m l t e

-- only a block of 32 bytes or more can end hope
hope-size : (d : Due) (p : List ℕ) (w : Walk) (n : ℕ) → hope_at d p w ≡ false → 32 ≤ size_at d n
unfolding hope_at size_at
hope-size due.Generic p w n e = omega arith
hope-size due.Site p w n e = omega arith
hope-size due.Task p w n e = omega arith
hope-size due.Cut p w n e = omega arith
hope-size due.Radial p w n e = omega arith
hope-size due.Moment p w n e = omega arith
hope-size due.Data p w n e = absurd (let z : ◌≡◌ {A = ℕ} 0 1 = cc in omega arith)
hope-size due.Nothing p w n e = absurd (let z : ◌≡◌ {A = ℕ} 0 1 = cc in omega arith)

-- the reading stops at v, at a block behind which no hope is left
record Past (f : List ℕ) (v : Walk) : Type 0 where
  next : Walk
  none : hope_at v.due (take (v.at + size_of v) f) v ≡ false
  taken : plain_step f v ≡ Took next
  refused : step_of f v ≡ Refused 40 v.at
  bytes : v.at < next.at

-- from w on the reading stops at v: there the plain one stops too, or it goes on; it has passed the same stretches and perhaps more
record Way (f : List ℕ) (w v : Walk) : Type 0 where
  rest : List Stretch
  stretches : trace_by false (fuel f) f w ≡ trace_by true (fuel f) f w ++ rest
  stops : ((v ≡ last_by false (fuel f) f w) × (rest ≡ [])) ⊎ ((x : Past f v) × (x.next.at ≤ (last_by false (fuel f) f w).at))

way : (f : List ℕ) → Way f at_start (stop f)
way f = run-stops true (λ v. v) (λ v n r. r) f (Way f) stopped stepped (fuel f) at_start (enough f at_start)
  where
    stopped : (w : Walk) → Stays (step_of f w) → Way f w w
    stopped w h = go (beside f w)
      where
        mine : trace_by true (fuel f) f w ≡ []
        mine = run-stays true (λ v. []) stretch_of (fuel f) f w h

        go : Beside f w → Way f w w
        go (alike e) =
            let k = subst Stays e h in
            record {
              rest = [];
              stretches = run-stays false (λ v. []) stretch_of (fuel f) f w k ∙ sym (append-nil (trace_by true (fuel f) f w) ∙ mine);
              stops = inl (sym (run-stays false (λ v. v) (λ v n r. r) (fuel f) f w k), refl);
            }
        go (past m l t e) =
            let z = hope-size w.due _ w w.rest.length l in
            let a = (plain-taken f w m t).end in
            let p = run_step false (λ v. v) (λ v n r. r) (fuel f) f w m (enough f w) t in
            let o = last-holds false f (λ v. m.at ≤ v.at) (λ v n q h. let x = (plain-taken f v n q).end in omega arith) (fuel f) m (omega arith) in
            record {
              rest = trace_by false (fuel f) f w;
              stretches = ap (λ (l : List Stretch). l ++ trace_by false (fuel f) f w) (sym mine);
              stops = inr (record { next = m; none = l; taken = t; refused = e; bytes = omega arith }, rw p o);
            }

    stepped : (w m v : Walk) → step_of f w ≡ Took m → Way f m v → Way f w v
    stepped w m v e r =
        let t = to-plain true f w m e in
        let p = run_step false (λ v. v) (λ v n r. r) (fuel f) f w m (enough f w) t in
        record {
          rest = r.rest;
          stretches =
              run_step false (λ v. []) stretch_of (fuel f) f w m (enough f w) t
              ∙ ap (stretch_of w m) r.stretches
              ∙ stretch-append _ w m (trace_by true (fuel f) f m) r.rest
              ∙ ap (λ (l : List Stretch). l ++ r.rest) (sym (run_step true (λ v. []) stretch_of (fuel f) f w m (enough f w) e));
          stops = rw p r.stops;
        }

-- ---- the walks that reading reaches are where the reading of a file's front stops

module _ (f : List ℕ) where
  -- the step at a file's front, up to the end of the block that is taken
  front-step : (w m : Walk) → step_of f w ≡ Took m → step_of (take m.at f) w ≡ Took m
  front-step w m e =
      let t = taken f w m e in
      let n = w.at + size_of w in
      let l = length-take-le n f t.room in
      ap (λ (k : ℕ). step_of (take k f) w) t.end
      ∙ is-here (take n f) w t.going (omega arith)
      ∙ ap (λ (p : List ℕ). say_block w.due p w) (take-take n n f (omega arith))
      ∙ sym (is-here f w t.going t.room)
      ∙ e

  record Stops (w : Walk) : Type 0 where
    within : w.at ≤ length f
    stops : stop (take w.at f) ≡ w

  reached-stops : {w : Walk} → Reached f w → Stops w
  reached-stops start = record { within = omega arith; stops = (writing.start f).stops }
  reached-stops (next {w} {m} r e) =
      let s = reached-stops r in
      let t = taken f w m e in
      let k = t.end in
      let i = t.within in
      let j = s.within in
      let c = take (size_of w) (drop w.at f) in
      let q : take m.at f ≡ take w.at f ++ c = ap (λ (n : ℕ). take n f) k ∙ take-add w.at (size_of w) f in
      record {
        within = i;
        stops =
            ap stop q
            ∙ stops-next (take w.at f) c w m s.stops (ap (λ (g : List ℕ). step_of g w) (sym q) ∙ front-step w m e) (sym (ap length (sym q) ∙ length-take-le m.at f i));
      }

  pub reached : Reached f (stop f)
  reached = last-holds true f (Reached f) (λ w m e r. next r e) (fuel f) at_start start

-- the reading of the accepted blocks stops where that of the file does
pub front-stops : (f : List ℕ) → stop (take (stop f).at f) ≡ stop f
front-stops f = (reached-stops f (reached f)).stops

-- ---- told of both

module _ (f : List ℕ) where
  stays_plain : Stays (plain_step f (plain_stop f))
  stays_plain = last_off false (fuel f) f at_start (enough f at_start)

  -- where both stop at one walk they say the same
  same-told : stop f ≡ plain_stop f → told f ≡ plain_told f
  same-told e = ap (λ (w : Walk). ending_told (step_of f w)) e ∙ ap ending_told (no_block f (plain_stop f) stays_plain)

  pub same-radials : stop f ≡ plain_stop f → stretches f ≡ plain_stretches f
  same-radials e = go (way f).stops
    where
      go : ((stop f ≡ plain_stop f) × ((way f).rest ≡ [])) ⊎ ((x : Past f (stop f)) × (x.next.at ≤ (plain_stop f).at)) → stretches f ≡ plain_stretches f
      go (inl x) = sym ((way f).stretches ∙ ap (λ (l : List Stretch). stretches f ++ l) x.1 ∙ append-nil (stretches f))
      go (inr x) = let l = x.0.bytes in let k = x.1 in let a = ap (λ (w : Walk). w.at) e in absurd (omega arith)

  pub complete-plain : told f ≡ 0 ∷ [] → plain_told f ≡ 0 ∷ []
  unfolding ending_told
  complete-plain e = go (way f).stops
    where
      go : ((stop f ≡ plain_stop f) × ((way f).rest ≡ [])) ⊎ ((x : Past f (stop f)) × (x.next.at ≤ (plain_stop f).at)) → plain_told f ≡ 0 ∷ []
      go (inl x) = sym (same-told x.0) ∙ e
      go (inr x) = let q = ap ending_told x.0.refused in absurd (let z : ◌≡◌ {A = ℕ} 0 1 = cc in omega arith)

-- complete files are the same by both
pub complete-both : (f : List ℕ) → Bytes f → (told f ≡ 0 ∷ []) ↔ (plain_told f ≡ 0 ∷ [])
complete-both f bs = (complete-plain f, complete-told f (bytes-narrow f bs))

-- ---- hope

pub front_bytes : (n : ℕ) (f : List ℕ) → Bytes f → Bytes (take n f)
front_bytes n f bs = middle-bytes n 0 f bs

-- what begins a file with hope has hope
pub hope-shorter : (A : List ℕ) (n : ℕ) → Bytes A → n ≤ length A → Hope A → Hope (take n A)
hope-shorter A n bs l h =
    record {
      more = drop n A ++ h.more;
      bytes = append-bytes (drop n A) h.more (drop-bytes A n l bs) h.bytes;
      complete = ap plain_told (sym (append_assoc (take n A) (drop n A) h.more) ∙ ap (λ (l : List ℕ). l ++ h.more) (take-append-drop n A)) ∙ h.complete;
    }

-- the accepted blocks up to any walk have hope
pub reached-hope : (f : List ℕ) (w : Walk) → Bytes f → Reached f w → Hope (take w.at f)
reached-hope f w bs r =
    let s = reached-stops f r in
    let g = take w.at f in
    let x = completes g (front_bytes w.at f bs) (ap (λ (v : Walk). v.at) s.stops ∙ sym (length-take-le w.at f s.within)) in
    record { more = x.more; bytes = x.bytes; complete = complete-plain (g ++ x.more) x.complete }

-- a complete file's reading was not refused anywhere on its way
module _ (f : List ℕ) (w m : Walk) (bs : Bytes f) (r : Reached f w) (e : plain_step f w ≡ Took m) (h : Hope (take m.at f)) where
  whole : List ℕ
  whole = take m.at f ++ h.more

  whole-complete : told whole ≡ 0 ∷ []
  unfolding whole
  whole-complete = complete-told whole (bytes-narrow whole (append-bytes (take m.at f) h.more (front_bytes m.at f bs) h.bytes)) h.complete

  same-front : (n : ℕ) → n ≤ m.at → take n whole ≡ take n f
  unfolding whole
  same-front n l =
      let t = (plain-taken f w m e).within in
      let k = length-take-le m.at f t in
      take-append-le n (take m.at f) h.more (omega arith) ∙ take-take n m.at f l

  same_step : step_of whole w ≡ step_of f w
  unfolding whole
  same_step =
      let t = plain-taken f w m e in
      let a = t.end in
      let l : length whole ≡ length (take m.at f) + length h.more = length-append (take m.at f) h.more in
      let k = length-take-le m.at f t.within in
      is-here whole w t.going (omega arith)
      ∙ ap (λ (p : List ℕ). say_block w.due p w) (same-front (w.at + size_of w) (omega arith))
      ∙ sym (is-here f w t.going t.room)

  on-the-way : stop whole ≡ last (fuel whole) whole w
  on-the-way =
      let s = reached-stops f r in
      let a = (plain-taken f w m e).end in
      let p = same-front w.at (omega arith) in
      let q : take w.at whole ++ drop w.at whole ≡ whole = take-append-drop w.at whole in
      subst (λ (g : List ℕ). stop g ≡ last (fuel g) g w) q
      (through (take w.at whole) (drop w.at whole) ∙ ap (last (fuel (take w.at whole ++ drop w.at whole)) (take w.at whole ++ drop w.at whole)) (ap stop p ∙ s.stops))

  not-refused : (n p : ℕ) → step_of f w ≡ Refused n p → ⊥
  unfolding Stays ending_told
  not-refused n p x =
      let y = same_step ∙ x in
      let s = on-the-way ∙ run-stays true (λ v. v) (λ v n r. r) (fuel whole) whole w (subst⁻¹ Stays y tt) in
      let z = sym (ap (λ (v : Walk). ending_told (step_of whole v)) s ∙ ap ending_told y) ∙ whole-complete in
      let o : ◌≡◌ {A = ℕ} 0 1 = cc in omega arith

  hope-test : hope_at w.due (take (w.at + size_of w) f) w ≡ true
  hope-test = go (beside f w)
    where
      go : Beside f w → hope_at w.due (take (w.at + size_of w) f) w ≡ true
      go (alike x) = took-hope f w m (x ∙ e)
      go (past n l t x) = absurd (not-refused 40 w.at x)

-- the theorem: at every walk that reading reaches, behind every block that the plain reading takes there, the test says yes exactly where
-- a continuation exists
pub tested : (f : List ℕ) (w m : Walk) → Bytes f → Reached f w → plain_step f w ≡ Took m → Tested f w m
tested f w m bs r e = record { test = (there, hope-test f w m bs r e); left = λ h. with-hope f w m e (hope-test f w m bs r e h); ended = λ none. go none (beside f w) }
  where
    there : hope_at w.due (take (w.at + size_of w) f) w ≡ true → Hope (take m.at f)
    there t = reached-hope f m bs (next r (with-hope f w m e t))

    go : (Hope (take m.at f) → ⊥) → Beside f w → step_of f w ≡ Refused 40 w.at
    go none (alike x) = absurd (none (there (took-hope f w m (x ∙ e))))
    go none (past n l t x) = x

-- ---- files

pub accepted-hope : (f : List ℕ) → Bytes f → Hope (take (stop f).at f)
accepted-hope f bs = reached-hope f (stop f) bs (reached f)

past-lost : (f : List ℕ) → Bytes f → Past f (stop f) → Lost f
past-lost f bs x =
    record {
      next = x.next;
      taken = x.taken;
      none = λ h. let t = (tested f (stop f) x.next bs (reached f) x.taken).test.1 h in let n = x.none in let z : ◌≡◌ {A = ℕ} 0 1 = cc in omega arith;
    }

pub against : (f : List ℕ) → Bytes f → Against f
unfolding ending_told past-lost
against f bs = go (way f).stops
  where
    go : ((stop f ≡ plain_stop f) × ((way f).rest ≡ [])) ⊎ ((x : Past f (stop f)) × (x.next.at ≤ (plain_stop f).at)) → Against f
    go (inl x) = same (same-told f x.0) x.0 (same-radials f x.0)
    go (inr x) = lost (past-lost f bs x.0) (ap ending_told x.0.refused) x.0.bytes x.1

-- 40 is told where hope ended, and nowhere else
pub lost-when : (f : List ℕ) → Bytes f → Lost f → told f ≡ 2 ∷ 40 ∷ (stop f).at ∷ []
unfolding ending_told
lost-when f bs l = ap ending_told ((tested f (stop f) l.next bs (reached f) l.taken).ended l.none)

-- hope of the whole file: it is complete or open
pub hope-told : (f : List ℕ) → Bytes f → Hope f → (told f ≡ 0 ∷ []) ⊎ ((n : ℕ) × (told f ≡ 1 ∷ n ∷ []))
unfolding ending_told Stays
hope-told f bs h = by h.more (complete-told (f ++ h.more) (bytes-narrow (f ++ h.more) (append-bytes f h.more bs h.bytes)) h.complete) (ending f) refl
  where
    by : (c : List ℕ) → told (f ++ c) ≡ 0 ∷ [] → (s : Step) → ending f ≡ s → (told f ≡ 0 ∷ []) ⊎ ((n : ℕ) × (told f ≡ 1 ∷ n ∷ []))
    by c e (Took m) q = absurd (subst Stays q (last_off true (fuel f) f at_start (enough f at_start)))
    by c e Complete q = inl (ap ending_told q)
    by c e (Open n) q = inr (n, ap ending_told q)
    by [] e (Refused n p) q = absurd (let z = sym (ap ending_told q) ∙ sym (ap told (append-nil f)) ∙ e in let o : ◌≡◌ {A = ℕ} 0 1 = cc in omega arith)
    by (x ∷ c) e (Refused n p) q =
        let t = ap ending_told q in
        let z = sym t ∙ sym ((grows f (x ∷ c) (omega arith)).refused n p t) ∙ e in
        absurd (let o : ◌≡◌ {A = ℕ} 0 1 = cc in omega arith)

-- by the grammar
pub begins : (f : List ℕ) → Bytes f → Hope f ↔ Begins f
begins f bs = (there, back)
  where
    there : Hope f → Begins f
    there h =
        let v = holds (f ++ h.more) (append-bytes f h.more bs h.bytes) h.complete in
        record { volume = v.volume; is = v.is; more = h.more; bytes = h.bytes; begins = v.bytes }

    back : Begins f → Hope f
    back b = record { more = b.more; bytes = b.bytes; complete = ap plain_told (sym b.begins) ∙ (reads b.volume b.is).complete }

-- what is read of a file is what the plain reading reads of its accepted blocks
pub read_alike : (f : List ℕ) → Bytes f → ReadAlike f
unfolding ending_told
read_alike f bs = go (against g gs) (hope-told g gs (accepted-hope f bs))
  where
    g : List ℕ
    g = take (stop f).at f

    gs : Bytes g
    gs = front_bytes (stop f).at f bs

    c : List ℕ
    c = drop (stop f).at f

    radials : stretches g ≡ stretches f
    radials =
        subst (λ (h : List ℕ). stop g ≡ stop h → stretches g ≡ stretches h) (take-append-drop (stop f).at f)
        (λ e. sym (rests g c (step_of (g ++ c) (stop g)) (subst (λ (w : Walk). Stays (step_of (g ++ c) w)) (sym e) (last_off true (fuel (g ++ c)) (g ++ c) at_start (enough (g ++ c) at_start))) refl).radials) (front-stops f)

    go : Against g → (told g ≡ 0 ∷ []) ⊎ ((n : ℕ) × (told g ≡ 1 ∷ n ∷ [])) → ReadAlike f
    go (same t s r) y = record { stops = sym s ∙ front-stops f; radials = sym r ∙ radials }
    go (lost l t j k) (inl e) = absurd (let z : ◌≡◌ {A = ℕ} 0 1 = cc in omega arith)
    go (lost l t j k) (inr e) = let q = e.1 in absurd (let z : ◌≡◌ {A = ℕ} 0 1 = cc in omega arith)

-- ---- whole radials: those of the reading are the first of the plain one's

front-in-place : (f : List ℕ) (before a b : List Stretch) → AllInPlace f before (a ++ b) → AllInPlace f before a
front-in-place f before [] b h = tt
front-in-place f before (s ∷ a) b h = (h.0, front-in-place f (s ∷ before) a b h.1)

pub in_place : (f : List ℕ) → Bytes f → AllInPlace f [] (stretches f)
in_place f bs = let w = way f in front-in-place f [] (stretches f) w.rest (subst (AllInPlace f []) w.stretches (placed.in_place f bs))

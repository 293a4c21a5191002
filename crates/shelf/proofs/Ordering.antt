-- The order in which an import is refused. Assumes nothing.
use Rattle.std.proofs.Common.{◌≡◌, ℕ, zero, suc, ◌*◌, ◌/◌, ◌%◌, ◌≤◌, Bool, true, false, not, ◌&&◌, eqb, leb, List, ◌∷◌, length, sym, refl, ap, ◌∙◌, ⊎_elim, arith, lt-ltb, eq-eqb, ne_eqb, eqb-true, le-leb, leb-true}
use native.Mathlib.Decide.{dec_lt}
use mathlib.Core.Logic.{dite}
use Rattle.le.proofs.Tests.{both, fails}
use Rattle.rules.specs.Check.{Check}
use Rattle.std.specs.Prelude.{Ok, Err}
use Rattle.rules.specs.declared.check.Clause.{Clause}
use Rattle.rules.specs.Check.{Rule, clause_of, holds, verdict}
use Rattle.rules.proofs.Judged as judged
use Rattle.generic.specs.declared.Generic.{Generic}
use Rattle.site.specs.declared.Site.{Site}
use Rattle.task.specs.declared.Task.{Task}
use Rattle.writer.specs.declared.order.Answer.{Answer}
use Rattle.writer.specs.declared.order.Answer.TheVariants.{Taken, Refused}
use Rattle.writer.specs.Many.{unless_refused, put_all}
use Rattle.writer.specs.Put.{Outcome}
use Rattle.old.specs.declared.record.OldRadial.{OldRadial}
use Rattle.old.specs.Clock.{time_clauses, time_ok}
use Rattle.old.specs.Old.{counts_clauses, counts_ok, resolution_ok, old_rules, old_at, old_check}
use Rattle.old.specs.Shelf.{shelf_ok, radials_in, radial_place}
use Rattle.old.proofs.Accepted.{two-or-four}
use Rattle.old.proofs.Lengths as lengths
use Rattle.old.proofs.Times as times
use Rattle.shelf.specs.Import.{old_blocks, unless_broken, take_over, take_first, ours, refused_whole, all_or_nothing, import_of}
use Rattle.shelf.specs.Order.{InTime, OutOfTime, Counted, Miscounted, Resolved, RefusedBy, mark, time, counts, resolution, Unrefused, Radials, Ordered}

-- ---- an old radial's own rules

-- the first rule that does not hold gives its number
record Breaks (c : Check) (n : ℕ) : Type 0 where
  clause : Clause
  is : c ≡ Err clause
  number : clause.number ≡ n

data Leads : List Rule → ℕ → Type 0 where
  here : {r : Rule} {rs : List Rule} {n : ℕ} → r.number ≡ n → holds r ≡ false → Leads (r ∷ rs) n
  behind : {r : Rule} {rs : List Rule} {n : ℕ} → holds r ≡ true → Leads rs n → Leads (r ∷ rs) n

breaks : {rs : List Rule} {n : ℕ} → Leads rs n → Breaks (verdict rs) n
breaks (here {r} {rs} {n} i h) = go (judged.told r)
  where
    go : judged.Told r → Breaks (verdict (r ∷ rs)) n
    go (judged.keeps k e) = absurd (let z : true ≡ false = sym k ∙ h in let y : ◌≡◌ {A = ℕ} 0 1 = cc in omega arith)
    go (judged.fails k f e x) = record { clause = clause_of r (suc k); is = judged.off r rs (suc k) e (omega arith); number = i }
breaks (behind {r} {rs} h l) = let b = breaks l in record { clause = b.clause; is = judged.on r rs (judged.held r h) ∙ b.is; number = b.number }

in-time : (o : OldRadial) → InTime o → time_ok o.day o.milliseconds ≡ true
unfolding time_clauses
in-time o h = rw (le-leb 1 o.day h.0, lt-ltb o.milliseconds 86400000 h.1, le-leb _ 2147483647 h.2)

out-of-time : (o : OldRadial) → OutOfTime o → time_ok o.day o.milliseconds ≡ false
out-of-time o h =
    fails (time_ok o.day o.milliseconds)
    (λ ok. let a = times.accepted o.day o.milliseconds ok in
    ⊎_elim (λ z. omega arith) (⊎_elim (λ z. omega arith) (λ z. omega arith)) h)

well-counted : (o : OldRadial) → Counted o → counts_ok o.reflectivity o.doppler ≡ true
unfolding counts_clauses
well-counted o h = rw (le-leb o.reflectivity 460 h.0, le-leb o.doppler 920 h.1) (⊎_elim by_first by-second h.2)
  where
    by_first : 1 ≤ o.reflectivity → not (eqb o.reflectivity 0 && eqb o.doppler 0) ≡ true
    by_first k = rw (ne_eqb o.reflectivity 0 (λ z. omega arith))

    by-second : 1 ≤ o.doppler → not (eqb o.reflectivity 0 && eqb o.doppler 0) ≡ true
    by-second k = go (eqb o.reflectivity 0)
      where
        go : (x : Bool) → not (x && eqb o.doppler 0) ≡ true
        go true = rw (ne_eqb o.doppler 0 (λ z. omega arith))
        go false = refl

miscounted : (o : OldRadial) → Miscounted o → counts_ok o.reflectivity o.doppler ≡ false
miscounted o h =
    fails (counts_ok o.reflectivity o.doppler)
    (λ ok. let a = lengths.accepted o.reflectivity o.doppler ok in
    ⊎_elim (λ z. omega arith) (⊎_elim (λ z. omega arith) (λ z. omega arith)) h)

resolved : (o : OldRadial) → Resolved o → resolution_ok o.resolution ≡ true
unfolding resolution_ok
resolved o = ⊎_elim (λ e. rw e) (λ e. rw e)

unresolved : (o : OldRadial) → (Resolved o → ⊥) → resolution_ok o.resolution ≡ false
unresolved o h = fails (resolution_ok o.resolution) (λ ok. h (two-or-four o.resolution ok))

own-leads : (o : OldRadial) {n : ℕ} → RefusedBy o n → Leads (old_rules o) n
own-leads o (mark h) = here refl (ne_eqb o.mark 1 h)
own-leads o (time m h) = behind (eq-eqb o.mark 1 m) (here refl (out-of-time o h))
own-leads o (counts m t h) = behind (eq-eqb o.mark 1 m) (behind (in-time o t) (here refl (miscounted o h)))
own-leads o (resolution m t c h) =
    behind (eq-eqb o.mark 1 m) (behind (in-time o t) (behind (well-counted o c) (here refl (unresolved o h))))

own-breaks : (o : OldRadial) {n : ℕ} → RefusedBy o n → Breaks (old_check o) n
unfolding old_check
own-breaks o r = breaks (own-leads o r)

own-fine : (o : OldRadial) → Unrefused o → old_check o ≡ (Ok tt)
unfolding old_check
own-fine o h = judged.fine-if (old_rules o) (eq-eqb o.mark 1 h.mark, (in-time o h.time, (well-counted o h.counts, (resolved o h.resolution, tt))))

-- ---- from a refusal to the end

module _ (f : List ℕ) (o : Outcome) where
  -- what is refused stays so, however many radials follow
  stays-refused : (k : ℕ) (n p : ℕ) → (take_first k f o).answer ≡ Refused n p → (take_first (suc k) f o).answer ≡ Refused n p
  unfolding take_first unless_refused
  stays-refused k n p e = go (take_first k f o).answer refl
    where
      go : (x : Answer) → (take_first k f o).answer ≡ x → (take_over f (radial_place k) (take_first k f o)).answer ≡ Refused n p
      go Taken t = absurd (let r : Refused n p ≡ Taken = sym e ∙ t in let z : ◌≡◌ {A = ℕ} 0 1 = cc in omega arith)
      go (Refused m r) t = ap (λ (x : Answer). (unless_refused x (take_first k f o) (unless_broken (old_check (old_at f (radial_place k))) (radial_place k) (take_first k f o) (put_all (old_blocks f (radial_place k) (take_first k f o).walk) (take_first k f o)))).answer) t ∙ e

  refused-on : (k m : ℕ) → k ≤ m → (n p : ℕ) → (take_first k f o).answer ≡ Refused n p → (take_first m f o).answer ≡ Refused n p
  refused-on k zero l n p e = let z : k ≡ 0 = omega arith in ap (λ (i : ℕ). (take_first i f o).answer) (sym z) ∙ e
  refused-on k (suc m) l n p e =
      dite (dec_lt k (suc m)) (λ h. stays-refused m n p (refused-on k m (omega arith) n p e))
      (λ h. let z : k ≡ suc m = omega arith in ap (λ (i : ℕ). (take_first i f o).answer) (sym z) ∙ e)

  -- a radial behind others that are taken: its own rules, then its blocks
  module _ (k : ℕ) (t : (take_first k f o).answer ≡ Taken) where
    abbrev at : ℕ
    at = radial_place k

    abbrev blocks : Outcome
    blocks = put_all (old_blocks f (radial_place k) (take_first k f o).walk) (take_first k f o)

    next-is : take_first (suc k) f o ≡ unless_broken (old_check (old_at f at)) at (take_first k f o) blocks
    unfolding take_first unless_refused
    next-is = ap (λ (x : Answer). unless_refused x (take_first k f o) (unless_broken (old_check (old_at f at)) at (take_first k f o) blocks)) t

    next-own : (n : ℕ) → RefusedBy (old_at f at) n → (take_first (suc k) f o).answer ≡ Refused n at
    unfolding unless_broken
    next-own n r =
        let b = own-breaks (old_at f at) r in
        ap (λ (x : Outcome). x.answer) next-is
        ∙ ap (λ (x : Check). (unless_broken x at (take_first k f o) blocks).answer) b.is
        ∙ ap (λ (x : ℕ). Refused x at) b.number

    next-blocks : Unrefused (old_at f at) → take_first (suc k) f o ≡ blocks
    unfolding unless_broken
    next-blocks u = next-is ∙ ap (λ (x : Check). unless_broken x at (take_first k f o) blocks) (own-fine (old_at f at) u)

-- ---- the import

module _ (g : Generic) (s : Site) (t : Task) (c f room : List ℕ) where
  abbrev front_of : Outcome
  front_of = ours g s t c room

  -- a length is a positive multiple of 2432 or not
  right-length : (m : ℕ) → Radials f m → (shelf_ok (length f) ≡ true) × (radials_in (length f) ≡ m)
  unfolding shelf_ok
  right-length m r =
      let a = r.some in
      let b = r.length in
      (rw (le-leb 1 (length f) (omega arith), eq-eqb (length f % 2432) 0 (omega arith)), omega arith)

  wrong-length : ((n : ℕ) → Radials f n → ⊥) → shelf_ok (length f) ≡ false
  unfolding shelf_ok
  wrong-length h =
      fails (shelf_ok (length f))
      (λ ok. let b = both (leb 1 (length f)) (eqb (length f % 2432) 0) ok in
      let l = leb-true 1 (length f) b.0 in
      let e = eqb-true (length f % 2432) 0 b.1 in
      h (length f / 2432) (record { some = omega arith; length = omega arith }))

  import-is : (m : ℕ) → Radials f m → import_of g s t c f room ≡ all_or_nothing (take_first m f front_of).answer (take_first m f front_of) room
  unfolding import_of
  import-is m r =
      let l = right-length m r in
      rw l.0 (ap (λ (n : ℕ). all_or_nothing (take_first n f front_of).answer (take_first n f front_of) room) l.1)

  pub refused-at : (m : ℕ) → Radials f m → (k : ℕ) → k ≤ m → (n p : ℕ) → (take_first k f front_of).answer ≡ Refused n p → import_of g s t c f room ≡ refused_whole n p room
  unfolding all_or_nothing
  refused-at m r k l n p e =
      import-is m r ∙ ap (λ (x : Answer). all_or_nothing x (take_first m f front_of) room) (refused-on f front_of k m l n p e)

  -- what is taken is taken to the last radial
  pub whole-taken : (m : ℕ) → Radials f m → (import_of g s t c f room).answer ≡ Taken → (take_first m f front_of).answer ≡ Taken
  whole-taken m r e = go (take_first m f front_of).answer refl
    where
      go : (x : Answer) → (take_first m f front_of).answer ≡ x → (take_first m f front_of).answer ≡ Taken
      go Taken k = k
      go (Refused n p) k =
          absurd
          (let x : Refused n p ≡ Taken = ap (λ (y : Outcome). y.answer) (sym (refused-at m r m (omega arith) n p k)) ∙ e in
          let z : ◌≡◌ {A = ℕ} 0 1 = cc in omega arith)

  pub ordered : Ordered g s t c f room
  unfolding import_of all_or_nothing take_first
  ordered =
      record {
        fifty = λ h. rw (wrong-length h);
        records = λ m r n p e. refused-at m r 0 (omega arith) n p e;
        own = λ m r k l e n b. refused-at m r (suc k) (omega arith) n (k * 2432) (next-own f front_of k e n b);
        writer = λ m r k l e u n p b. refused-at m r (suc k) (omega arith) n p (ap (λ (x : Outcome). x.answer) (next-blocks f front_of k e u) ∙ b);
        on = λ m r k l e u b. ap (λ (x : Outcome). x.answer) (next-blocks f front_of k e u) ∙ b;
        taken = λ m r e. import-is m r ∙ ap (λ (x : Answer). all_or_nothing x (take_first m f front_of) room) e;
      }

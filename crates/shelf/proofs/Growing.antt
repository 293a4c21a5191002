-- An old file that grows by radials. Assumes nothing.
use Rattle.std.proofs.Common.{◌≡◌, ℕ, zero, suc, ◌+◌, ◌*◌, ◌≤◌, true, cond, eqb, List, [], ◌∷◌, ◌++◌, length, sym, refl, ap, ◌∙◌, ap₂, arith, length-append}
use Rattle.le.specs.Le.{Bytes, run}
use Rattle.le.proofs.Laws.{part_in}
use Rattle.rules.specs.Check.{Check}
use Rattle.std.specs.Prelude.{Ok, Err}
use Rattle.generic.specs.declared.Generic.{Generic}
use Rattle.generic.specs.Generic.{GenericFits}
use Rattle.site.specs.declared.Site.{Site}
use Rattle.site.specs.Site.{SiteFits}
use Rattle.task.specs.declared.Task.{Task}
use Rattle.task.specs.Task.{TaskFits}
use Rattle.writer.specs.declared.order.Answer.{Answer}
use Rattle.writer.specs.declared.order.Answer.TheVariants.{Taken, Refused}
use Rattle.writer.specs.Many.{unless_refused, put_all}
use Rattle.writer.specs.Put.{Outcome}
use Rattle.retold.specs.Many.{written_in}
use Rattle.retold.specs.Retold.{Pair, radial_blocks}
use Rattle.old.specs.declared.codes.Quantity.{Quantity}
use Rattle.old.specs.declared.codes.Quantity.TheVariants.{Reflectivity, Velocity, Width}
use Rattle.old.specs.declared.record.OldRadial.{OldRadial}
use Rattle.old.specs.Codes.{new_bytes}
use Rattle.old.specs.Headers.{gates_of, place_of, moment_from, radial_from}
use Rattle.old.specs.Old.{counts_ok, old_of, old_at, old_check}
use Rattle.old.specs.Shelf.{radial_place}
use Rattle.old.proofs.Accepted.{rules-hold}
use Rattle.old.proofs.Lengths.{within}
use Rattle.shelf.specs.Import.{moment_of, moments_of, unless_broken, take_over, take_first, ours, refused_whole, import_of}
use Rattle.shelf.specs.Growth.{ImportGrows}
use Rattle.shelf.specs.Order.{Radials}
use Rattle.shelf.proofs.Bringing.{begins}
use Rattle.shelf.proofs.Imported.{radials, front-stands}
use Rattle.shelf.proofs.Ordering.{ordered, refused-at, whole-taken}

-- ---- a radial that is all there

module _ (A C : List ℕ) (at : ℕ) (there : at + 2432 ≤ length A) where
  same_old : old_at (A ++ C) at ≡ old_at A at
  unfolding old_at
  same_old = ap old_of (part_in 128 A C at (omega arith))

  same-moment : (o : OldRadial) → counts_ok o.reflectivity o.doppler ≡ true → (q : Quantity) → moment_of q o (A ++ C) at ≡ moment_of q o A at
  unfolding moment_of
  same-moment o ok q =
      let w = (within o ok q).0 in
      ap (λ (l : List ℕ). cond (eqb (gates_of q o) 0) [] (record { header = moment_from q o.resolution (gates_of q o); bytes = run new_bytes l } ∷ []))
      (part_in (gates_of q o) A C (at + place_of q o) (omega arith))

  same-moments : (o : OldRadial) → counts_ok o.reflectivity o.doppler ≡ true → moments_of o (A ++ C) at ≡ moments_of o A at
  same-moments o ok =
      ap₂ (λ (x y : List Pair). x ++ y) (same-moment o ok Reflectivity)
      (ap₂ (λ (x y : List Pair). x ++ y) (same-moment o ok Velocity) (same-moment o ok Width))

  -- is taken over as before
  same_over : (o : Outcome) → take_over (A ++ C) at o ≡ take_over A at o
  unfolding unless_broken
  same_over o =
      ap (λ (x : OldRadial). over x (A ++ C)) same_old ∙ ap (unless_refused o.answer o) (go (old_check (old_at A at)) refl)
    where
      blocks : OldRadial → List ℕ → Outcome
      blocks x f = put_all (radial_blocks (radial_from x (o.walk.count.whole + 1) (o.walk.count.in_cut + 1)) (moments_of x f at)) o

      over : OldRadial → List ℕ → Outcome
      over x f = unless_refused o.answer o (unless_broken (old_check x) at o (blocks x f))

      go : (x : Check) → old_check (old_at A at) ≡ x → unless_broken (old_check (old_at A at)) at o (blocks (old_at A at) (A ++ C)) ≡ unless_broken (old_check (old_at A at)) at o (blocks (old_at A at) A)
      go (Ok tt) e =
          ap (λ (l : List Pair). unless_broken (old_check (old_at A at)) at o (put_all (radial_blocks (radial_from (old_at A at) (o.walk.count.whole + 1) (o.walk.count.in_cut + 1)) l) o))
          (same-moments (old_at A at) (rules-hold (old_at A at) e).1.1.0)
      go (Err b) e =
          ap (λ (x : Check). unless_broken x at o (blocks (old_at A at) (A ++ C))) e ∙ sym (ap (λ (x : Check). unless_broken x at o (blocks (old_at A at) A)) e)

same_first : (A C : List ℕ) (o : Outcome) (k : ℕ) → k * 2432 ≤ length A → take_first k (A ++ C) o ≡ take_first k A o
unfolding take_first
same_first A C o zero l = refl
same_first A C o (suc k) l =
    ap (take_over (A ++ C) (radial_place k)) (same_first A C o k (omega arith)) ∙ same_over A C (radial_place k) (omega arith) (take_first k A o)

-- ---- the import

module _ (g : Generic) (s : Site) (t : Task) (c A C room : List ℕ) (m j : ℕ) (short : Radials A m) (more : Radials C j) where
  abbrev o : Outcome
  o = ours g s t c room

  long : Radials (A ++ C) (j + m)
  long =
      let a = short.some in
      let b = short.length in
      let d = more.length in
      record { some = omega arith; length = length-append A C ∙ omega arith }

  same : take_first m (A ++ C) o ≡ take_first m A o
  same = same_first A C o m (let b = short.length in omega arith)

  -- the shorter one is refused as it says, or taken
  data Ends : Type 0 where
    refused : (n p : ℕ) → (take_first m A o).answer ≡ Refused n p → Ends
    taken : (take_first m A o).answer ≡ Taken → Ends

  ends : Ends
  ends = go (take_first m A o).answer refl
    where
      go : (x : Answer) → (take_first m A o).answer ≡ x → Ends
      go Taken e = taken e
      go (Refused n p) e = refused n p e

  longer-refused : (n p : ℕ) → (take_first m A o).answer ≡ Refused n p → import_of g s t c (A ++ C) room ≡ refused_whole n p room
  longer-refused n p e =
      refused-at g s t c (A ++ C) room (j + m) long m (omega arith) n p (ap (λ (x : Outcome). x.answer) same ∙ e)

  grows-taken : (import_of g s t c (A ++ C) room).answer ≡ Taken → (take_first m A o).answer ≡ Taken
  grows-taken e = go ends
    where
      go : Ends → (take_first m A o).answer ≡ Taken
      go (refused n p r) =
          absurd (let x : Refused n p ≡ Taken = ap (λ (y : Outcome). y.answer) (sym (longer-refused n p r)) ∙ e in let z : ◌≡◌ {A = ℕ} 0 1 = cc in omega arith)
      go (taken r) = r

  grows-refused : (n p : ℕ) → import_of g s t c A room ≡ refused_whole n p room → import_of g s t c (A ++ C) room ≡ refused_whole n p room
  grows-refused n p e = go ends
    where
      go : Ends → import_of g s t c (A ++ C) room ≡ refused_whole n p room
      go (refused k q r) =
          longer-refused k q r ∙ sym (refused-at g s t c A room m short m (omega arith) k q r) ∙ e
      go (taken r) =
          absurd
          (let x : Taken ≡ Refused n p = sym r ∙ ap (λ (y : Outcome). y.answer) (sym ((ordered g s t c A room).taken m short r) ∙ e) in
          let z : ◌≡◌ {A = ℕ} 0 1 = cc in omega arith)

  module _ (gf : GenericFits g) (sf : SiteFits s) (tf : TaskFits t) (cb : Bytes c) (fb : Bytes (A ++ C)) where
    grows-begins : (import_of g s t c (A ++ C) room).answer ≡ Taken
        → (rest : List ℕ) × (written_in (import_of g s t c (A ++ C) room) ≡ written_in (import_of g s t c A room) ++ rest)
    grows-begins e =
        let stand = front-stands g s t c (A ++ C) room gf sf tf cb fb in
        let all = whole-taken g s t c (A ++ C) room (j + m) long e in
        let r = radials c (A ++ C) fb o stand (j + m) in
        let b = begins c (A ++ C) fb o (stand (r.begun all)) m (j + m) (omega arith) all in (
          b.more,
          ap written_in ((ordered g s t c (A ++ C) room).taken (j + m) long all)
              ∙ b.is
              ∙ ap (λ (x : Outcome). written_in x ++ b.more) (same ∙ sym ((ordered g s t c A room).taken m short (grows-taken e))),
        )

    pub grows : ImportGrows g s t c A C room
    grows =
        record {
          refused = grows-refused;
          taken = λ e. ap (λ (x : Outcome). x.answer) ((ordered g s t c A room).taken m short (grows-taken e)) ∙ grows-taken e;
          begins = grows-begins;
        }

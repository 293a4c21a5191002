-- What the entry that is due says: where it stands in the index, and what is to come after it. The tests that lead to the
-- entry say which cut or radial it is of, and the making of the sections says the rest. Assumes nothing.
use Prim.Native.Nat.{ℕ, suc, ◌+◌, ◌-◌, ◌^◌, ◌<◌, ◌≤◌}
use native.Mathlib.Omega.{arith}
use mathlib.Core.Bool.{Bool, true, false, cond, ◌&&◌}
use mathlib.Core.List.{List, [], ◌∷◌}
use mathlib.Core.Logic.{◌⊎◌, inl, inr}
use mathlib.Core.Path.{◌≡◌, refl, sym, ap, subst, ◌∙◌}
use borrow.Author.Tests.{leb-true, leb-false, ltb-true, ltb-false, ne_eqb}
use lib.Dec.{eqb, leb, ltb}
use lib.ListN.{length}
use Rattle.le.specs.Le.{bytes, part}
use Rattle.radial.specs.declared.Radial.{Radial}
use Rattle.radial.specs.Radial.{radial_at}
use Rattle.reading.specs.declared.Stretch.{Stretch}
use Rattle.reading.specs.Reading.{stretches}
use Rattle.index.specs.declared.making.Entry.{Entry}
use Rattle.index.specs.declared.making.Entry.TheVariants.{Count, Place, End}
use Rattle.index.specs.Index.{start_of, index_for}
use Rattle.index.specs.Making.{second_at, cuts_in, first_radial, entry_of}
use Rattle.index.proofs.Sections.{length-index, Making, making, counted, placed}
use Rattle.index.proofs.Walked.{Rising, rising}
use Rattle.index.proofs.Chained.{Chain, chained}

-- ---- what an entry says of the radials to come, of the cut being counted and of the number of cuts

-- a radial is next, of the present cut or after all counts, and those behind it are where its header says
record Next (f : List ℕ) (at : ℕ) (rest : List Stretch) (cut cuts : ℕ) : Type 0 where
  pub one : Stretch
  pub others : List Stretch
  pub is : rest ≡ one ∷ others
  pub start : one.start ≡ at
  pub room : at + 64 ≤ length f
  pub of : (cuts < cut) ⊎ (one.cut ≤ cut)
  pub chain : Chain f (at + 64 + (radial_at f at).length_of_data) others

abbrev Says : List ℕ → ℕ → List Stretch → ℕ → ℕ → Entry → Type 0
Says f at rest cut cuts Count = (cut ≤ cuts) × (Rising cut rest → Rising (cut + 1) rest)
Says f at rest cut cuts Place = Next f at rest cut cuts
Says f at rest cut cuts End = (rest ≡ []) × (cuts < cut)

says : (f : List ℕ) (at left : ℕ) (rest : List Stretch) (cut cuts : ℕ) (e : Entry) → length rest ≡ left → Chain f at rest → entry_of left (radial_at f at).elevation_number cut cuts ≡ e → Says f at rest cut cuts e
unfolding entry_of Chain Rising
says f at left [] cut cuts e n c q = subst (Says f at [] cut cuts) (rw (← n) at q) (go (leb cut cuts) refl)
  where
    go : (a : Bool) → leb cut cuts ≡ a → Says f at [] cut cuts (cond a Count End)
    go true p = (leb-true cut cuts p, λ r. tt)
    go false p = (refl, leb-false cut cuts p)
says f at left (s ∷ ss) cut cuts e n c q =
    let some : eqb left 0 ≡ false = ne_eqb left 0 (λ z. omega arith) in
    subst (Says f at (s ∷ ss) cut cuts) (rw some at q) (go (leb cut cuts) (ltb cut (radial_at f at).elevation_number) refl refl)
  where
    go : (a b : Bool) → leb cut cuts ≡ a → ltb cut (radial_at f at).elevation_number ≡ b → Says f at (s ∷ ss) cut cuts (cond (a && b) Count Place)
    go true true p q = let h = ltb-true cut (radial_at f at).elevation_number q in let k = c.2 in (leb-true cut cuts p, λ r. (omega arith, r.1))
    go true false p q =
        let h = ltb-false cut (radial_at f at).elevation_number q in
        let k = c.2 in
        record { one = s; others = ss; is = refl; start = c.0; room = c.1; of = inr (omega arith); chain = c.3 }
    go false b p q = record { one = s; others = ss; is = refl; start = c.0; room = c.1; of = inl (leb-false cut cuts p); chain = c.3 }

-- ---- the making, up to an entry that is due

-- how many entries are still to come
abbrev pub entries : ℕ → ℕ → ℕ → ℕ
entries cuts cut left = left + (suc cuts - cut)

pub record Made (f : List ℕ) (cuts first second cut count at left : ℕ) : Type 0 where
  pub rest : List Stretch
  pub many : length rest ≡ left
  pub chain : Chain f at rest
  pub making : Making cuts (stretches f) first second cut count rest
  pub small : length (index_for cuts (stretches f)) < 2 ^ 64

pub made : (f : List ℕ) (cuts : ℕ) → cuts ≡ cuts_in f → length (index_for cuts (stretches f)) < 2 ^ 64 → Made f cuts (length (start_of cuts)) (second_at cuts + 4) 1 0 (first_radial cuts) (length (stretches f))
made f cuts e h =
    record {
      rest = stretches f;
      many = refl;
      chain = subst (λ (n : ℕ). Chain f (first_radial n) (stretches f)) (sym e) (chained f);
      making = making cuts (stretches f) (rising f);
      small = h;
    }

-- by the header where the next radial stands
module _ {f : List ℕ} {cuts first second cut count at left : ℕ} (m : Made f cuts first second cut count at left) (h : Radial) (is : h ≡ radial_at f at) where
  told : (e : Entry) → entry_of left h.elevation_number cut cuts ≡ e → Says f at m.rest cut cuts e
  told e q = says f at left m.rest cut cuts e m.many m.chain (ap (λ (r : Radial). entry_of left r.elevation_number cut cuts) (sym is) ∙ q)

  pub record AtCount : Type 0 where
    pub entry : part 2 (index_for cuts (stretches f)) first ≡ bytes 2 count
    pub room : first + 2 ≤ second_at cuts
    pub first_fits : first + 2 < 2 ^ 64
    pub cut_fits : cut + 1 < 2 ^ 64
    pub less : entries cuts (cut + 1) left < entries cuts cut left
    pub then : Made f cuts (first + 2) second (cut + 1) 0 at left

  pub at_count : entry_of left h.elevation_number cut cuts ≡ Count → AtCount
  at_count e =
      let d = told Count e in
      let k = d.0 in
      let c = counted cuts (stretches f) first second cut count m.rest m.making k (d.1 m.making.rises) in
      let r = c.room in
      let l = length-index cuts (stretches f) in
      let s = m.small in
      record {
        entry = c.entry;
        room = r;
        first_fits = omega arith;
        cut_fits = omega arith;
        less = omega arith;
        then = record { rest = m.rest; many = m.many; chain = m.chain; making = c.then; small = s };
      }

  pub record AtPlace : Type 0 where
    pub entry : part 8 (index_for cuts (stretches f)) second ≡ bytes 8 at
    pub room : second + 8 ≤ length (index_for cuts (stretches f))
    pub second_fits : second + 8 < 2 ^ 64
    pub count_fits : count + 1 < 2 ^ 64
    pub header : at + 64 ≤ length f
    pub some : 1 ≤ left
    pub less : entries cuts cut (left - 1) < entries cuts cut left
    pub then : Made f cuts first (second + 8) cut (count + 1) (at + 64 + h.length_of_data) (left - 1)

  pub at_place : entry_of left h.elevation_number cut cuts ≡ Place → AtPlace
  at_place e =
      let d = told Place e in
      let k : length m.rest ≡ suc (length d.others) = ap length d.is in
      let n = m.many in
      let p = placed cuts (stretches f) first second cut count d.one d.others (subst (Making cuts (stretches f) first second cut count) d.is m.making) d.of in
      let r = p.room in
      let w = m.making.few in
      let b = m.small in
      record {
        entry = p.entry ∙ ap (bytes 8) d.start;
        room = r;
        second_fits = omega arith;
        count_fits = omega arith;
        header = d.room;
        some = omega arith;
        less = omega arith;
        then =
            record {
              rest = d.others;
              many = omega arith;
              chain = subst (λ (r : Radial). Chain f (at + 64 + r.length_of_data) d.others) (sym is) d.chain;
              making = p.then;
              small = b;
            };
      }

  pub at-end : entry_of left h.elevation_number cut cuts ≡ End → (first ≡ second_at cuts) × (second ≡ length (index_for cuts (stretches f)))
  at-end e =
      let d = told End e in
      let k : length m.rest ≡ 0 = ap length d.0 in
      let g = d.1 in
      let l = m.making.low in
      let u = m.making.high in
      (omega arith, omega arith)

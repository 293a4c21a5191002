-- What stands where in an index, and what is still to come of it while its two sections grow side by side: what follows a
-- place begins with the entry that goes there, and radials come cut by cut, so a cut's count is known where the next cut
-- begins. Assumes nothing.
use Prim.Native.Nat.{ℕ, zero, suc, ◌+◌, ◌*◌, ◌-◌, ◌<◌, ◌≤◌}
use native.Mathlib.Nat.{zero-add, add-zero}
use native.Mathlib.Numerals.{add-one}
use native.Mathlib.Omega.{arith}
use mathlib.Core.Bool.{true, false}
use mathlib.Core.List.{List, [], ◌∷◌, ◌++◌, append_assoc}
use mathlib.Core.Logic.{◌⊎◌, inl, inr}
use mathlib.Core.Path.{◌≡◌, refl, sym, ap, ap₂, ◌∙◌}
use borrow.Author.Tests.{eq-eqb, ne_eqb}
use lib.ListN.{length, drop, length-append}
use lib.Seq.{drop_at, drop-append_seam, drop-drop}
use Rattle.le.specs.Le.{bytes, part, run}
use Rattle.le.proofs.Laws.{length-bytes, length_run, part_in, part-drop, part-all}
use Rattle.reading.specs.declared.Stretch.{Stretch}
use Rattle.index.specs.Index.{radials_in, per_cut, start_of, count_of, cut_section, place_of, radial_section, index_by, index_for}
use Rattle.index.specs.Answer.{same}
use Rattle.index.specs.Making.{second_at}
use Rattle.index.proofs.Agree.{differs}
use Rattle.index.proofs.Same.{same-is, is_same}
use Rattle.index.proofs.Walked.{Rising, rising-from, rising_none}

-- ---- the entry that is the next of what is to come, and what follows it

pub next-entry : (f : List ℕ) (at k : ℕ) (x y : List ℕ) → drop at f ≡ x ++ y → length x ≡ k → (part k f at ≡ x) × (drop (at + k) f ≡ y)
next-entry f at k x y e l = (
  ap (part k f) (sym (add-zero at)) ∙ sym (part-drop k at f 0) ∙ ap (λ (g : List ℕ). part k g 0) e ∙ part_in k x y 0 (omega arith) ∙ part-all k x l,
  sym (drop-drop k at f) ∙ ap (drop k) e ∙ drop_at x y k l,
)

-- ---- lengths

pub length-per-cut : (n cut : ℕ) (ss : List Stretch) → length (per_cut n cut ss) ≡ n
unfolding per_cut
length-per-cut zero cut ss = refl
length-per-cut (suc n) cut ss = ap suc (length-per-cut n (suc cut) ss)

length-cuts : (start : ℕ → List ℕ) (cuts : ℕ) (ss : List Stretch) → length (cut_section start cuts ss) ≡ length (start cuts) + 2 * cuts
unfolding cut_section count_of
length-cuts start cuts ss =
    length-append (start cuts) (run count_of (per_cut cuts 1 ss))
    ∙ ap (λ (n : ℕ). length (start cuts) + n) (length_run count_of 2 (length-bytes 2) (per_cut cuts 1 ss) ∙ ap (λ (n : ℕ). 2 * n) (length-per-cut cuts 1 ss))

pub length-by : (start : ℕ → List ℕ) (cuts : ℕ) (ss : List Stretch) → length (index_by start cuts ss) ≡ length (start cuts) + 2 * cuts + 4 + 8 * length ss
unfolding index_by radial_section place_of
length-by start cuts ss =
    let c = length-cuts start cuts ss in
    let b = length-bytes 4 (length ss) in
    let r = length_run place_of 8 (λ s. length-bytes 8 s.start) ss in
    simp length-append (omega arith)

pub length-index : (cuts : ℕ) (ss : List Stretch) → length (index_for cuts ss) ≡ second_at cuts + 4 + 8 * length ss
length-index cuts ss = length-by start_of cuts ss

-- ---- what stands where, whatever the index starts with

module _ (start : ℕ → List ℕ) (cuts : ℕ) (ss : List Stretch) where
  pub start_first : index_by start cuts ss ≡ start cuts ++ (run count_of (per_cut cuts 1 ss) ++ radial_section ss)
  unfolding index_by cut_section
  start_first = append_assoc (start cuts) (run count_of (per_cut cuts 1 ss)) (radial_section ss)

  pub counts-first : drop (length (start cuts)) (index_by start cuts ss) ≡ run count_of (per_cut cuts 1 ss) ++ radial_section ss
  counts-first = ap (drop (length (start cuts))) start_first ∙ drop-append_seam (start cuts) _

  pub radials-first : (part 4 (index_by start cuts ss) (length (start cuts) + 2 * cuts) ≡ bytes 4 (length ss)) × (drop (length (start cuts) + 2 * cuts + 4) (index_by start cuts ss) ≡ run place_of ss)
  unfolding index_by radial_section
  radials-first =
      let at = length (start cuts) + 2 * cuts in
      next-entry (index_by start cuts ss) at 4 (bytes 4 (length ss)) (run place_of ss)
      (drop_at (cut_section start cuts ss) (radial_section ss) at (length-cuts start cuts ss)) (length-bytes 4 (length ss))

-- ---- counts still to come: the first of n cuts has had some radials already

unfoldable pub owed : ℕ → ℕ → ℕ → List Stretch → List ℕ
owed zero cut count ss = []
owed (suc n) cut count ss = (count + radials_in cut ss) ∷ per_cut n (suc cut) ss

owed-new : (n cut : ℕ) (ss : List Stretch) → owed n cut 0 ss ≡ per_cut n cut ss
unfolding owed per_cut
owed-new zero cut ss = refl
owed-new (suc n) cut ss = ap (λ (k : ℕ). k ∷ per_cut n (suc cut) ss) (zero-add (radials_in cut ss))

-- a radial of a lower cut does not count
pub per-cut-skip : (n cut : ℕ) (s : Stretch) (ss : List Stretch) → s.cut < cut → per_cut n cut (s ∷ ss) ≡ per_cut n cut ss
unfolding per_cut radials_in
per-cut-skip zero cut s ss h = refl
per-cut-skip (suc n) cut s ss h =
    rw (ne_eqb s.cut cut (λ e. omega arith), zero-add (radials_in cut ss)) (ap (λ (l : List ℕ). radials_in cut ss ∷ l) (per-cut-skip n (suc cut) s ss (omega arith)))

owed-one : (n cut count : ℕ) (s : Stretch) (ss : List Stretch) → s.cut ≡ cut → owed n cut count (s ∷ ss) ≡ owed n cut (count + 1) ss
unfolding owed radials_in
owed-one zero cut count s ss e = refl
owed-one (suc n) cut count s ss e =
    ap₂ (λ (k : ℕ) (l : List ℕ). k ∷ l) (rw (eq-eqb s.cut cut e) (omega arith)) (per-cut-skip n (suc cut) s ss (omega arith))

owed-end : (n cut count other : ℕ) (ss ts : List Stretch) → n ≡ 0 → owed n cut count ss ≡ owed n cut other ts
unfolding owed
owed-end n cut count other ss ts e = rw e

-- ---- the making of an index, where its next count goes to `first` and its next place to `second`

module _ (cuts : ℕ) (ss : List Stretch) where
  pub record Making (first second cut count : ℕ) (rest : List Stretch) : Type 0 where
    pub counts : drop first (index_for cuts ss) ≡ run count_of (owed (suc cuts - cut) cut count rest) ++ radial_section ss
    pub places : drop second (index_for cuts ss) ≡ run place_of rest
    pub low : first + 2 * (suc cuts - cut) ≡ second_at cuts
    pub high : second + 8 * length rest ≡ length (index_for cuts ss)
    pub rises : Rising cut rest
    pub few : count ≤ second

  -- the counts with which the sections start
  pub start-here : part (length (start_of cuts)) (index_for cuts ss) 0 ≡ start_of cuts
  start-here = (next-entry (index_for cuts ss) 0 (length (start_of cuts)) (start_of cuts) _ (start_first start_of cuts ss) refl).0

  pub radials-here : part 4 (index_for cuts ss) (second_at cuts) ≡ bytes 4 (length ss)
  radials-here = (radials-first start_of cuts ss).0

  -- a start that is the index's, and one that is another
  pub start-stands : (x : List ℕ) → same (start_of cuts) (part (length (start_of cuts)) x 0) ≡ true → part (length (start_of cuts)) x 0 ≡ part (length (start_of cuts)) (index_for cuts ss) 0
  start-stands x e = sym (same-is (start_of cuts) (part (length (start_of cuts)) x 0) e) ∙ sym start-here

  pub start-differs : (x : List ℕ) → same (start_of cuts) (part (length (start_of cuts)) x 0) ≡ false → same (index_for cuts ss) x ≡ false
  start-differs x n =
      differs (index_for cuts ss) x (length (start_of cuts)) 0 (start_of cuts) start-here
      (λ q. let y = is_same (start_of cuts) (part (length (start_of cuts)) x 0) (sym q) in let z : ◌≡◌ {A = ℕ} 0 1 = cc in omega arith)

  -- before the first entry
  pub making : Rising 1 ss → Making (length (start_of cuts)) (second_at cuts + 4) 1 0 ss
  making r =
      let n : suc cuts - 1 ≡ cuts = omega arith in
      record {
        counts = counts-first start_of cuts ss ∙ ap (λ (l : List ℕ). run count_of l ++ radial_section ss) (sym (rw n (owed-new cuts 1 ss)));
        places = (radials-first start_of cuts ss).1;
        low = omega arith;
        high = sym (length-index cuts ss);
        rises = r;
        few = omega arith;
      }

  -- a cut that has no further radial: its count, and the next cut
  pub record Counted (first second cut count : ℕ) (rest : List Stretch) : Type 0 where
    pub entry : part 2 (index_for cuts ss) first ≡ bytes 2 count
    pub room : first + 2 ≤ second_at cuts
    pub then : Making (first + 2) second (cut + 1) 0 rest

  pub counted : (first second cut count : ℕ) (rest : List Stretch) → Making first second cut count rest → cut ≤ cuts → Rising (cut + 1) rest
      → Counted first second cut count rest
  unfolding owed run count_of
  counted first second cut count rest m h r =
      let n : suc cuts - cut ≡ suc (cuts - cut) = omega arith in
      let n1 : suc cuts - (cut + 1) ≡ cuts - cut = omega arith in
      let none = rising_none cut (cut + 1) rest (omega arith) r in
      let new : owed (suc cuts - (cut + 1)) (cut + 1) 0 rest ≡ per_cut (cuts - cut) (suc cut) rest = rw (n1, add-one cut) (owed-new (cuts - cut) (suc cut) rest) in
      let l = m.low in
      let e : drop first (index_for cuts ss) ≡ bytes 2 count ++ (run count_of (per_cut (cuts - cut) (suc cut) rest) ++ radial_section ss) =
      m.counts ∙ rw (n, none, add-zero count) (append_assoc (bytes 2 count) (run count_of (per_cut (cuts - cut) (suc cut) rest)) (radial_section ss)) in
      let here = next-entry (index_for cuts ss) first 2 (bytes 2 count) _ e (length-bytes 2 count) in
      record {
        entry = here.0;
        room = omega arith;
        then =
            record {
              counts = here.1 ∙ ap (λ (l : List ℕ). run count_of l ++ radial_section ss) (sym new);
              places = m.places;
              low = omega arith;
              high = m.high;
              rises = r;
              few = omega arith;
            };
      }

  -- a radial of the present cut, or one after all counts: its place, and the next radial
  pub record Placed (first second cut count : ℕ) (s : Stretch) (rest : List Stretch) : Type 0 where
    pub entry : part 8 (index_for cuts ss) second ≡ bytes 8 s.start
    pub room : second + 8 ≤ length (index_for cuts ss)
    pub then : Making first (second + 8) cut (count + 1) rest

  pub placed : (first second cut count : ℕ) (s : Stretch) (rest : List Stretch) → Making first second cut count (s ∷ rest) → (cuts < cut) ⊎ (s.cut ≤ cut)
      → Placed first second cut count s rest
  unfolding Rising run place_of
  placed first second cut count s rest m h =
      let up = m.rises.0 in
      let l = m.high in
      let f = m.few in
      let here = next-entry (index_for cuts ss) second 8 (bytes 8 s.start) (run place_of rest) m.places (length-bytes 8 s.start) in
      record {
        entry = here.0;
        room = omega arith;
        then =
            record {
              counts = m.counts ∙ ap (λ (l : List ℕ). run count_of l ++ radial_section ss) (fewer h);
              places = here.1;
              low = m.low;
              high = omega arith;
              rises = rising-from cut s.cut rest up m.rises.1;
              few = omega arith;
            };
      }
    where
      fewer : (cuts < cut) ⊎ (s.cut ≤ cut) → owed (suc cuts - cut) cut count (s ∷ rest) ≡ owed (suc cuts - cut) cut (count + 1) rest
      fewer (inl over) = owed-end _ cut count (count + 1) (s ∷ rest) rest (omega arith)
      fewer (inr h) = let up = m.rises.0 in owed-one (suc cuts - cut) cut count s rest (omega arith)

-- What an index says is read back from its bytes: its first byte tells the form, and with it where everything stands; each number
-- is read as it was written, where it fits its bytes. So the bytes of an index are those of no other contents. Assumes nothing.
use Prim.Native.Nat.{ℕ, ◌+◌, ◌*◌, ◌^◌, ◌<◌, ◌≤◌}
use native.Mathlib.Nat.{mod-eq_of_lt}
use native.Mathlib.Omega.{arith}
use mathlib.Core.Bool.{false}
use mathlib.Core.List.{List, [], ◌∷◌, ◌++◌, append_assoc, append-nil, map, map-id}
use mathlib.Core.Logic.{dite}
use mathlib.Core.Path.{◌≡◌, refl, sym, ap, ap₂, ◌∙◌}
use native.Mathlib.Decide.{dec_lt}
use borrow.Author.Tests.{le-leb, lt-leb, ne_eqb}
use lib.Dec.{eqb}
use lib.ListN.{length, drop}
use Rattle.le.specs.Le.{le, bytes, run, items}
use Rattle.le.proofs.Laws.{length-bytes, le_bytes}
use Rattle.reading.specs.declared.Stretch.{Stretch}
use Rattle.index.specs.Index.{per_cut, old_start, new_start, most_old, count_of, cut_section, place_of, radial_section, index_by, index_for}
use Rattle.index.specs.Forms.{Below, Fit, old_cuts, cuts_said, counts_at, radials_at, said_by, contents_for}
use Rattle.index.proofs.Agree.{number_of}
use Rattle.index.proofs.Sections.{next-entry, length-per-cut, length-by, start_first, counts-first, radials-first}
use Rattle.index.proofs.Starts.{start-old, start-new, length-old, length-new}

-- ---- numbers that stand one behind the other

module _ {A : Type 0} (enc : A → List ℕ) (value : A → ℕ) (w : ℕ) (is : (a : A) → enc a ≡ bytes w (value a)) where
  read-run : (xs : List A) (f : List ℕ) (at : ℕ) (y : List ℕ) → drop at f ≡ run enc xs ++ y → Below value (256 ^ w) xs → items (le w) w (length xs) f at ≡ map value xs
  unfolding run items
  read-run [] f at y e h = refl
  read-run (x ∷ xs) f at y e h =
      let here = next-entry f at w (bytes w (value x)) (run enc xs ++ y) (e ∙ append_assoc (enc x) (run enc xs) y ∙ ap (λ (l : List ℕ). l ++ (run enc xs ++ y)) (is x)) (length-bytes w (value x)) in
      ap₂ (λ (n : ℕ) (l : List ℕ). n ∷ l) (number_of w (value x) f at here.0 ∙ mod-eq_of_lt h.0) (read-run xs f (at + w) y here.1 h.1)

-- ---- an index, by what it starts with

module _ (start : ℕ → List ℕ) (cuts : ℕ) (ss : List Stretch) where
  -- the start is told, and what stands behind it is read
  record Told : Type 0 where
    is : cuts_said (index_by start cuts ss) ≡ cuts
    at : counts_at (index_by start cuts ss) ≡ length (start cuts)

  read_back : Fit cuts ss → Told → said_by (index_by start cuts ss) ≡ contents_for cuts ss
  unfolding said_by radials_at count_of place_of
  read_back fit told =
      let x = index_by start cuts ss in
      let at = length (start cuts) + 2 * cuts in
      let radials = radials-first start cuts ss in
      let counts =
      rw (length-per-cut cuts 1 ss) at
      (read-run count_of (λ (n : ℕ). n) 2 (λ n. refl) (per_cut cuts 1 ss) x (length (start cuts)) (radial_section ss) (counts-first start cuts ss) fit.counts) in
      let number : le 4 x at ≡ length ss = number_of 4 (length ss) x at radials.0 ∙ mod-eq_of_lt fit.radials in
      let places = read-run place_of (λ (s : Stretch). s.start) 8 (λ s. refl) ss x (at + 4) [] (radials.1 ∙ sym (append-nil (run place_of ss))) fit.places in
      rw (told.is, told.at, number, counts, places, map-id (per_cut cuts 1 ss))

module _ (cuts : ℕ) (ss : List Stretch) where
  pub first-old : cuts < 256 → old_cuts (index_by old_start cuts ss) ≡ cuts
  unfolding old_start
  first-old h = ap (λ (f : List ℕ). le 1 f 0) (start_first old_start cuts ss) ∙ le_bytes 1 cuts _ h

  pub first-new : old_cuts (index_by new_start cuts ss) ≡ 0
  unfolding new_start le
  first-new = ap (λ (f : List ℕ). le 1 f 0) (start_first new_start cuts ss)

  old-told : 1 ≤ cuts → cuts < 256 → Told old_start cuts ss
  unfolding cuts_said counts_at
  old-told s h =
      let e = first-old h in
      let n : eqb cuts 0 ≡ false = ne_eqb cuts 0 (λ z. omega arith) in
      record { is = rw (e, n); at = rw (e, n) (sym (length-old cuts)) }

  new_told : cuts < 256 ^ 2 → Told new_start cuts ss
  unfolding cuts_said counts_at new_start le
  new_told h =
      record {
        is = rw first-new (ap (λ (f : List ℕ). le 2 f 1) (start_first new_start cuts ss) ∙ le_bytes 2 cuts _ h);
        at = rw first-new (sym (length-new cuts));
      }

-- ---- the index of so many cuts

module _ (cuts : ℕ) (ss : List Stretch) where
  pub few-cuts : cuts ≤ most_old → index_for cuts ss ≡ index_by old_start cuts ss
  unfolding index_by cut_section
  few-cuts h = rw (start-old cuts (le-leb cuts most_old h))

  pub many-cuts : most_old < cuts → index_for cuts ss ≡ index_by new_start cuts ss
  unfolding index_by cut_section
  many-cuts h = rw (start-new cuts (lt-leb cuts most_old h))

  pub says_back : Fit cuts ss → said_by (index_for cuts ss) ≡ contents_for cuts ss
  says_back fit =
      dite (dec_lt most_old cuts)
      (λ h. ap said_by (many-cuts h) ∙ read_back new_start cuts ss fit (new_told cuts ss fit.new))
      (λ h. ap said_by (few-cuts (omega arith)) ∙ read_back old_start cuts ss fit (old-told cuts ss fit.some (fit.old (omega arith))))

  -- one form is 2 bytes longer than the other
  pub other-form : index_by old_start cuts ss ≡ index_by new_start cuts ss → ⊥
  other-form e =
      let l : length (index_by old_start cuts ss) ≡ length (index_by new_start cuts ss) = ap length e in
      let o = length-by old_start cuts ss in
      let n = length-by new_start cuts ss in
      let p = length-old cuts in
      let q = length-new cuts in
      omega arith

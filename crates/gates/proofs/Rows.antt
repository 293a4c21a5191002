-- Laws of specs/Rows: a lent buffer that a loop fills from its front, whatever is listed, and the two of a row; and what a row answers.
-- Assumes nothing.
use mathlib.Core.Path.{◌≡◌, refl, sym, ap, ◌∙◌}
use mathlib.Core.Bool.{Bool, true, false}
use mathlib.Core.List.{List, [], ◌∷◌, ◌++◌, map}
use Prim.Native.Nat.{ℕ, zero, suc, ◌+◌, ◌≤◌, ◌<◌, min}
use native.Mathlib.Numerals.{add-one}
use native.Mathlib.Omega.{arith}
use lib.IntN.{ℤ, pos}
use lib.ListN.{length, get_or, set, take, drop, length-set, length-map, get_or-append, get_or-map}
use lib.Seq.{drop-cons, take-suc, take-length, length-take-le, set_at, append_snoc}
use borrow.Author.Tests.{le-leb}
use Rattle.std.specs.Prelude.{Result, Ok, Err}
use Rattle.refusal.specs.declared.Refusal.{Refusal}
use Rattle.refusal.specs.declared.Refusal.TheVariants.{NoRoom}
use Rattle.std.proofs.lemmas.Bool.Decides.{nat_tests}
use Rattle.gates.specs.declared.Coding.{Coding}
use Rattle.gates.specs.Gates.{kind_of}
use Rattle.gates.specs.Rows.{told_row, shown_of, row_kinds, row_hundredths, rooms, filled, Rowed}
use Rattle.gates.specs.Telling.{refused, answered}
use Rattle.gates.proofs.Tellings.{told-row-one}

-- `here` is `old` with its first i places filled by f of what is listed
pub record Partly {A B : Type 0} (f : B → A) (xs : List B) (old : List A) (i : ℕ) (here : List A) : Type 0 where
  pub is : here ≡ take i (map f xs) ++ drop i old
  pub long : length here ≡ length old

module _ {A B : Type 0} (f : B → A) (xs : List B) (old : List A) where
  pub fill_none : Partly f xs old 0 old
  fill_none = record { is = refl; long = refl }

  pub fill-turn : (none : B) (i : ℕ) (here : List A) (v : A) → Partly f xs old i here → i < length xs → i < length old → v ≡ f (get_or xs i none)
      → Partly f xs old (i + 1) (set here i v)
  fill-turn none i here v p hc ho e =
      let head = take i (map f xs) in
      let x = f (get_or xs i none) in
      let ln = length-map xs f in
      let lh : length head ≡ i = length-take-le i (map f xs) (omega arith) in
      let last : take (suc i) (map f xs) ≡ head ++ (x ∷ []) =
      take-suc (map f xs) i (f none) (omega arith) ∙ ap (λ (y : A). head ++ (y ∷ [])) (get_or-map f xs i none) in
      record {
        is = rw (p.is, e, add-one i, drop-cons old i x ho, last)
            (set_at head (get_or old i x) (drop (suc i) old) x i lh ∙ sym (append_snoc head x (drop (suc i) old)));
        long = length-set here i v ∙ p.long;
      }

  pub fill-all : (i : ℕ) (here : List A) → Partly f xs old i here → i ≡ length xs → here ≡ filled (map f xs) old
  fill-all i here p e = p.is ∙ rw (e, ← length-map xs f, take-length)

-- both buffers of a row after i gates
pub record Begun (c : Coding) (codes k : List ℕ) (h : List ℤ) (i : ℕ) (k' : List ℕ) (h' : List ℤ) : Type 0 where
  pub kinds : Partly (kind_of c) codes k i k'
  pub hundredths : Partly (shown_of c) codes h i h'

module _ (c : Coding) (codes k : List ℕ) (h : List ℤ) where
  pub begun-none : Begun c codes k h 0 k h
  begun-none = record { kinds = fill_none (kind_of c) codes k; hundredths = fill_none (shown_of c) codes h }

  pub begun-turn : {i : ℕ} {k' : List ℕ} {h' : List ℤ} (v : ℕ) (w : ℤ) → Begun c codes k h i k' h' → i < length codes → i < length k → i < length h
      → v ≡ kind_of c (get_or codes i 0) → w ≡ shown_of c (get_or codes i 0) → Begun c codes k h (i + 1) (set k' i v) (set h' i w)
  begun-turn {i} {k'} {h'} v w b hc hk hh ev ew = record {
    kinds = fill-turn (kind_of c) codes k 0 i k' v b.kinds hc hk ev;
    hundredths = fill-turn (shown_of c) codes h 0 i h' w b.hundredths hc hh ew;
  }

  pub begun_all : {i : ℕ} {k' : List ℕ} {h' : List ℤ} → Begun c codes k h i k' h' → i ≡ length codes → length codes ≤ length k → length codes ≤ length h
      → Rowed c codes k h (Ok i) k' h'
  begun_all {i} {k'} {h'} b e lk lh =
      let r : rooms codes k h ≡ true = rw (le-leb (length codes) (length k) lk, le-leb (length codes) (length h) lh) in
      record {
        answer = rw (r, e);
        kinds = rw r (fill-all (kind_of c) codes k i k' b.kinds e);
        hundredths = rw r (fill-all (shown_of c) codes h i h' b.hundredths e);
      }

  -- no room in a buffer: both are as they were
  no_room : rooms codes k h ≡ false → Rowed c codes k h (Err NoRoom) k h
  no_room e = record { answer = rw e; kinds = rw e; hundredths = rw e }

  pub short : min (length k) (length h) < length codes → Rowed c codes k h (Err NoRoom) k h
  short l = no_room (grind (arith, nat_tests))

-- ---- what a filled row holds

-- at a place that was filled, what was filled in for it; past the end of a list any element may be read
at_map : {A B : Type 0} (f : B → A) (xs : List B) (past : A) (none : B) (i : ℕ) → i < length xs → get_or (map f xs) i past ≡ f (get_or xs i none)
at_map f [] past none i l = absurd (omega arith)
at_map f (x ∷ xs) past none zero l = refl
at_map f (x ∷ xs) past none (suc i) l = at_map f xs past none i (omega arith)

pub at-filled : {A B : Type 0} (f : B → A) (xs : List B) (old : List A) (past : A) (none : B) (i : ℕ) → i < length xs → get_or (filled (map f xs) old) i past ≡ f (get_or xs i none)
at-filled f xs old past none i l =
    get_or-append (map f xs) (drop (length (map f xs)) old) past i (rw (length-map xs f) l) ∙ at_map f xs past none i l

pub record Shows (c : Coding) (codes : List ℕ) (n : ℕ) (k' : List ℕ) (h' : List ℤ) : Type 0 where
  pub all : n ≡ length codes
  pub kind : (i : ℕ) → i < n → get_or k' i 0 ≡ kind_of c (get_or codes i 0)
  pub hundredths : (i : ℕ) → i < n → get_or h' i (pos 0) ≡ shown_of c (get_or codes i 0)

-- a row that is answered was filled
pub record IsFilled (c : Coding) (codes k : List ℕ) (h : List ℤ) (n : ℕ) (k' : List ℕ) (h' : List ℤ) : Type 0 where
  pub all : n ≡ length codes
  pub kinds : k' ≡ filled (row_kinds c codes) k
  pub hundredths : h' ≡ filled (row_hundredths c codes) h

pub row-filled : {c : Coding} {codes k k' : List ℕ} {h h' : List ℤ} {r : Result ℕ Refusal} (n : ℕ) → Rowed c codes k h r k' h' → told_row r ≡ answered n → IsFilled c codes k h n k' h'
row-filled {c} {codes} {k} {k'} {h} {h'} {r} n p e = go (rooms codes k h) refl
  where
    go : (b : Bool) → rooms codes k h ≡ b → IsFilled c codes k h n k' h'
    go true q =
        let here : answered n ≡ answered (length codes) = sym e ∙ rw q at p.answer in
        let all : n ≡ length codes = cc in
        record { all = all; kinds = rw q at p.kinds; hundredths = rw q at p.hundredths }
    go false q =
        let here : answered n ≡ refused 33 0 = sym e ∙ rw q at p.answer in
        absurd (let z : ◌≡◌ {A = ℕ} 0 1 = cc in omega arith)

pub row_shows : {c : Coding} {codes k k' : List ℕ} {h h' : List ℤ} {r : Result ℕ Refusal} (n : ℕ) → Rowed c codes k h r k' h' → told_row r ≡ answered n → Shows c codes n k' h'
row_shows {c} {codes} {k} {k'} {h} {h'} n p e =
    let w = row-filled n p e in
    let all = w.all in
    record {
      all = all;
      kind = λ i l. ap (λ (x : List ℕ). get_or x i 0) w.kinds ∙ at-filled (kind_of c) codes k 0 0 i (omega arith);
      hundredths = λ i l. ap (λ (x : List ℤ). get_or x i (pos 0)) w.hundredths ∙ at-filled (shown_of c) codes h (pos 0) 0 i (omega arith);
    }

-- two results that are allowed for one input are one
pub row_one : {c : Coding} {codes k k' k'' : List ℕ} {h h' h'' : List ℤ} {r s : Result ℕ Refusal} → Rowed c codes k h r k' h' → Rowed c codes k h s k'' h''
    → (r ≡ s) × (k' ≡ k'') × (h' ≡ h'')
row_one {r = r} {s = s} p q = (told-row-one r s (p.answer ∙ sym q.answer), p.kinds ∙ sym q.kinds, p.hundredths ∙ sym q.hundredths)

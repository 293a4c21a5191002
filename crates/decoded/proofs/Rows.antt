-- The answer on a decoded row by whole lists and by the row question: the rest of specs/Exactly, of every file. Assumes nothing.
use Prim.Native.Nat.{ℕ, ◌+◌, ◌<◌, min}
use native.Mathlib.Omega.{arith}
use mathlib.Core.Bool.{true}
use mathlib.Core.List.{List, ◌++◌, append-nil}
use mathlib.Core.Path.{◌≡◌, refl, sym, ap, subst, ◌∙◌}
use borrow.Author.Tests.{le-leb}
use lib.IntN.{ℤ}
use lib.ListN.{length, take, drop, length-append}
use lib.Seq.{drop-length, take-length, take-append_seam}
use Rattle.std.specs.Prelude.{Result, Ok}
use Rattle.refusal.specs.declared.Refusal.{Refusal}
use Rattle.gates.specs.declared.Coding.{Coding}
use Rattle.gates.specs.Rows.{told_row, row_kinds, row_hundredths, rooms, filled, Rowed}
use Rattle.gates.specs.Telling.{answered}
use Rattle.gates.proofs.Rows.{IsFilled, row-filled}
use Rattle.ask.specs.Answers.{Unfilled, RowTold}
use Rattle.ask.specs.Growth.{RowAsked}
use Rattle.ask.proofs.Shown.{not-filled}
use Rattle.decoded.specs.Decoded.{agreed, Checked, same, differs, check_asked}
use Rattle.decoded.specs.Exactly.{There, Exactly, FilledIsRow}
use Rattle.decoded.proofs.Checked.{Ends, checked-differs}
use Rattle.decoded.proofs.Exactly.{coding, codes, there-or, found, found-32, is-checked, ends-row, row_ends, is_same, same_ends, differs-first, first-differs}
use Rattle.decoded.proofs.Lists.{many-kinds, many-hundredths, agreed-longer, agreed-shorter, own-ends, ends-own}

module _ {A : Type 0} where
  -- a room that is filled to its end holds what was filled in, and any room does in front
  filled-all : (new old : List A) → length old ≡ length new → filled new old ≡ new
  filled-all new old e = rw (← e, drop-length old) (append-nil new)

  filled-front : (new old : List A) (m : ℕ) (room : List A) → m ≡ length new → room ≡ filled new old → take m room ≡ new
  filled-front new old m room e x = rw (x, e) (take-append_seam new (drop (length new) old))

-- a row that was answered is one of a moment that is there
row-there : (f : List ℕ) (n t m : ℕ) (k k' : List ℕ) (h h' : List ℤ) (r : Result ℕ Refusal) → told_row r ≡ answered m → RowAsked f n t k h r k' h' → There f n t
unfolding RowTold
row-there f n t m k k' h h' r e x =
    let no : (number : ℕ) → Unfilled number k h r k' h' → There f n t = λ number y. absurd (not-filled r m number e y.answer) in
    there-or f n t (λ q. no 30 (rw q at x)) (λ q. no 31 (rw q at x)) (λ w. w)

module _ (f : List ℕ) (n t : ℕ) (w : There f n t) where
  abbrev c : Coding
  c = coding f n t w

  abbrev own : List ℕ
  own = codes f n t w

  abbrev kinds : List ℕ
  kinds = row_kinds c own

  abbrev hundredths : List ℤ
  hundredths = row_hundredths c own

  own_same : check_asked f n t kinds hundredths ≡ answered same
  own_same = is_same f n t w kinds hundredths (own-ends c own)

  -- the three do not end together
  is-differs : (k : List ℕ) (h : List ℤ) (g : ℕ) → agreed c own k h ≡ g → (Ends c own k h → ⊥) → check_asked f n t k h ≡ answered (differs g)
  is-differs k h g e not = is-checked f n t w k h ∙ ap (λ (x : Checked). answered x) (checked-differs c own k h not ∙ ap differs e)

  own-longer : (ks : List ℕ) (hs : List ℤ) → 0 < length ks + length hs → check_asked f n t (kinds ++ ks) (hundredths ++ hs) ≡ answered (differs (length kinds))
  own-longer ks hs some =
      let mk = many-kinds c own in
      let mh = many-hundredths c own in
      is-differs (kinds ++ ks) (hundredths ++ hs) (length kinds) (agreed-longer c own ks hs ∙ sym mk)
      (λ e.
      let lk = e.kinds in
      let lh = e.hundredths in
      let x = length-append kinds ks in
      let y = length-append hundredths hs in
      omega arith)

  own-shorter : (a b : ℕ) → min a b < length kinds → check_asked f n t (take a kinds) (take b hundredths) ≡ answered (differs (min a b))
  own-shorter a b l =
      let mk = many-kinds c own in
      let x = agreed-shorter c own a b in
      is-differs (take a kinds) (take b hundredths) (min a b) (x ∙ omega arith) (λ e. let r = e.row in omega arith)

  -- the row question, lent rooms of the row's length that hold it
  is-rowed : Rowed c own kinds hundredths (Ok (length kinds)) kinds hundredths
  is-rowed =
      let mk = many-kinds c own in
      let mh = many-hundredths c own in
      let r : rooms own kinds hundredths ≡ true = rw (le-leb (length own) (length kinds) (omega arith), le-leb (length own) (length hundredths) (omega arith)) in
      record { answer = rw (r, mk); kinds = rw r (sym (filled-all kinds kinds refl)); hundredths = rw r (sym (filled-all hundredths hundredths refl)) }

  own-refilled : (length hundredths ≡ length kinds) × RowAsked f n t kinds hundredths (Ok (length kinds)) kinds hundredths
  unfolding RowTold
  own-refilled = (many-hundredths c own ∙ sym (many-kinds c own), rw w.at is-rowed)

  -- what the row question filled
  is-filled : (m : ℕ) (k k' : List ℕ) (h h' : List ℤ) (r : Result ℕ Refusal) → told_row r ≡ answered m → RowAsked f n t k h r k' h' → IsFilled c own k h m k' h'
  unfolding RowTold
  is-filled m k k' h h' r e x = row-filled m (rw w.at at x) e

  filled-same : (m : ℕ) (k k' : List ℕ) (h h' : List ℤ) → IsFilled c own k h m k' h' → check_asked f n t (take m k') (take m h') ≡ answered same
  filled-same m k k' h h' y =
      let mk = many-kinds c own in
      let mh = many-hundredths c own in
      let front : (take m k' ≡ kinds) × (take m h' ≡ hundredths) = (filled-front kinds k m k' (y.all ∙ sym mk) y.kinds, filled-front hundredths h m h' (y.all ∙ sym mh) y.hundredths) in
      rw (front.0, front.1) own_same

  -- lists that are answered yes are the row's, for any statement on them
  module _ (k : List ℕ) (h : List ℤ) where
    is-own : check_asked f n t k h ≡ answered same → (k ≡ kinds) × (h ≡ hundredths)
    is-own e = ends-own c own k h (same_ends f n t w k h e)

    own_is : (k ≡ kinds) × (h ≡ hundredths) → check_asked f n t k h ≡ answered same
    own_is o = rw (o.0, o.1) own_same

    by-own : (P : List ℕ → List ℤ → Type 0) → check_asked f n t k h ≡ answered same → P kinds hundredths → P k h
    by-own P e x = let o = is-own e in subst (λ (y : List ℕ). P y h) (sym o.0) (subst (P kinds) (sym o.1) x)

module _ (f : List ℕ) (n t : ℕ) (k : List ℕ) (h : List ℤ) where
  refilled_same : length h ≡ length k → RowAsked f n t k h (Ok (length k)) k h → check_asked f n t k h ≡ answered same
  refilled_same l x =
      let w = row-there f n t (length k) k k h h (Ok (length k)) refl x in
      rw (take-length k, ← l, take-length h) at (filled-same f n t w (length k) k k h h (is-filled f n t w (length k) k k h h (Ok (length k)) refl x))

  there : (x : Checked) → check_asked f n t k h ≡ answered x → There f n t
  there = found f n t k h

  pub exactly : Exactly f n t k h
  exactly =
      record {
        yes = (
          λ e. let w = there same e in ends-row f n t w k h (same_ends f n t w k h e),
          λ r. let w = found-32 f n t r.gates r.last.row in is_same f n t w k h (row_ends f n t w k h r),
        );
        first = λ g. (λ e. differs-first f n t (there (differs g) e) k h g e, λ a. first-differs f n t a.moment k h g a);
        lists = λ s p q. let w : There f n t = record { stretch = s; place = p; at = q } in (is-own f n t w k h, own_is f n t w k h);
        refilled = (
          λ e. let w = there same e in by-own f n t w k h (λ (x : List ℕ) (y : List ℤ). (length y ≡ length x) × RowAsked f n t x y (Ok (length x)) x y) e (own-refilled f n t w),
          λ x. refilled_same x.0 x.1,
        );
        longer = λ e ks hs some.
            let w = there same e in
            by-own f n t w k h (λ (x : List ℕ) (y : List ℤ). check_asked f n t (x ++ ks) (y ++ hs) ≡ answered (differs (length x))) e (own-longer f n t w ks hs some);
        shorter = λ e a b.
            let w = there same e in
            by-own f n t w k h (λ (x : List ℕ) (y : List ℤ). min a b < length x → check_asked f n t (take a x) (take b y) ≡ answered (differs (min a b))) e (own-shorter f n t w a b);
      }

pub filled-is-row : FilledIsRow
filled-is-row f n t m k k' h h' r e x =
    let w = row-there f n t m k k' h h' r e x in
    filled-same f n t w m k k' h h' (is-filled f n t w m k k' h h' r e x)

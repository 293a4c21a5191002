-- A file in pieces, by the last radial that is kept: what the mended volume is made of, and what copying two runs and changing two fields
-- makes of a room. Assumes nothing.
use Prim.Native.Nat.{ℕ, ◌+◌, ◌-◌, ◌≤◌}
use native.Mathlib.Nat.{zero-add}
use native.Mathlib.Omega.{arith}
use mathlib.Core.List.{List, [], ◌++◌, append_assoc, append-nil}
use mathlib.Core.Path.{◌≡◌, refl, sym, ap, ap₂, subst, ◌∙◌}
use lib.ListN.{length, take, drop, length-append}
use lib.Seq.{take_at, drop_at}
use Rattle.le.specs.Le.{bytes, part, patch, stored, Bytes}
use Rattle.le.proofs.Laws.{length-bytes, length_part, length-patch, laid-first, laid_next, stored-in}
use Rattle.le.proofs.Here.{cut-here, drop-bytes}
use Rattle.reading.specs.declared.Stretch.{Stretch}
use Rattle.hope.proofs.Told.{front_bytes}
use Rattle.mend.specs.Mend.{cut_number, last_state, changed, without, behind_cut, mended, Lies}

-- ---- lists

-- a field in the middle, changed
pub patch-mid : (a x y b : List ℕ) (at : ℕ) → length a ≡ at → length y ≡ length x → patch (a ++ (x ++ b)) at y ≡ a ++ (y ++ b)
unfolding patch
patch-mid a x y b at l e =
    let n : length (a ++ x) ≡ at + length y = let k = length-append a x in omega arith in
    ap₂ (λ (p q : List ℕ). p ++ y ++ q) (take_at a (x ++ b) at l) (ap (drop (at + length y)) (sym (append_assoc a x b)) ∙ drop_at (a ++ x) b (at + length y) n)
    ∙ append_assoc a y b

-- one in what was laid at the front of a room
patch-laid : (room a x y b : List ℕ) (at : ℕ) → length a ≡ at → length y ≡ length x → patch (patch room 0 (a ++ (x ++ b))) at y ≡ patch room 0 (a ++ (y ++ b))
unfolding patch
patch-laid room a x y b at l e =
    let behind = drop (0 + length (a ++ (x ++ b))) room in
    let same : length (a ++ (x ++ b)) ≡ length (a ++ (y ++ b)) = simp length-append (omega arith) in
    ap (λ (z : List ℕ). patch z at y) (regroup x behind)
    ∙ patch-mid a x y (b ++ behind) at l e
    ∙ sym (regroup y behind)
    ∙ ap (λ (k : ℕ). (a ++ (y ++ b)) ++ drop (0 + k) room) same
  where
    regroup : (z w : List ℕ) → (a ++ (z ++ b)) ++ w ≡ a ++ (z ++ (b ++ w))
    regroup z w = simp append_assoc

-- a stretch in the middle, left out
without-mid : (a x b : List ℕ) (i j : ℕ) → length a ≡ i → length a + length x ≡ j → without (a ++ (x ++ b)) i j ≡ a ++ b
without-mid a x b i j l e =
    let n : length (a ++ x) ≡ j = length-append a x ∙ e in
    ap₂ (λ (p q : List ℕ). p ++ q) (take_at a (x ++ b) i l) (ap (drop j) (sym (append_assoc a x b)) ∙ drop_at (a ++ x) b j n)

-- a stretch in the middle, by itself
pub mid : (a x b : List ℕ) (i j : ℕ) → length a ≡ i → length x ≡ j → take j (drop i (a ++ (x ++ b))) ≡ x
mid a x b i j l e = ap (take j) (drop_at a (x ++ b) i l) ∙ take_at x b j e

-- the bytes of each of two runs
pub split-bytes : (x y : List ℕ) → Bytes (x ++ y) → Bytes x × Bytes y
split-bytes x y bs = (
  subst Bytes (take_at x y (length x) refl) (front_bytes (length x) (x ++ y) bs),
  subst Bytes (drop_at x y (length x) refl) (drop-bytes (x ++ y) (length x) (let l = length-append x y in omega arith) bs),
)

-- from one place to another, and on
to : (f : List ℕ) (i j : ℕ) → i ≤ j → j ≤ length f → drop i f ≡ part (j - i) f i ++ drop j f
to f i j h k =
    let e : i + (j - i) ≡ j = omega arith in
    cut-here f i (j - i) (omega arith) ∙ ap (λ (n : ℕ). part (j - i) f i ++ drop n f) e

-- ---- the pieces

-- up to the cut number; it; up to the end of the last kept cut's block; the dropped blocks; the radials up to the last kept one; its state;
-- the rest of it; and what is left out behind it
pub record Pieces (f : List ℕ) (s : Stretch) : Type 0 where
  pub a : List ℕ
  pub n : List ℕ
  pub b : List ℕ
  pub c : List ℕ
  pub r : List ℕ
  pub o : List ℕ
  pub d : List ℕ
  pub rest : List ℕ
  pub file : f ≡ a ++ (n ++ (b ++ (c ++ (r ++ (o ++ (d ++ rest))))))
  pub to_number : length a ≡ 336
  pub number : length n ≡ 4
  pub to-dropped : 340 + length b ≡ behind_cut s.cut
  pub to-radials : behind_cut s.cut + length c ≡ behind_cut (cut_number f)
  pub to-state : behind_cut (cut_number f) + length r ≡ s.start
  pub state : length o ≡ 4
  pub to_end : s.start + 4 + length d ≡ s.end

module _ (f : List ℕ) (s : Stretch) (l : Lies f s) where
  pub pieces : Pieces f s
  pieces =
      let front = behind_cut s.cut in
      let back = behind_cut (cut_number f) in
      record {
        a = part 336 f 0;
        n = part 4 f 336;
        b = part (front - 340) f 340;
        c = part (back - front) f front;
        r = part (s.start - back) f back;
        o = part 4 f s.start;
        d = part (s.end - (s.start + 4)) f (s.start + 4);
        rest = drop s.end f;
        file =
            to f 0 336 (omega arith) (omega arith)
            ∙ ap (λ (x : List ℕ). part 336 f 0 ++ x) (to f 336 340 (omega arith) (omega arith)
            ∙ ap (λ (x : List ℕ). part 4 f 336 ++ x) (to f 340 front (omega arith) (omega arith)
            ∙ ap (λ (x : List ℕ). part (front - 340) f 340 ++ x) (to f front back (omega arith) (omega arith)
            ∙ ap (λ (x : List ℕ). part (back - front) f front ++ x) (to f back s.start (omega arith) (omega arith)
            ∙ ap (λ (x : List ℕ). part (s.start - back) f back ++ x) (cut-here f s.start 4 (omega arith)
            ∙ ap (λ (x : List ℕ). part 4 f s.start ++ x) (to f (s.start + 4) s.end (omega arith) (omega arith)))))));
        to_number = length_part 336 f 0;
        number = length_part 4 f 336;
        to-dropped = let k = length_part (front - 340) f 340 in omega arith;
        to-radials = let k = length_part (back - front) f front in omega arith;
        to-state = let k = length_part (s.start - back) f back in omega arith;
        state = length_part 4 f s.start;
        to_end = let k = length_part (s.end - (s.start + 4)) f (s.start + 4) in omega arith;
      }

-- ---- the front up to the dropped blocks and the back behind them, whatever the two fields hold

module _ (f : List ℕ) (s : Stretch) (p : Pieces f s) where
  abbrev front : List ℕ → List ℕ
  front n = p.a ++ (n ++ p.b)

  abbrev back : List ℕ → List ℕ
  back o = p.r ++ (o ++ p.d)

  front_long : (n : List ℕ) → length n ≡ 4 → length (front n) ≡ behind_cut s.cut
  front_long n h = simp length-append (omega arith)

  back_long : (o : List ℕ) → length o ≡ 4 → length (back o) ≡ s.end - behind_cut (cut_number f)
  back_long o h = simp length-append (omega arith)

  kept-long : (n o : List ℕ) → length n ≡ 4 → length o ≡ 4 → length (front n ++ (p.c ++ back o)) ≡ s.end
  kept-long n o h k = simp length-append (omega arith)

  apart : f ≡ (front p.n ++ (p.c ++ back p.o)) ++ p.rest
  apart = p.file ∙ simp append_assoc

  -- the two runs that are copied
  front-run : take (behind_cut s.cut) f ≡ front p.n
  front-run =
      ap (take (behind_cut s.cut)) (apart ∙ append_assoc (front p.n) (p.c ++ back p.o) p.rest)
      ∙ take_at (front p.n) ((p.c ++ back p.o) ++ p.rest) (behind_cut s.cut) (front_long p.n p.number)

  back-run : take (s.end - behind_cut (cut_number f)) (drop (behind_cut (cut_number f)) f) ≡ back p.o
  back-run =
      let whole : f ≡ (front p.n ++ p.c) ++ (back p.o ++ p.rest) = apart ∙ simp append_assoc in
      let long : length (front p.n ++ p.c) ≡ behind_cut (cut_number f) = simp length-append (omega arith) in
      ap (λ (x : List ℕ). take (s.end - behind_cut (cut_number f)) (drop (behind_cut (cut_number f)) x)) whole
      ∙ mid (front p.n ++ p.c) (back p.o) p.rest (behind_cut (cut_number f)) (s.end - behind_cut (cut_number f)) long (back_long p.o p.state)

-- ---- what is made of them

-- taken apart before the state
pub regroup-state : (a n b r x : List ℕ) → a ++ (n ++ (b ++ (r ++ x))) ≡ (a ++ (n ++ (b ++ r))) ++ x
regroup-state a n b r x = simp append_assoc

module _ (f : List ℕ) (s : Stretch) (p : Pieces f s) where
  abbrev number : List ℕ
  number = bytes 4 s.cut

  abbrev state : List ℕ
  state = bytes 4 (last_state f s)

  -- the mended volume
  abbrev pub of_pieces : List ℕ
  of_pieces = p.a ++ (number ++ (p.b ++ (p.r ++ (state ++ p.d))))

  -- how long it is, by the places
  pub long : length of_pieces ≡ s.end - (behind_cut (cut_number f) - behind_cut s.cut)
  long = let n = length-bytes 4 s.cut in let o = length-bytes 4 (last_state f s) in simp length-append (omega arith)

  -- where its last radial begins
  pub state-at : length (p.a ++ (number ++ (p.b ++ p.r))) ≡ s.start - (behind_cut (cut_number f) - behind_cut s.cut)
  state-at = let n = length-bytes 4 s.cut in simp length-append (omega arith)

  changed-is : changed f s ≡ (front f s p number ++ (p.c ++ back f s p state)) ++ (p.rest ++ [])
  unfolding changed
  changed-is =
      let n = length-bytes 4 s.cut in
      let o = length-bytes 4 (last_state f s) in
      let before = p.a ++ (number ++ (p.b ++ (p.c ++ p.r))) in
      let long : length before ≡ s.start = simp length-append (omega arith) in
      let numbered : patch f 336 number ≡ before ++ (p.o ++ (p.d ++ p.rest)) =
      ap (λ (x : List ℕ). patch x 336 number) p.file ∙ patch-mid p.a p.n number _ 336 p.to_number (omega arith) ∙ simp append_assoc in
      ap (λ (x : List ℕ). patch x s.start state) numbered
      ∙ patch-mid before p.o state (p.d ++ p.rest) s.start long (omega arith)
      ∙ simp (append_assoc, append-nil)

  pub mended-is : mended f s ≡ of_pieces
  unfolding mended
  mended-is =
      let n = length-bytes 4 s.cut in
      let o = length-bytes 4 (last_state f s) in
      let frontal = front f s p number in
      let rear = back f s p state in
      let first = front_long f s p number n in
      let kept = kept-long f s p number state n o in
      let old = kept-long f s p p.n p.o p.number p.state in
      let all = ap length (apart f s p) ∙ length-append (front f s p p.n ++ (p.c ++ back f s p p.o)) p.rest in
      ap (λ (x : List ℕ). without (without x s.end (length f)) (behind_cut s.cut) (behind_cut (cut_number f))) changed-is
      ∙ ap (λ (x : List ℕ). without x (behind_cut s.cut) (behind_cut (cut_number f))) (without-mid (frontal ++ (p.c ++ rear)) p.rest [] s.end (length f) kept (omega arith) ∙ append-nil (frontal ++ (p.c ++ rear)))
      ∙ without-mid frontal p.c rear (behind_cut s.cut) (behind_cut (cut_number f)) first (omega arith)
      ∙ simp append_assoc

  -- the two runs and the two fields, stored each, make it of a room that it fits in
  pub stores : (room r1 r2 r3 r4 : List ℕ) → length of_pieces ≤ length room
      → r1 ≡ stored (length (take (behind_cut s.cut) f)) room 0 (take (behind_cut s.cut) f)
      → r2 ≡ stored (length (take (s.end - behind_cut (cut_number f)) (drop (behind_cut (cut_number f)) f))) r1 (behind_cut s.cut) (take (s.end - behind_cut (cut_number f)) (drop (behind_cut (cut_number f)) f))
      → r3 ≡ stored 4 r2 336 number → r4 ≡ stored 4 r3 (s.start - (behind_cut (cut_number f) - behind_cut s.cut)) state
      → r4 ≡ patch room 0 of_pieces
  stores room r1 r2 r3 r4 fits e1 e2 e3 e4 =
      let at = s.start - (behind_cut (cut_number f) - behind_cut s.cut) in
      let x = take (behind_cut s.cut) f in
      let y = take (s.end - behind_cut (cut_number f)) (drop (behind_cut (cut_number f)) f) in
      let n = length-bytes 4 s.cut in
      let o = length-bytes 4 (last_state f s) in
      let size = long in
      let lx : length x ≡ behind_cut s.cut = ap length (front-run f s p) ∙ front_long f s p p.n p.number in
      let ly : length y ≡ s.end - behind_cut (cut_number f) = ap length (back-run f s p) ∙ back_long f s p p.o p.state in
      let one = laid-first 0 (behind_cut s.cut) {x = x} (e1 ∙ ap (λ (k : ℕ). stored k room 0 x) lx) lx (omega arith) in
      let two = laid_next (length y) y one (e2 ∙ ap (λ (k : ℕ). stored (length y) r1 k y) (sym (zero-add (behind_cut s.cut)))) refl (omega arith) in
      let runs : x ++ y ≡ p.a ++ (p.n ++ (p.b ++ (p.r ++ (p.o ++ p.d)))) = ap₂ (λ (v w : List ℕ). v ++ w) (front-run f s p) (back-run f s p) ∙ simp append_assoc in
      let same = two.same in
      let p3 = e3 ∙ stored-in 4 r2 336 number (omega arith) in
      let l3 = ap length p3 ∙ length-patch r2 336 number (omega arith) in
      let numbered : r3 ≡ patch room 0 (p.a ++ (number ++ (p.b ++ (p.r ++ (p.o ++ p.d))))) =
      p3 ∙ ap (λ (r : List ℕ). patch r 336 number) (two.is ∙ ap (patch room 0) runs) ∙ patch-laid room p.a p.n number _ 336 p.to_number (omega arith) in
      e4
      ∙ stored-in 4 r3 at state (omega arith)
      ∙ ap (λ (r : List ℕ). patch r at state) (numbered ∙ ap (patch room 0) (regroup-state p.a number p.b p.r (p.o ++ p.d)))
      ∙ patch-laid room (p.a ++ (number ++ (p.b ++ p.r))) p.o state p.d at state-at (omega arith)
      ∙ ap (patch room 0) (sym (regroup-state p.a number p.b p.r (state ++ p.d)))

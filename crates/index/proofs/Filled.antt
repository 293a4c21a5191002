-- A room into which the two sections of an index are put, entry by entry: what was put stays, since each entry goes behind
-- those of its section, and what stands past the index is as it was. Assumes nothing.
use Prim.Native.Nat.{ℕ, ◌+◌, ◌-◌, ◌≤◌}
use native.Mathlib.Nat.{zero-add}
use native.Mathlib.Omega.{arith}
use mathlib.Core.List.{List, ◌++◌}
use mathlib.Core.Logic.{◌⊎◌, inl, inr}
use mathlib.Core.Path.{◌≡◌, refl, sym, ap, ap₂, ◌∙◌}
use lib.ListN.{length, take, drop, length-append, take-append-drop}
use lib.Seq.{length-take-le}
use Rattle.le.specs.Le.{part, patch, stored}
use Rattle.le.proofs.Laws.{part-here, part_in, part-past, part-take, part-drop, to_end, part-patch, length-patch, stored-in}
use Rattle.index.proofs.Agree.{Agree, agree-none, agree-low, agree-high, agree-all}

-- what is put leaves a part before it, or after it
apart : (n : ℕ) (f : List ℕ) (p at : ℕ) (x : List ℕ) → at + length x ≤ length f → (p + n ≤ at) ⊎ (at + length x ≤ p) → part n (patch f at x) p ≡ part n f p
unfolding patch
apart n f p at x h k =
    let l : length (take at f ++ x) ≡ at + length x = length-append (take at f) x ∙ ap (λ (n : ℕ). n + length x) (length-take-le at f (omega arith)) in
    go l k
  where
    go : length (take at f ++ x) ≡ at + length x → (p + n ≤ at) ⊎ (at + length x ≤ p) → part n (take at f ++ x ++ drop (at + length x) f) p ≡ part n f p
    go l (inl k) =
        part_in n (take at f ++ x) (drop (at + length x) f) p (omega arith)
        ∙ part_in n (take at f) x p (omega (arith, length-take-le at f (omega arith))) ∙ part-take n f p at k
    go l (inr k) =
        let e : length (take at f ++ x) + (p - (at + length x)) ≡ p = omega arith in
        ap (part n (take at f ++ x ++ drop (at + length x) f)) (sym e)
        ∙ part-past n (take at f ++ x) (drop (at + length x) f) (p - (at + length x))
        ∙ part-drop n (at + length x) f (p - (at + length x)) ∙ ap (part n f) (omega arith)

-- ---- the room

pub record Filled (index before : List ℕ) (seam first second : ℕ) (room : List ℕ) : Type 0 where
  pub agree : Agree index room seam first second
  pub past : part (length before - length index) room (length index) ≡ part (length before - length index) before (length index)
  pub long : length room ≡ length before
  pub fits : length index ≤ length before
  pub within : seam ≤ length index
  pub below : first ≤ seam

pub filled_none : (index before : List ℕ) (seam : ℕ) → length index ≤ length before → seam ≤ length index → Filled index before seam 0 seam before
filled_none index before seam f w =
    record { agree = agree-none index before seam; past = refl; long = refl; fits = f; within = w; below = omega arith }

module _ {index before : List ℕ} {seam first second : ℕ} {room : List ℕ} (h : Filled index before seam first second room) where
  -- what stands stays, where an entry is put behind the first section's entries and not among the second's
  kept : (at : ℕ) (x : List ℕ) → first ≤ at → (seam + (second - seam) ≤ at) ⊎ (at + length x ≤ seam) → at + length x ≤ length index
      → Filled index before seam first second (patch room at x)
  kept at x a b c =
      let l = h.long in
      let s = h.fits in
      let r : at + length x ≤ length room = omega arith in
      record {
        agree =
            record {
              low = apart first room 0 at x r (inl (omega arith)) ∙ h.agree.low;
              high = apart (second - seam) room seam at x r b ∙ h.agree.high;
              above = h.agree.above;
            };
        past = apart (length before - length index) room (length index) at x r (inr c) ∙ h.past;
        long = length-patch room at x r ∙ l;
        fits = s;
        within = h.within;
        below = h.below;
      }

  module _ {after : List ℕ} (k : ℕ) (x : List ℕ) (is : length x ≡ k) where
    -- an entry put into the first section, and one put into the second
    pub filled-low : after ≡ stored k room first x → part k index first ≡ x → first + k ≤ seam → Filled index before seam (first + k) second after
    filled-low e entry b =
        let l = h.long in
        let w = h.within in
        let s = h.fits in
        let q = kept first x (omega arith) (inr (omega arith)) (omega arith) in
        let stands = part-patch k room first x is (omega arith) ∙ sym entry in
        rw (e ∙ stored-in k room first x (omega arith))
        (record { agree = agree-low index (patch room first x) seam first second k q.agree stands; past = q.past; long = q.long; fits = s; within = w; below = b })

    pub filled-high : after ≡ stored k room second x → part k index second ≡ x → second + k ≤ length index → Filled index before seam first (second + k) after
    filled-high e entry b =
        let l = h.long in
        let g = h.agree.above in
        let s = h.fits in
        let o = h.below in
        let q = kept second x (omega arith) (inl (omega arith)) (omega arith) in
        let stands = part-patch k room second x is (omega arith) ∙ sym entry in
        rw (e ∙ stored-in k room second x (omega arith))
        (record { agree = agree-high index (patch room second x) seam first second k q.agree stands; past = q.past; long = q.long; fits = s; within = h.within; below = o })

  -- what is past the index
  pub past_is : drop (length index) room ≡ drop (length index) before
  past_is = sym (rest room h.long) ∙ h.past ∙ rest before refl
    where
      rest : (r : List ℕ) → length r ≡ length before → part (length before - length index) r (length index) ≡ drop (length index) r
      rest r l =
          let s = h.fits in
          sym (part-here (length before - length index) r (length index) (omega arith))
          ∙ to_end r (length index) (length before - length index) (omega arith)

  -- all entries put
  pub filled-all : first ≡ seam → second ≡ length index → room ≡ patch before 0 index
  unfolding patch
  filled-all ef es =
      let a = agree-all index room seam first second h.agree ef es in
      sym (take-append-drop (length index) room) ∙ ap₂ (λ (u v : List ℕ). u ++ v) (front ∙ a) (rw (zero-add (length index)) past_is)
    where
      front : take (length index) room ≡ part (length index) room 0
      front = let l = h.long in let s = h.fits in part-here (length index) room 0 (omega arith)

  -- the same room, and what is put into it from here on
  pub filled-anew : Filled index room seam first second room
  filled-anew =
      let l = h.long in
      let s = h.fits in
      record { agree = h.agree; past = refl; long = refl; fits = omega arith; within = h.within; below = h.below }

  pub filled-over : patch room 0 index ≡ patch before 0 index
  unfolding patch
  filled-over = rw (zero-add (length index), past_is)

-- What is written, with a block's bytes after it, and the parts of both. Assumes nothing.
use Prim.Native.Nat.{ℕ, ◌+◌, ◌≤◌}
use native.Mathlib.Omega.{arith}
use mathlib.Core.Path.{◌≡◌, sym, ap, ◌∙◌}
use mathlib.Core.List.{List, ◌++◌}
use native.Mathlib.Nat.{add-zero}
use lib.ListN.{length, take, drop, length-append}
use lib.Seq.{take_at, take_all, take-add, length-take-le}
use Rattle.le.specs.Le.{part, patch}
use Rattle.le.proofs.Laws.{part-past, part_in, part-take, part-all, part-here}

-- a list's front, and what follows it
pub front-part : (n : ℕ) (f : List ℕ) (at : ℕ) → at + n ≤ length f → take at f ++ part n f at ≡ take (at + n) f
front-part n f at h = ap (λ (l : List ℕ). take at f ++ l) (sym (part-here n f at h)) ∙ sym (take-add at n f)

module _ (room : List ℕ) (at : ℕ) (bs : List ℕ) (n : ℕ) (long : length bs ≡ n) (within : at ≤ length room) where
  front_length : length (take at room ++ bs) ≡ at + n
  front_length = let l = length-take-le at room within in length-append (take at room) bs ∙ omega arith

  -- the whole of it, by the place where it ends
  pub front-all : take (at + n) (take at room ++ bs) ≡ take at room ++ bs
  front-all = let l = front_length in take_all (at + n) (take at room ++ bs) (omega arith)

  -- the bytes at the end
  pub front-last : part n (take at room ++ bs) at ≡ bs
  front-last =
      let l : length (take at room) + 0 ≡ at = add-zero (length (take at room)) ∙ length-take-le at room within in
      ap (part n (take at room ++ bs)) (sym l) ∙ part-past n (take at room) bs 0 ∙ part-all n bs long

  -- a part that lies before the end
  pub front-before : (k place : ℕ) → place + k ≤ at → part k (take at room ++ bs) place ≡ part k room place
  front-before k place h =
      let l = length-take-le at room within in
      part_in k (take at room) bs place (omega arith) ∙ part-take k room place at h

  -- what is written once the bytes are stored
  pub front-patch : take (at + n) (patch room at bs) ≡ take at room ++ bs
  unfolding patch
  front-patch = take_at (take at room ++ bs) (drop (at + length bs) room) (at + n) front_length

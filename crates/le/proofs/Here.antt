-- What stands in a file from a place on, taken apart at the front. Assumes nothing.
use Prim.Native.Nat.{ℕ, ◌+◌, ◌-◌, ◌≤◌}
use native.Mathlib.Omega.{arith}
use mathlib.Core.Path.{◌≡◌, refl, sym, ap, subst, ◌∙◌}
use mathlib.Core.List.{List, ◌++◌}
use lib.ListN.{length, take, drop, length-append, length-drop, take-append-drop}
use lib.Seq.{drop-drop, take_at, drop_at}
use Rattle.le.specs.Le.{part, Bytes}
use Rattle.le.proofs.Laws.{part-take, part-here, part_bytes, to_end}

-- from place `at` on the file is g
pub record At (f : List ℕ) (at : ℕ) (g : List ℕ) : Type 0 where
  pub within : at ≤ length f
  pub rest : drop at f ≡ g

-- the n bytes x stand there, and then g
pub record Here (f : List ℕ) (at n : ℕ) (x g : List ℕ) : Type 0 where
  pub room : at + n ≤ length f
  pub is : part n (take (at + n) f) at ≡ x
  pub next : At f (at + n) g

pub here : (f : List ℕ) (at n : ℕ) (x g : List ℕ) → length x ≡ n → At f at (x ++ g) → Here f at n x g
here f at n x g e a =
    let i = a.within in
    let l : length f - at ≡ length x + length g = sym (length-drop at f) ∙ ap length a.rest ∙ length-append x g in
    let r : at + n ≤ length f = omega arith in
    record {
      room = r;
      is = part-take n f at (at + n) (omega arith) ∙ sym (part-here n f at r) ∙ ap (take n) a.rest ∙ take_at x g n e;
      next = record { within = r; rest = sym (drop-drop n at f) ∙ ap (drop n) a.rest ∙ drop_at x g n e };
    }

-- what stands there, by the place where it ends
pub cut-here : (f : List ℕ) (at n : ℕ) → at + n ≤ length f → drop at f ≡ part n f at ++ drop (at + n) f
cut-here f at n h =
    sym (take-append-drop n (drop at f)) ∙ ap (λ (l : List ℕ). l ++ drop n (drop at f)) (part-here n f at h) ∙ ap (λ (l : List ℕ). part n f at ++ l) (drop-drop n at f)

-- two lists that begin with parts of one length
pub split : (x y g h : List ℕ) → length x ≡ length y → x ++ g ≡ y ++ h → (x ≡ y) × (g ≡ h)
split x y g h l e = (
  sym (take_at x g (length x) refl) ∙ ap (take (length x)) e ∙ take_at y h (length x) (sym l),
  sym (drop_at x g (length x) refl) ∙ ap (drop (length x)) e ∙ drop_at y h (length x) (sym l),
)

-- what follows some bytes are bytes
pub drop-bytes : (f : List ℕ) (n : ℕ) → n ≤ length f → Bytes f → Bytes (drop n f)
drop-bytes f n h bs =
    let m = length f - n in
    let e : part m f n ≡ drop n f = sym (part-here m f n (omega arith)) ∙ to_end f n m (omega arith) in
    subst Bytes e (part_bytes m f n bs)

-- What records of one kind have in common: bytes of a fixed size, from which the record can be had again, and which the
-- record gives again. What stands at a place of a file, and when two records are the same. Assumes nothing.
use Prim.Native.Nat.{ℕ, ◌+◌, ◌≤◌}
use native.Mathlib.Omega.{arith}
use mathlib.Core.Path.{◌≡◌, sym, ap, ◌∙◌}
use mathlib.Core.List.{List, ◌++◌}
use lib.ListN.{length, take, drop}
use Rattle.le.specs.Le.{part, Bytes}
use Rattle.le.proofs.Laws.{part-take, part_bytes, length_part}
use Rattle.le.proofs.Here.{At, here, cut-here, split}

pub record Coded (A : Type 0) : Type 1 where
  pub size : ℕ
  pub enc : A → List ℕ
  pub dec : List ℕ → A
  pub Fits : A → Type 0
  pub back : (r : A) → Fits r → dec (enc r) ≡ r
  pub there : (b : List ℕ) → Bytes b → length b ≡ size → enc (dec b) ≡ b
  pub long : (r : A) → Fits r → length (enc r) ≡ size
  pub fits : (b : List ℕ) → Bytes b → Fits (dec b)

-- ---- laws of all

module _ {A : Type 0} (K : Coded A) where
  -- a record's bytes stand at a place, and then g
  pub record Stands (f : List ℕ) (at : ℕ) (r : A) (g : List ℕ) : Type 0 where
    pub room : at + K.size ≤ length f
    pub is : K.dec (part K.size (take (at + K.size) f) at) ≡ r
    pub next : At f (at + K.size) g

  pub stands : (f : List ℕ) (at : ℕ) (r : A) (g : List ℕ) → K.Fits r → At f at (K.enc r ++ g) → Stands f at r g
  stands f at r g h a =
      let x = here f at K.size (K.enc r) g (K.long r h) a in
      record { room = x.room; is = ap K.dec x.is ∙ K.back r h; next = x.next }

  -- whatever stands at a place of a file is such a record
  pub record Stood (f : List ℕ) (at : ℕ) : Type 0 where
    pub fits : K.Fits (K.dec (part K.size f at))
    pub same : K.dec (part K.size f at) ≡ K.dec (part K.size (take (at + K.size) f) at)
    pub bytes : drop at f ≡ K.enc (K.dec (part K.size f at)) ++ drop (at + K.size) f

  pub stood : (f : List ℕ) → Bytes f → (at : ℕ) → at + K.size ≤ length f → Stood f at
  stood f bs at h =
      let n = K.size in
      let b = part_bytes n f at bs in
      record {
        fits = K.fits (part n f at) b;
        same = ap K.dec (sym (part-take n f at (at + n) (omega arith)));
        bytes = cut-here f at n h ∙ ap (λ (l : List ℕ). l ++ drop (at + n) f) (sym (K.there (part n f at) b (length_part n f at)));
      }

  -- two records at the front of one list are the same
  pub same : (a b : A) (g h : List ℕ) → K.Fits a → K.Fits b → K.enc a ++ g ≡ K.enc b ++ h → (a ≡ b) × (g ≡ h)
  same a b g h fa fb e =
      let s = split (K.enc a) (K.enc b) g h (K.long a fa ∙ sym (K.long b fb)) e in
      (sym (K.back a fa) ∙ ap K.dec s.0 ∙ K.back b fb, s.1)

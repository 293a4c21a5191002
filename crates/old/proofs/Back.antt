-- The codes that were put are read back as codes, and each gate says what the old one meant. Assumes nothing.
use mathlib.Core.Path.{◌≡◌, sym, ap, ◌∙◌}
use mathlib.Core.List.{List, [], ◌∷◌, ◌++◌}
use Prim.Native.Nat.{ℕ, zero, suc, ◌+◌, ◌*◌, ◌/◌, ◌<◌}
use native.Mathlib.Nat.{mul_comm, mul-div_cancel}
use native.Mathlib.Omega.{arith}
use lib.Dec.{lit<}
use lib.ListN.{length, get_or}
use Rattle.le.specs.Le.{le, part, run, Bytes}
use Rattle.le.proofs.Laws.{le_bytes, le-own, length-bytes, length_run, length_part, part_at, part_bytes, part-past}
use Rattle.gates.specs.Gates.{told_of}
use Rattle.gates.specs.Codes.{codes_of}
use Rattle.gates.proofs.Codes.{code_is, length_two}
use Rattle.old.specs.declared.codes.Quantity.{Quantity}
use Rattle.old.specs.Codes.{meaning, new_code, new_bytes, coding_of, Tells}
use Rattle.old.specs.Old.{old_at}
use Rattle.old.specs.Headers.{gates_of, place_of, old_codes}
use Rattle.old.proofs.Kept.{new-fits, kept}

-- two bytes a code
pub two : (v : ℕ) → length (new_bytes v) ≡ 2
unfolding new_bytes
two v = length-bytes 2 (new_code v)

pub new-length : (l : List ℕ) → length (run new_bytes l) ≡ 2 * length l
new-length l = length_run new_bytes 2 two l

-- the code at each place
code-there : (l : List ℕ) (i : ℕ) → Bytes l → i < length l → le 2 (run new_bytes l) (i * 2) ≡ new_code (get_or l i 0)
unfolding run new_bytes
code-there [] i bs h = absurd (omega arith)
code-there (v ∷ l) zero bs h = le_bytes 2 (new_code v) (run new_bytes l) (new-fits v (bs.byte 0))
code-there (v ∷ l) (suc i) bs h =
    let e : suc i * 2 ≡ length (new_bytes v) + i * 2 = rw (two v) (omega arith) in
    let behind = part-past 2 (new_bytes v) (run new_bytes l) (i * 2) in
    ap (le 2 (new_bytes v ++ run new_bytes l)) e
    ∙ sym (le-own 2 (new_bytes v ++ run new_bytes l) (length (new_bytes v) + i * 2))
    ∙ ap (λ (p : List ℕ). le 2 p 0) behind
    ∙ le-own 2 (run new_bytes l) (i * 2)
    ∙ code-there l i (record { byte = λ j. bs.byte (suc j) }) (omega arith)

-- as many codes as were put
pub codes-length : (l : List ℕ) → length (codes_of 2 (run new_bytes l)) ≡ length l
codes-length l =
    length_two 2 (run new_bytes l) (λ e. omega arith)
    ∙ ap (λ (k : ℕ). k / 2) (new-length l ∙ mul_comm 2 (length l))
    ∙ mul-div_cancel (length l) (lit< tt)

-- every gate of a moment that was put: its kind and exact value are the old ones
module _ (q : Quantity) (r : ℕ) (l : List ℕ) (bs : Bytes l) (i : ℕ) (h : i < length l) where
  pub gate-back : get_or (codes_of 2 (run new_bytes l)) i 0 ≡ new_code (get_or l i 0)
  gate-back = let n = codes-length l in code_is 2 (run new_bytes l) i (omega arith) ∙ code-there l i bs h

  pub gate-kept : Tells (told_of (coding_of q r) (get_or (codes_of 2 (run new_bytes l)) i 0)) (meaning q r (get_or l i 0))
  gate-kept = rw gate-back (kept q r (get_or l i 0))

-- the same over the old file: gate i of a moment of the radial at `at` is what the byte at its place meant
module _ (q : Quantity) (f : List ℕ) (at : ℕ) (bs : Bytes f) (i : ℕ) (h : i < gates_of q (old_at f at)) where
  pub moment-kept : let o = old_at f at in
      Tells (told_of (coding_of q o.resolution) (get_or (codes_of 2 (run new_bytes (old_codes q f at))) i 0))
      (meaning q o.resolution (get_or f (at + place_of q o + i) 0))
  moment-kept =
      let o = old_at f at in
      let n = gates_of q o in
      let p = at + place_of q o in
      rw (← part_at n f p i h) (gate-kept q o.resolution (part n f p) (part_bytes n f p bs) i (rw (length_part n f p) h))

-- Rooms that are unpacked from bytes, one number after the other. Assumes nothing.
use mathlib.Core.Path.{◌≡◌, sym, ◌∙◌}
use mathlib.Core.List.{List}
use Prim.Native.Nat.{ℕ, zero, suc, ◌+◌, ◌*◌, ◌<◌}
use native.Mathlib.Nat.{add-zero, suc-mul, zero-mul}
use native.Mathlib.Omega.{arith}
use lib.ListN.{length, get_or}
use Rattle.std.proofs.lemmas.List.{ext_get_or}
use Rattle.le.specs.Le.{le, items}
use Rattle.le.proofs.Laws.{length-items}

-- the number at an index
item-at : (w n : ℕ) (f : List ℕ) (at i : ℕ) → i < n → get_or (items (le w) w n f at) i 0 ≡ le w f (at + i * w)
unfolding items
item-at w zero f at i h = absurd (omega arith)
item-at w (suc n) f at zero h = rw (zero-mul, add-zero)
item-at w (suc n) f at (suc i) h =
    let e : at + suc i * w ≡ at + w + i * w = rw suc-mul (omega arith) in
    rw e (item-at w n f (at + w) i (omega arith))

-- a room each of whose entries is the number at its place
pub unpacked : (w n : ℕ) (f xs : List ℕ) → length xs ≡ n → ((i : ℕ) → i < n → get_or xs i 0 ≡ le w f (w * i)) → xs ≡ items (le w) w n f 0
unpacked w n f xs e each =
    ext_get_or 0 xs (items (le w) w n f 0) (e ∙ sym (length-items (le w) w n f 0))
    (λ i h. let p : w * i ≡ 0 + i * w = omega arith in let k : i < n = omega arith in each i k ∙ rw p (sym (item-at w n f 0 i k)))

-- What the stores of one cut block and of one radial leave in a room. Assumes nothing.
use Prim.Native.Nat.{ℕ, ◌+◌, ◌%◌, ◌^◌, ◌≤◌}
use native.Mathlib.Omega.{arith}
use mathlib.Core.List.{List, ◌++◌}
use mathlib.Core.Path.{◌≡◌, sym, ap, ◌∙◌}
use lib.Bits.{bit_and}
use lib.ListN.{length, take, length-append}
use lib.Seq.{length-take-le}
use Rattle.le.specs.Le.{le, bytes, part, patch, stored}
use Rattle.le.proofs.Laws.{bytes_low, le-part, length-bytes, length_part, length-patch, patch-join, stored-in}
use Rattle.pick.specs.Keep.{kept_bytes, picked_radial, wanted_of}
use Rattle.pick.specs.Pick.{picked_cut}
use Rattle.pick.proofs.Putting.{patch-inside}

-- a field stored inside what was put
stored-inside : (room then now : List ℕ) (at : ℕ) (x : List ℕ) (i n : ℕ) (y : List ℕ) → length y ≡ n → i + n ≤ length x → at + length x ≤ length room → then ≡ patch room at x
    → now ≡ stored n then (at + i) y → now ≡ patch room at (patch x i y)
stored-inside room then now at x i n y l h k e d =
    let s : length then ≡ length room = ap length e ∙ length-patch room at x k in
    d ∙ stored-in n then (at + i) y (omega arith) ∙ ap (λ (r : List ℕ). patch r (at + i) y) e ∙ patch-inside room at x i y (omega arith) k

-- a cut block, and its mask
pub cut-laid : (f room then now : List ℕ) (at wanted : ℕ) (x : List ℕ) → at + 256 ≤ length room → x ≡ part 256 f at → then ≡ stored (length x) room at x
    → now ≡ stored 8 then (at + 84) (bytes 8 (bit_and (le 8 f (at + 84)) wanted)) → now ≡ patch room at (picked_cut wanted (part 256 f at))
unfolding picked_cut
cut-laid f room then now at wanted x h e p q =
    let b = part 256 f at in
    let l = length_part 256 f at in
    let put : then ≡ patch room at b = p ∙ ap (λ (y : List ℕ). stored (length y) room at y) e ∙ stored-in (length b) room at b (omega arith) in
    let mask : bytes 8 (bit_and (le 8 f (at + 84)) wanted) ≡ bytes 8 (bit_and (le 8 b 84) wanted) = ap (λ (m : ℕ). bytes 8 (bit_and m wanted)) (sym (le-part 8 256 f at 84 (omega arith))) in
    stored-inside room then now at b 84 8 (bytes 8 (bit_and (le 8 b 84) wanted)) (length-bytes 8 _) (omega arith) (omega arith) put (q ∙ ap (stored 8 then (at + 84)) mask)

-- how long a picked radial is
pub radial-long : (wanted : ℕ) (b : List ℕ) → 64 ≤ length b → length (picked_radial wanted b) ≡ 64 + length (kept_bytes wanted b)
unfolding picked_radial
radial-long wanted b h =
    let x = take 64 b ++ kept_bytes wanted b in
    let l : length x ≡ 64 + length (kept_bytes wanted b) = length-append (take 64 b) (kept_bytes wanted b) ∙ ap (λ (n : ℕ). n + length (kept_bytes wanted b)) (length-take-le 64 b h) in
    let y = patch x 36 (bytes 4 (length (kept_bytes wanted b))) in
    let m = length-bytes 4 (length (kept_bytes wanted b)) in
    let n = length-bytes 4 (length (wanted_of wanted b)) in
    let o : length y ≡ length x = length-patch x 36 _ (omega arith) in
    length-patch y 40 _ (omega arith) ∙ o ∙ l

-- a radial: its header, its wanted moments, and the two fields
pub radial-laid : (wanted : ℕ) (b room r₁ r₂ r₃ r₄ : List ℕ) (to : ℕ) → 64 ≤ length b → to + 64 + length (kept_bytes wanted b) ≤ length room
    → r₁ ≡ stored (length (take 64 b)) room to (take 64 b)
    → r₂ ≡ patch r₁ (to + 64) (kept_bytes wanted b)
    → r₃ ≡ stored 4 r₂ (to + 36) (bytes 4 (length (kept_bytes wanted b) % 256 ^ 4))
    → r₄ ≡ stored 4 r₃ (to + 40) (bytes 4 (length (wanted_of wanted b) % 256 ^ 4))
    → r₄ ≡ patch room to (picked_radial wanted b)
unfolding picked_radial
radial-laid wanted b room r₁ r₂ r₃ r₄ to h k e₁ e₂ e₃ e₄ =
    let ms = kept_bytes wanted b in
    let l = length-take-le 64 b h in
    let x = take 64 b ++ ms in
    let lx : length x ≡ 64 + length ms = length-append (take 64 b) ms ∙ ap (λ (n : ℕ). n + length ms) l in
    let p₁ : r₁ ≡ patch room to (take 64 b) = e₁ ∙ stored-in (length (take 64 b)) room to (take 64 b) (omega arith) in
    let p₂ : r₂ ≡ patch room to x = e₂ ∙ ap (λ (r : List ℕ). patch r (to + 64) ms) p₁ ∙ patch-join room to 64 (take 64 b) ms l (omega arith) in
    let y = patch x 36 (bytes 4 (length ms)) in
    let m = length-bytes 4 (length ms) in
    let ly : length y ≡ length x = length-patch x 36 _ (omega arith) in
    let p₃ : r₃ ≡ patch room to y =
    stored-inside room r₂ r₃ to x 36 4 (bytes 4 (length ms)) m (omega arith) (omega arith) p₂ (e₃ ∙ ap (stored 4 r₂ (to + 36)) (bytes_low 4 (length ms))) in
    stored-inside room r₃ r₄ to y 40 4 (bytes 4 (length (wanted_of wanted b))) (length-bytes 4 _) (omega arith) (omega arith) p₃
    (e₄ ∙ ap (stored 4 r₃ (to + 40)) (bytes_low 4 (length (wanted_of wanted b))))

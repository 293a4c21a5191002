-- The hundredths are rounded right: to nearest, halves away from zero. Assumes nothing.
use mathlib.Core.Path.{◌≡◌, refl, sym, ap, ◌∙◌}
use Prim.Native.Nat.{ℕ, zero, suc, ◌+◌, ◌*◌, ◌%◌, ◌≤◌, ◌<◌}
use native.Mathlib.Nat.{mod-add-div', mod-lt, suc-mul, div-eq_of_lt-le}
use native.Mathlib.Numerals.{add-one}
use native.Mathlib.Omega.{arith}
use lib.IntN.{ℤ, pos, negsuc, neg_ℤ, nat_abs}
use Rattle.gates.specs.declared.Coding.{Coding}
use Rattle.gates.specs.Gates.{difference_of, magnitude_of, rounded_of, hundredths_of}
use Rattle.gates.specs.Nearest.{like, Nearest}

-- there is one such number
pub magnitude-one : (n scale m : ℕ) → m * (2 * scale) ≤ 200 * n + scale → 200 * n < m * (2 * scale) + scale → magnitude_of n scale ≡ m
unfolding magnitude_of
magnitude-one n scale m a u = div-eq_of_lt-le (2 * scale) a (rw (add-one m, suc-mul m (2 * scale)) (omega arith))

nearest-size : {d : ℤ} {scale : ℕ} {h : ℤ} → Nearest d scale h → magnitude_of (nat_abs d) scale ≡ nat_abs h
nearest-size {d} {scale} {h} p = magnitude-one (nat_abs d) scale (nat_abs h) p.at_least p.under

pub nearest-one : {d : ℤ} {scale : ℕ} {h h' : ℤ} → Nearest d scale h → Nearest d scale h' → h ≡ h'
nearest-one {d} p q = p.sign ∙ ap (like d) (sym (nearest-size p) ∙ nearest-size q) ∙ sym q.sign

near : (n scale : ℕ) → 0 < scale → (magnitude_of n scale * (2 * scale) ≤ 200 * n + scale) × (200 * n < magnitude_of n scale * (2 * scale) + scale)
unfolding magnitude_of
near n scale h =
    let e = mod-add-div' (200 * n + scale) (2 * scale) in
    let r : (200 * n + scale) % (2 * scale) < 2 * scale = mod-lt (200 * n + scale) (omega arith) in
    (omega arith, omega arith)

size-neg : (n : ℕ) → nat_abs (neg_ℤ (pos n)) ≡ n
size-neg zero = refl
size-neg (suc n) = refl

rounded-near : (d : ℤ) (scale : ℕ) → 0 < scale → Nearest d scale (rounded_of d scale)
unfolding rounded_of
rounded-near (pos n) scale h = let b = near n scale h in record { sign = refl; at_least = b.0; under = b.1 }
rounded-near (negsuc n) scale h =
    let b = near (suc n) scale h in
    let e = size-neg (magnitude_of (suc n) scale) in
    record { sign = rw e; at_least = rw e b.0; under = rw e b.1 }

-- the hundredths of any code, under a scale that a header may have
pub hundredths-near : (c : Coding) (code : ℕ) → 0 < c.scale → Nearest (difference_of c code) c.scale (hundredths_of c code)
hundredths-near c code h = rounded-near (difference_of c code) c.scale h

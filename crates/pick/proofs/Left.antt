-- The rules of a moment in a radial with fewer moments, and how many bytes those take that are left. Assumes nothing.
use Prim.Native.Nat.{ℕ, zero, suc, ◌+◌, ◌-◌, ◌*◌, ◌%◌, ◌≤◌}
use native.Mathlib.Decide.{ℕ_discrete}
use native.Mathlib.Omega.{arith}
use mathlib.Core.Path.{◌≡◌, refl, sym, subst, ◌∙◌}
use mathlib.Core.Bool.{Bool, true, false, not, ◌&&◌, cond}
use mathlib.Core.Logic.{dite}
use mathlib.Core.List.{List, [], ◌∷◌}
use lib.Bits.{bit_and}
use lib.Dec.{eqb, leb, lit<}
use lib.IntN.{pos}
use lib.ListN.{length}
use mir.Syntax.{w32}
use borrow.Author.Tests.{eq-eqb, le-leb, lt-leb, not-true}
use Rattle.le.proofs.Tests.{both, fails}
use Rattle.le.specs.Le.{int}
use Rattle.rules.specs.Masks.{bit, with_bit, type_ok, type_clauses}
use Rattle.rules.specs.Ranges.{among, within}
use Rattle.rules.specs.Tiling.{length_ok, length_clauses, moment_number_ok, moment_number_clauses, tiles}
use Rattle.rules.proofs.Numbers.{by_bits, inside, least, most}
use Rattle.rules.proofs.Seen.{set-has, set_keeps}
use Rattle.cut.specs.declared.Cut.{Cut}
use Rattle.radial.specs.declared.Radial.{Radial}
use Rattle.volume.specs.Volume.{VolumeMoment, tiled, types_of, MomentsOk}
use Rattle.pick.specs.Only.{only_cut, only_moments, with_moments}
use Rattle.pick.proofs.Bits.{bit-and, set_other}

-- ---- one moment's rules

-- number 20 lets types 1..64 through
type-range : (mask seen t : ℕ) → type_ok mask seen t ≡ true → within 1 64 t ≡ true
unfolding type_clauses
type-range mask seen t e =
    let x = both (among (pos 1) (pos 64) (int t) && not (bit seen t)) (bit mask t) e in
    sym (by_bits w32 1 64 t (lit< tt)) ∙ (both (among (pos 1) (pos 64) (int t)) (not (bit seen t)) x.0).0

-- it is kept where the mask is cut down to wanted bits, with the type's among them, and where fewer types were seen before
type-left : (mask seen wanted now t : ℕ) → (bit now t ≡ true → bit seen t ≡ true) → bit wanted t ≡ true → type_ok mask seen t ≡ true → type_ok (bit_and mask wanted) now t ≡ true
unfolding type_clauses
type-left mask seen wanted now t fewer w e =
    let x = both (among (pos 1) (pos 64) (int t) && not (bit seen t)) (bit mask t) e in
    let y = both (among (pos 1) (pos 64) (int t)) (not (bit seen t)) x.0 in
    let fresh : bit now t ≡ false = fails (bit now t) (λ z. let s = fewer z in let f = not-true (bit seen t) y.1 in let q : ◌≡◌ {A = ℕ} 0 1 = cc in omega arith) in
    rw (y.0, fresh, bit-and mask wanted t, x.1, w)

-- number 24 lets no moment through that has no data
length_some : (todo left bin n : ℕ) → length_ok todo left bin n ≡ true → 1 ≤ n
unfolding length_clauses
length_some todo left bin n e =
    let x = both (among (pos 1) (pos 32768) (int n) && eqb (n % bin) 0) (tiles todo left n) e in
    least w32 1 32768 n (lit< tt) (both (among (pos 1) (pos 32768) (int n)) (eqb (n % bin) 0) x.0).0

-- it is kept where k moments follow, which fill the rest
length-left : (todo left bin n k rest now room : ℕ) → now ≡ suc k → room ≡ 32 + n + rest → 33 * k ≤ rest → (k ≡ 0 → rest ≡ 0) → length_ok todo left bin n ≡ true → length_ok now room bin n ≡ true
unfolding length_clauses tiles
length-left todo left bin n k rest now room a b h z e =
    let x = both (among (pos 1) (pos 32768) (int n) && eqb (n % bin) 0) (tiles todo left n) e in
    rw (x.0, go k z h a)
  where
    go : (k : ℕ) → (k ≡ 0 → rest ≡ 0) → 33 * k ≤ rest → now ≡ suc k → cond (leb now 1) (eqb (32 + n) room) (leb (32 + n + 33 * (now - 1)) room) ≡ true
    go zero z h a = let r = z refl in rw (le-leb now 1 (omega arith), eq-eqb (32 + n) room (omega arith))
    go (suc k) z h a = rw (lt-leb now 1 (omega arith), le-leb (32 + n + 33 * (now - 1)) room (omega arith))

-- number 19 is kept by fewer moments, each of which takes 33 bytes
pub number-left : (left k now n : ℕ) → 1 ≤ n → n ≤ k → 33 * n ≤ now → moment_number_ok left k ≡ true → moment_number_ok now n ≡ true
unfolding moment_number_clauses
number-left left k now n some few h e =
    let m = most w32 1 64 k (lit< tt) (both (among (pos 1) (pos 64) (int k)) (leb (33 * k) left) e).0 in
    rw (← inside w32 1 64 n (lit< tt) some (omega arith), le-leb (33 * n) now h)

-- ---- the bytes of those that are left

-- no moments take no bytes
nothing : (ps : List VolumeMoment) → length ps ≡ 0 → tiled ps ≡ 0
nothing [] e = refl
nothing (p ∷ ps) e = absurd (omega arith)

-- those that are left are not more and take no more bytes than all
pub record Less (ps qs : List VolumeMoment) : Type 0 where
  pub number : length ps ≤ length qs
  pub bytes : tiled ps ≤ tiled qs

pub less : (wanted : ℕ) (ps : List VolumeMoment) → Less (only_moments wanted ps) ps
less wanted [] = record { number = omega arith; bytes = omega arith }
less wanted (p ∷ ps) = go (bit wanted p.header.data_type) (less wanted ps)
  where
    go : (b : Bool) → Less (only_moments wanted ps) ps → Less (cond b (p ∷ only_moments wanted ps) (only_moments wanted ps)) (p ∷ ps)
    go true l = record { number = omega arith; bytes = omega arith }
    go false l = record { number = omega arith; bytes = omega arith }

-- each takes 33 bytes
pub each-33 : (wanted : ℕ) (c : Cut) (r : Radial) (before ps : List VolumeMoment) → MomentsOk c r before ps → 33 * length (only_moments wanted ps) ≤ tiled (only_moments wanted ps)
each-33 wanted c r before [] ok = omega arith
each-33 wanted c r before (p ∷ ps) ok =
    go (bit wanted p.header.data_type) (length_some _ _ _ _ ok.1.1.1.1.1.0) (each-33 wanted c r (p ∷ before) ps ok.3)
  where
    go : (b : Bool) → 1 ≤ p.header.length → 33 * length (only_moments wanted ps) ≤ tiled (only_moments wanted ps)
        → 33 * length (cond b (p ∷ only_moments wanted ps) (only_moments wanted ps)) ≤ tiled (cond b (p ∷ only_moments wanted ps) (only_moments wanted ps))
    go true h k = omega arith
    go false h k = k

-- ---- their rules

-- each type of some moments is one of others'
abbrev Within : List VolumeMoment → List VolumeMoment → Type 0
Within ps qs = (t : ℕ) → bit (types_of ps) t ≡ true → bit (types_of qs) t ≡ true

-- and still is, with one more in both
within_both : (ps qs : List VolumeMoment) (p : VolumeMoment) → within 1 64 p.header.data_type ≡ true → Within ps qs → Within (p ∷ ps) (p ∷ qs)
within_both ps qs p h w t e =
    let u = p.header.data_type in
    dite (ℕ_discrete t u) (λ z. subst (λ (x : ℕ). bit (with_bit (types_of qs) u) x ≡ true) (sym z) (set-has (types_of qs) u h))
    (λ z. set_keeps (types_of qs) u t (w t (set_other (types_of ps) u t h z e)))

-- moments that keep their rules behind others keep them, without the ones that are not wanted, in a radial that says how many are left and
-- how many bytes they take
pub moments-left : (wanted : ℕ) (c : Cut) (r : Radial) (n k : ℕ) (before now ps : List VolumeMoment) → Within now before
    → n ≡ tiled now + tiled (only_moments wanted ps) → k ≡ length now + length (only_moments wanted ps)
    → MomentsOk c r before ps → MomentsOk (only_cut wanted c) (with_moments r n k) now (only_moments wanted ps)
moments-left wanted c r n k before now [] w a b ok = tt
moments-left wanted c r n k before now (p ∷ ps) w a b ok =
    let t = p.header.data_type in
    go (bit wanted t) refl a b
    (λ x y. moments-left wanted c r n k (p ∷ before) (p ∷ now) ps (within_both now before p (type-range _ _ t ok.1.0) w) x y ok.3)
    (λ x y. moments-left wanted c r n k (p ∷ before) now ps (λ u z. set_keeps (types_of before) t u (w u z)) x y ok.3)
  where
    Rest : List VolumeMoment → List VolumeMoment → Type 0
    Rest now qs = n ≡ tiled now + tiled qs → k ≡ length now + length qs → MomentsOk (only_cut wanted c) (with_moments r n k) now qs

    go : (x : Bool) → bit wanted p.header.data_type ≡ x → n ≡ tiled now + tiled (cond x (p ∷ only_moments wanted ps) (only_moments wanted ps)) → k ≡ length now + length (cond x (p ∷ only_moments wanted ps) (only_moments wanted ps))
        → Rest (p ∷ now) (only_moments wanted ps) → Rest now (only_moments wanted ps)
        → MomentsOk (only_cut wanted c) (with_moments r n k) now (cond x (p ∷ only_moments wanted ps) (only_moments wanted ps))
    go true e a b with_it without =
        let rules = ok.1 in
        let rest = only_moments wanted ps in
        let tiling = length-left _ _ _ _ (length rest) (tiled rest) (k - length now) (n - tiled now) (omega arith) (omega arith) (each-33 wanted c r (p ∷ before) ps ok.3) (nothing rest) rules.1.1.1.1.0 in
        let own = type-left _ _ wanted (types_of now) p.header.data_type (w p.header.data_type) e rules.0 in
        (ok.0, (own, (rules.1.0, (rules.1.1.0, (rules.1.1.1.0, (tiling, tt))))), ok.2, with_it (omega arith) (omega arith))
    go false e a b with_it without = without a b

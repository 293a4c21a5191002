-- That the definition says what documents 01 and 02 say in other words. Assumes nothing.
use Prim.Native.Nat.{ℕ, ◌+◌, ◌-◌, ◌%◌, ◌≤◌}
use native.Mathlib.Omega.{arith}
use mathlib.Core.Path.{◌≡◌, sym, ◌∙◌}
use mathlib.Core.Bool.{true, false, not, ◌&&◌}
use mathlib.Core.List.{List, [], ◌∷◌}
use lib.Dec.{eqb, lit<}
use lib.IntN.{pos}
use lib.ListN.{length}
use mir.Syntax.{w32}
use mir.Val.{to_z}
use borrow.Author.Tests.{eqb-true}
use Rattle.le.proofs.Tests.{both}
use Rattle.le.specs.Le.{int}
use Rattle.rules.specs.Masks.{bit, type_ok, type_clauses}
use Rattle.rules.proofs.Seen.{set_keeps, set-has}
use Rattle.rules.specs.Ranges.{within, among}
use Rattle.rules.specs.Tiling.{length_ok, length_clauses, tiles}
use Rattle.rules.proofs.Allowed.{first-allowed}
use Rattle.rules.proofs.Numbers.{by_bits, opens-only}
use Rattle.cut.specs.declared.Cut.{Cut}
use Rattle.radial.specs.declared.Radial.{Radial}
use Rattle.task.specs.declared.Task.{Task}
use Rattle.volume.specs.Volume.{VolumeMoment, VolumeRadial, tiled, types_of, MomentsOk, RadialOk, LayerOk}
use Rattle.volume.specs.Sense.{Unlike, Differ, InMask, Sense}
use Rattle.radial.proofs.Header.{header}
use Rattle.volume.proofs.Most.{volume-numbered, volume-most, begun-before}

-- the last moment leaves none
last-fills : (todo left bin n : ℕ) → todo ≡ 1 → length_ok todo left bin n ≡ true → 32 + n ≡ left
unfolding length_clauses tiles
last-fills todo left bin n one k =
    let e : length_ok 1 left bin n ≡ true = rw one at k in
    eqb-true (32 + n) left (both (among (pos 1) (pos 32768) (to_z w32 n) && eqb (n % bin) 0) (eqb (32 + n) left) e).1

fills : (c : Cut) (r : Radial) (ps before : List VolumeMoment) (p : VolumeMoment) → length (p ∷ ps) + length before ≡ r.moment_number → MomentsOk c r before (p ∷ ps) → tiled (p ∷ ps) + tiled before ≡ r.length_of_data
fills c r [] before p n ok = let e = last-fills _ _ _ _ (omega arith) ok.1.1.1.1.1.0 in omega arith
fills c r (q ∷ qs) before p n ok = let e = fills c r qs (p ∷ before) q (omega arith) ok.3 in omega arith

-- what number 20 says of a type
record Admitted (mask seen t : ℕ) : Type 0 where
  in-range : within 1 64 t ≡ true
  fresh : not (bit seen t) ≡ true
  masked : bit mask t ≡ true

admitted : (mask seen t : ℕ) → type_ok mask seen t ≡ true → Admitted mask seen t
unfolding type_clauses
admitted mask seen t e =
    let x = both (among (pos 1) (pos 64) (int t) && not (bit seen t)) (bit mask t) e in
    let y = both (among (pos 1) (pos 64) (int t)) (not (bit seen t)) x.0 in
    record { in-range = sym (by_bits w32 1 64 t (lit< tt)) ∙ y.0; fresh = y.1; masked = x.1 }

-- a type that was seen is not the type of a later moment
unlike : (c : Cut) (r : Radial) (t : ℕ) (ps before : List VolumeMoment) → bit (types_of before) t ≡ true → MomentsOk c r before ps → Unlike t ps
unlike c r t [] before seen ok = tt
unlike c r t (p ∷ ps) before seen ok = (
  λ e.
      let fresh = (admitted _ _ _ ok.1.0).fresh in
      let again : not (bit (types_of before) t) ≡ true = rw e at fresh in
      let never : false ≡ true = rw seen at again in
      let z : ◌≡◌ {A = ℕ} 0 1 = cc in omega arith,
  unlike c r t ps (p ∷ before) (set_keeps (types_of before) p.header.data_type t seen) ok.3,
)

differ : (c : Cut) (r : Radial) (ps before : List VolumeMoment) → MomentsOk c r before ps → Differ ps
differ c r [] before ok = tt
differ c r (p ∷ ps) before ok =
    let t = p.header.data_type in
    (unlike c r t ps (p ∷ before) (set-has (types_of before) t (admitted _ _ _ ok.1.0).in-range) ok.3, differ c r ps (p ∷ before) ok.3)

masked : (c : Cut) (r : Radial) (ps before : List VolumeMoment) → MomentsOk c r before ps → InMask c ps
masked c r [] before ok = tt
masked c r (p ∷ ps) before ok = ((admitted _ _ _ ok.1.0).masked, masked c r ps (p ∷ before) ok.3)

two-radials : (t : Task) (c : Cut) (k before : ℕ) (l : List VolumeRadial) → LayerOk t c k before 0 l → 2 ≤ length l
two-radials t c k before [] ok = absurd ok
two-radials t c k before (b ∷ []) ok =
    let e = (first-allowed t.scan_type t.cut_number k b.header.state).0 ok.0.rules.0 in
    absurd (opens-only t.scan_type t.cut_number k (sym e ∙ ok.1))
two-radials t c k before (b ∷ (n ∷ ns)) ok = omega arith

module _ (t : Task) (c : Cut) (k before in_cut : ℕ) (b : VolumeRadial) (ok : RadialOk t c k before in_cut b) where
  some : 1 ≤ length b.moments
  some = let h = (header b.header _ ok.rules).some in let n = ok.count in omega arith

  filled : tiled b.moments ≡ b.header.length_of_data
  filled = go b.moments some ok.count ok.moments
    where
      go : (ms : List VolumeMoment) → 1 ≤ length ms → length ms ≡ b.header.moment_number → MomentsOk c b.header [] ms → tiled ms ≡ b.header.length_of_data
      go [] one n o = absurd (omega arith)
      go (p ∷ ps) one n o = let e = fills c b.header ps [] p (omega arith) o in omega arith

pub sense : Sense
sense =
    record {
      filled = filled;
      some = some;
      differ = λ t c k before in_cut b ok. differ c b.header b.moments [] ok.moments;
      masked = λ t c k before in_cut b ok. masked c b.header b.moments [] ok.moments;
      two = two-radials;
      numbered = volume-numbered;
      most = volume-most;
      before = begun-before;
    }

-- Two parts of volumes with the same bytes are the same: each part's bytes say where it ends. Assumes nothing.
use Prim.Native.Nat.{ℕ, suc, ◌+◌}
use native.Mathlib.Omega.{arith}
use mathlib.Core.Path.{◌≡◌, refl, sym, ap, ap₂, subst, ◌∙◌}
use mathlib.Core.List.{List, [], ◌∷◌, ◌++◌, append_assoc}
use lib.ListN.{length}
use Rattle.le.specs.Le.{run}
use Rattle.cut.specs.declared.Cut.{Cut}
use Rattle.moment.specs.declared.Moment.{Moment}
use Rattle.radial.specs.declared.Radial.{Radial}
use Rattle.task.specs.declared.Task.{Task}
use Rattle.cut.specs.Cut.{cut_bytes}
use Rattle.moment.specs.Moment.{moment_bytes}
use Rattle.radial.specs.Radial.{radial_bytes}
use Rattle.le.proofs.Here.{split}
use Rattle.le.proofs.Coded.{same}
use Rattle.cut.proofs.Trips as cut-trip
use Rattle.radial.proofs.Trips as radial-trip
use Rattle.moment.proofs.Trips as moment-trip
use Rattle.volume.specs.Volume.{VolumeMoment, VolumeRadial, bytes_of_moment, bytes_of_radial, MomentsOk, RadialOk, Closes, LayerOk, LayersOk, CutsOk}

-- ---- moments, radials, layers

pub first-moment : (c d : Cut) (r q : Radial) (us vs xs ys : List VolumeMoment) (x y : VolumeMoment) (g h : List ℕ) → MomentsOk c r us (x ∷ xs) → MomentsOk d q vs (y ∷ ys) → run bytes_of_moment (x ∷ xs) ++ g ≡ run bytes_of_moment (y ∷ ys) ++ h
    → (x ≡ y) × (run bytes_of_moment xs ++ g ≡ run bytes_of_moment ys ++ h)
unfolding run
first-moment c d r q us vs xs ys x y g h ok ko e =
    let m = x.header in
    let k = y.header in
    let gx = run bytes_of_moment xs ++ g in
    let gy = run bytes_of_moment ys ++ h in
    let e' : moment_bytes m ++ (x.bytes ++ gx) ≡ moment_bytes k ++ (y.bytes ++ gy) = sym (apart (moment_bytes m) x.bytes (run bytes_of_moment xs) g) ∙ e ∙ apart (moment_bytes k) y.bytes (run bytes_of_moment ys) h in
    let s = same moment-trip.coded m k (x.bytes ++ gx) (y.bytes ++ gy) ok.0 ko.0 e' in
    let p = split x.bytes y.bytes gx gy (ok.2 ∙ ap (λ (z : Moment). z.length) s.0 ∙ sym ko.2) s.1 in
    (λ i. record { header = s.0 i; bytes = p.0 i }, p.1)
  where
    apart : (a b c d : List ℕ) → ((a ++ b) ++ c) ++ d ≡ a ++ (b ++ (c ++ d))
    apart a b c d = simp append_assoc

pub same-moments : (c d : Cut) (r q : Radial) (us vs ps qs : List VolumeMoment) (g h : List ℕ) → MomentsOk c r us ps → MomentsOk d q vs qs → length ps ≡ length qs → run bytes_of_moment ps ++ g ≡ run bytes_of_moment qs ++ h
    → (ps ≡ qs) × (g ≡ h)
unfolding run
same-moments c d r q us vs [] [] g h ok ko n e = (refl, e)
same-moments c d r q us vs [] (y ∷ ys) g h ok ko n e = absurd (omega arith)
same-moments c d r q us vs (x ∷ xs) [] g h ok ko n e = absurd (omega arith)
same-moments c d r q us vs (x ∷ xs) (y ∷ ys) g h ok ko n e =
    let p = first-moment c d r q us vs xs ys x y g h ok ko e in
    let o = same-moments c d r q (x ∷ us) (y ∷ vs) xs ys g h ok.3 ko.3 (omega arith) p.1 in
    (ap₂ (λ (a : VolumeMoment) (l : List VolumeMoment). a ∷ l) p.0 o.0, o.1)

same-radial : (t u : Task) (c d : Cut) (k l i j m n : ℕ) (x y : VolumeRadial) (g h : List ℕ) → RadialOk t c k i m x → RadialOk u d l j n y → bytes_of_radial x ++ g ≡ bytes_of_radial y ++ h → (x ≡ y) × (g ≡ h)
same-radial t u c d k l i j m n x y g h ok ko e =
    let r = x.header in
    let q = y.header in
    let gx = run bytes_of_moment x.moments ++ g in
    let gy = run bytes_of_moment y.moments ++ h in
    let e' : radial_bytes r ++ gx ≡ radial_bytes q ++ gy = sym (append_assoc (radial_bytes r) (run bytes_of_moment x.moments) g) ∙ e ∙ append_assoc (radial_bytes q) (run bytes_of_moment y.moments) h in
    let s = same radial-trip.coded r q gx gy ok.fits ko.fits e' in
    let p = same-moments c d r q [] [] x.moments y.moments g h ok.moments ko.moments (ok.count ∙ ap (λ (z : Radial). z.moment_number) s.0 ∙ sym ko.count) s.1 in
    (λ i. record { header = s.0 i; moments = p.0 i }, p.1)

pub closes-same : (t : Task) (k : ℕ) (x y : VolumeRadial) → x ≡ y → Closes t k x → Closes t k y
closes-same t k x y e h = subst (λ (b : VolumeRadial). Closes t k b) e h

module _ (t : Task) (c : Cut) (k : ℕ) where
  pub first-radial : (i j m n : ℕ) (x y : VolumeRadial) (xs ys : List VolumeRadial) (g h : List ℕ) → RadialOk t c k i m x → RadialOk t c k j n y → run bytes_of_radial (x ∷ xs) ++ g ≡ run bytes_of_radial (y ∷ ys) ++ h
      → (x ≡ y) × (run bytes_of_radial xs ++ g ≡ run bytes_of_radial ys ++ h)
  unfolding run
  first-radial i j m n x y xs ys g h ok ko e =
      same-radial t t c c k k i j m n x y (run bytes_of_radial xs ++ g) (run bytes_of_radial ys ++ h) ok ko (sym (append_assoc (bytes_of_radial x) (run bytes_of_radial xs) g) ∙ e ∙ append_assoc (bytes_of_radial y) (run bytes_of_radial ys) h)

  pub same-layer : (i j m n : ℕ) (xs ys : List VolumeRadial) (g h : List ℕ) → LayerOk t c k i m xs → LayerOk t c k j n ys → run bytes_of_radial xs ++ g ≡ run bytes_of_radial ys ++ h → (xs ≡ ys) × (g ≡ h)
  unfolding run
  same-layer i j m n [] ys g h ok ko e = absurd ok
  same-layer i j m n (x ∷ []) [] g h ok ko e = absurd ko
  same-layer i j m n (x ∷ (p ∷ ps)) [] g h ok ko e = absurd ko
  same-layer i j m n (x ∷ []) (y ∷ []) g h ok ko e = let s = first-radial i j m n x y [] [] g h ok.0 ko.0 e in (ap (λ (b : VolumeRadial). b ∷ []) s.0, s.1)
  same-layer i j m n (x ∷ []) (y ∷ (q ∷ qs)) g h ok ko e = let s = first-radial i j m n x y [] (q ∷ qs) g h ok.0 ko.0 e in absurd (ko.1 (closes-same t k x y s.0 ok.1))
  same-layer i j m n (x ∷ (p ∷ ps)) (y ∷ []) g h ok ko e = let s = first-radial i j m n x y (p ∷ ps) [] g h ok.0 ko.0 e in absurd (ok.1 (closes-same t k y x (sym s.0) ko.1))
  same-layer i j m n (x ∷ (p ∷ ps)) (y ∷ (q ∷ qs)) g h ok ko e =
      let s = first-radial i j m n x y (p ∷ ps) (q ∷ qs) g h ok.0 ko.0 e in
      let o = same-layer (suc i) (suc j) (suc m) (suc n) (p ∷ ps) (q ∷ qs) g h ok.2 ko.2 s.1 in
      (ap₂ (λ (b : VolumeRadial) (l : List VolumeRadial). b ∷ l) s.0 o.0, o.1)

pub same-layers : (t : Task) (cs : List Cut) (k i j : ℕ) (ls ms : List (List VolumeRadial)) → LayersOk t k i cs ls → LayersOk t k j cs ms → run (run bytes_of_radial) ls ≡ run (run bytes_of_radial) ms → ls ≡ ms
unfolding run
same-layers t [] k i j [] [] ok ko e = refl
same-layers t [] k i j [] (m ∷ ms) ok ko e = absurd ko
same-layers t [] k i j (l ∷ ls) ms ok ko e = absurd ok
same-layers t (c ∷ cs) k i j [] ms ok ko e = absurd ok
same-layers t (c ∷ cs) k i j (l ∷ ls) [] ok ko e = absurd ko
same-layers t (c ∷ cs) k i j (l ∷ ls) (m ∷ ms) ok ko e =
    let s = same-layer t c k i j 0 0 l m (run (run bytes_of_radial) ls) (run (run bytes_of_radial) ms) ok.0 ko.0 e in
    ap₂ (λ (a : List VolumeRadial) (b : List (List VolumeRadial)). a ∷ b) s.0 (same-layers t cs (suc k) (i + length l) (j + length m) ls ms ok.1 ko.1 s.1)

-- ---- cuts

pub same-cuts : (cs ds : List Cut) (g h : List ℕ) → CutsOk cs → CutsOk ds → length cs ≡ length ds → run cut_bytes cs ++ g ≡ run cut_bytes ds ++ h → (cs ≡ ds) × (g ≡ h)
unfolding run
same-cuts [] [] g h ok ko n e = (refl, e)
same-cuts [] (d ∷ ds) g h ok ko n e = absurd (omega arith)
same-cuts (c ∷ cs) [] g h ok ko n e = absurd (omega arith)
same-cuts (c ∷ cs) (d ∷ ds) g h ok ko n e =
    let s = same cut-trip.coded c d (run cut_bytes cs ++ g) (run cut_bytes ds ++ h) ok.0 ko.0
    (sym (append_assoc (cut_bytes c) (run cut_bytes cs) g) ∙ e ∙ append_assoc (cut_bytes d) (run cut_bytes ds) h) in
    let o = same-cuts cs ds g h ok.2 ko.2 (omega arith) s.1 in
    (ap₂ (λ (a : Cut) (l : List Cut). a ∷ l) s.0 o.0, o.1)

-- Two beginnings with the same bytes are the same, from the first layer on: where one has a further part, the other's bytes are
-- over, or say another end. Assumes nothing.
use Prim.Native.Nat.{ℕ, suc, ◌+◌, ◌%◌, ◌<◌, ◌≤◌}
use native.Mathlib.Decide.{dec_le}
use native.Mathlib.Omega.{arith}
use mathlib.Core.Logic.{dite}
use mathlib.Core.Path.{◌≡◌, refl, sym, ap, ap₂, subst, ◌∙◌}
use mathlib.Core.Bool.{◌&&◌}
use mathlib.Core.List.{List, [], ◌∷◌, ◌++◌, append_assoc, head-eq_of_cons-eq, tail-eq_of_cons-eq}
use lib.Dec.{lit<, eqb}
use lib.IntN.{pos}
use lib.ListN.{length, length-append}
use mir.Syntax.{w32}
use mir.Val.{to_z}
use Rattle.le.specs.Le.{run}
use Rattle.le.proofs.Tests.{both}
use Rattle.le.proofs.Coded.{same}
use Rattle.rules.specs.Check.{Hold}
use Rattle.rules.specs.Ranges.{among}
use Rattle.rules.specs.Tiling.{length_clauses, tiles}
use Rattle.rules.proofs.Numbers.{least}
use Rattle.cut.specs.declared.Cut.{Cut}
use Rattle.moment.specs.declared.Moment.{Moment}
use Rattle.moment.specs.declared.MomentDue.{MomentDue}
use Rattle.radial.specs.declared.Radial.{Radial}
use Rattle.task.specs.declared.Task.{Task}
use Rattle.moment.specs.Moment.{moment_bytes, moment_rules, MomentFits}
use Rattle.radial.specs.Radial.{radial_bytes, RadialFits}
use Rattle.radial.proofs.Trips as radial-trip
use Rattle.moment.proofs.Trips as moment-trip
use Rattle.volume.specs.Volume.{VolumeMoment, VolumeRadial, bytes_of_moment, bytes_of_radial, MomentsOk, RadialOk, LayerOk, LayersOk}
use Rattle.volume.specs.Accepted.{UnclosedOk}
use Rattle.volume.proofs.Same.{first-moment, same-moments, closes-same, first-radial, same-layer}

-- ---- moments: where one radial has more of them, the other's bytes go on

-- a moment's data has a byte (number 24)
some_byte : (m : Moment) (d : MomentDue) → Hold (moment_rules m d) → 1 ≤ m.length
unfolding length_clauses
some_byte m d h =
    least w32 1 32768 m.length (lit< tt)
    (both (among (pos 1) (pos 32768) (to_z w32 m.length)) (eqb (m.length % m.bin_length) 0) (both (among (pos 1) (pos 32768) (to_z w32 m.length) && eqb (m.length % m.bin_length) 0) (tiles d.todo d.left m.length) h.1.1.1.1.0).0).0

more-moments : (c d : Cut) (r q : Radial) (us vs ps qs : List VolumeMoment) (g h : List ℕ) → MomentsOk c r us ps → MomentsOk d q vs qs → length qs < length ps → length h ≤ 32 → run bytes_of_moment ps ++ g ≡ run bytes_of_moment qs ++ h → ⊥
unfolding run
more-moments c d r q us vs [] qs g h ok ko n l e = omega arith
more-moments c d r q us vs (x ∷ xs) [] g h ok ko n l e =
    let s = some_byte x.header _ ok.1 in
    let lm = moment-trip.length-is x.header ok.0 in
    let lp = ok.2 in
    let z : length (((moment_bytes x.header ++ x.bytes) ++ run bytes_of_moment xs) ++ g) ≡ length (moment_bytes x.header) + length x.bytes + length (run bytes_of_moment xs) + length g = simp length-append in
    let y : length (((moment_bytes x.header ++ x.bytes) ++ run bytes_of_moment xs) ++ g) ≡ length h = ap length e in
    omega arith
more-moments c d r q us vs (x ∷ xs) (y ∷ ys) g h ok ko n l e =
    more-moments c d r q (x ∷ us) (y ∷ vs) xs ys g h ok.3 ko.3 (omega arith) l (first-moment c d r q us vs xs ys x y g h ok ko e).1

-- ---- a radial that is begun only, and a moment's header behind it

pub data Tail : Type 0 where
  none : Tail
  begun : VolumeRadial → Tail
  headed : VolumeRadial → Moment → Tail

abbrev pub tail_bytes : Tail → List ℕ
tail_bytes none = []
tail_bytes (begun r) = bytes_of_radial r ++ []
tail_bytes (headed r m) = bytes_of_radial r ++ moment_bytes m

pub record Fewer (c : Cut) (r : VolumeRadial) : Type 0 where
  pub fits : RadialFits r.header
  pub fewer : length r.moments < r.header.moment_number
  pub moments : MomentsOk c r.header [] r.moments

abbrev pub TailOk : Cut → Tail → Type 0
TailOk c none = Unit {0}
TailOk c (begun r) = Fewer c r
TailOk c (headed r m) = Fewer c r × MomentFits m

module _ (c d : Cut) (x y : VolumeRadial) (g h : List ℕ) where
  headers : RadialFits x.header → RadialFits y.header → bytes_of_radial x ++ g ≡ bytes_of_radial y ++ h → (x.header ≡ y.header) × (run bytes_of_moment x.moments ++ g ≡ run bytes_of_moment y.moments ++ h)
  headers fx fy e =
      same radial-trip.coded x.header y.header _ _ fx fy
      (sym (append_assoc (radial_bytes x.header) (run bytes_of_moment x.moments) g) ∙ e ∙ append_assoc (radial_bytes y.header) (run bytes_of_moment y.moments) h)

  begun-same : Fewer c x → Fewer d y → length g ≤ 32 → length h ≤ 32 → bytes_of_radial x ++ g ≡ bytes_of_radial y ++ h → (x ≡ y) × (g ≡ h)
  begun-same ok ko lg lh e =
      let s = headers ok.fits ko.fits e in
      dite (dec_le (length x.moments) (length y.moments))
      (λ i. dite (dec_le (length y.moments) (length x.moments))
      (λ j. let m = same-moments c d x.header y.header [] [] x.moments y.moments g h ok.moments ko.moments (omega arith) s.1 in
      (λ i. record { header = s.0 i; moments = m.0 i }, m.1))
      (λ j. absurd (more-moments d c y.header x.header [] [] y.moments x.moments h g ko.moments ok.moments (omega arith) lg (sym s.1))))
      (λ i. absurd (more-moments c d x.header y.header [] [] x.moments y.moments g h ok.moments ko.moments (omega arith) lh s.1))

  whole-not-begun : (t : Task) (k before in_cut : ℕ) → RadialOk t c k before in_cut x → Fewer d y → length h ≤ 32 → bytes_of_radial x ++ g ≡ bytes_of_radial y ++ h → ⊥
  whole-not-begun t k before in_cut ok ko lh e =
      let s = headers ok.fits ko.fits e in
      let n : x.header.moment_number ≡ y.header.moment_number = ap (λ (r : Radial). r.moment_number) s.0 in
      let m = ok.count in
      let few = ko.fewer in
      more-moments c d x.header y.header [] [] x.moments y.moments g h ok.moments ko.moments (omega arith) lh s.1

radial-long : (r : VolumeRadial) (g : List ℕ) → RadialFits r.header → 64 ≤ length (bytes_of_radial r ++ g)
radial-long r g fits =
    let l = radial-trip.length-is r.header fits in
    let z : length ((radial_bytes r.header ++ run bytes_of_moment r.moments) ++ g) ≡ length (radial_bytes r.header) + length (run bytes_of_moment r.moments) + length g = simp length-append in
    omega arith

header-long : (m : Moment) → MomentFits m → length (moment_bytes m) ≡ 32
header-long m fits = moment-trip.length-is m fits

not_none : (r : VolumeRadial) (g : List ℕ) → RadialFits r.header → bytes_of_radial r ++ g ≡ [] → ⊥
not_none r g fits e = let l = radial-long r g fits in let z : length (bytes_of_radial r ++ g) ≡ 0 = ap length e in omega arith

whole-not-tail : (t : Task) (c d : Cut) (k before in_cut : ℕ) (x : VolumeRadial) (g : List ℕ) (u : Tail) → RadialOk t c k before in_cut x → TailOk d u → bytes_of_radial x ++ g ≡ tail_bytes u → ⊥
whole-not-tail t c d k before in_cut x g none ok ko e = not_none x g ok.fits e
whole-not-tail t c d k before in_cut x g (begun r) ok ko e = whole-not-begun c d x r g [] t k before in_cut ok ko (omega arith) e
whole-not-tail t c d k before in_cut x g (headed r m) ok ko e = let l = header-long m ko.1 in whole-not-begun c d x r g (moment_bytes m) t k before in_cut ok ko.0 (omega arith) e

tail-same : (c d : Cut) (u v : Tail) → TailOk c u → TailOk d v → tail_bytes u ≡ tail_bytes v → u ≡ v
tail-same c d none none ok ko e = refl
tail-same c d none (begun r) ok ko e = absurd (not_none r [] ko.fits (sym e))
tail-same c d none (headed r m) ok ko e = absurd (not_none r (moment_bytes m) ko.0.fits (sym e))
tail-same c d (begun r) none ok ko e = absurd (not_none r [] ok.fits e)
tail-same c d (headed r m) none ok ko e = absurd (not_none r (moment_bytes m) ok.0.fits e)
tail-same c d (begun r) (begun q) ok ko e = ap begun (begun-same c d r q [] [] ok ko (omega arith) (omega arith) e).0
tail-same c d (begun r) (headed q m) ok ko e =
    let l = header-long m ko.1 in
    let z : 0 ≡ length (moment_bytes m) = ap length (begun-same c d r q [] (moment_bytes m) ok ko.0 (omega arith) (omega arith) e).1 in
    absurd (omega arith)
tail-same c d (headed r m) (begun q) ok ko e =
    let l = header-long m ok.1 in
    let z : length (moment_bytes m) ≡ 0 = ap length (begun-same c d r q (moment_bytes m) [] ok.0 ko (omega arith) (omega arith) e).1 in
    absurd (omega arith)
tail-same c d (headed r m) (headed q n) ok ko e =
    let l = header-long m ok.1 in
    let k = header-long n ko.1 in
    let s = begun-same c d r q (moment_bytes m) (moment_bytes n) ok.0 ko.0 (omega arith) (omega arith) e in
    ap₂ headed s.0 (same moment-trip.coded m n [] [] ok.1 ko.1 (ap (λ (l : List ℕ). l ++ []) s.1)).0

-- ---- a layer that is not closed

module _ (t : Task) (c : Cut) (k : ℕ) where
  now-same : (xs ys : List VolumeRadial) (i j m n : ℕ) (u v : Tail) → UnclosedOk t c k i m xs → UnclosedOk t c k j n ys → TailOk c u → TailOk c v → run bytes_of_radial xs ++ tail_bytes u ≡ run bytes_of_radial ys ++ tail_bytes v
      → (xs ≡ ys) × (u ≡ v)
  unfolding run
  now-same [] [] i j m n u v ok ko uk vk e = (refl, tail-same c c u v uk vk e)
  now-same (x ∷ xs) [] i j m n u v ok ko uk vk e =
      absurd (whole-not-tail t c c k i m x (run bytes_of_radial xs ++ tail_bytes u) v ok.0 vk (sym (append_assoc (bytes_of_radial x) (run bytes_of_radial xs) (tail_bytes u)) ∙ e))
  now-same [] (y ∷ ys) i j m n u v ok ko uk vk e =
      absurd (whole-not-tail t c c k j n y (run bytes_of_radial ys ++ tail_bytes v) u ko.0 uk (sym (append_assoc (bytes_of_radial y) (run bytes_of_radial ys) (tail_bytes v)) ∙ sym e))
  now-same (x ∷ xs) (y ∷ ys) i j m n u v ok ko uk vk e =
      let s = first-radial t c k i j m n x y xs ys (tail_bytes u) (tail_bytes v) ok.0 ko.0 e in
      let o = now-same xs ys (suc i) (suc j) (suc m) (suc n) u v ok.2 ko.2 uk vk s.1 in
      (ap₂ (λ (b : VolumeRadial) (l : List VolumeRadial). b ∷ l) s.0 o.0, o.1)

  closed-not-now : (xs ys : List VolumeRadial) (i j m n : ℕ) (g : List ℕ) (v : Tail) → LayerOk t c k i m xs → UnclosedOk t c k j n ys → TailOk c v → run bytes_of_radial xs ++ g ≡ run bytes_of_radial ys ++ tail_bytes v → ⊥
  unfolding run
  closed-not-now [] ys i j m n g v ok ko vk e = absurd ok
  closed-not-now (x ∷ []) [] i j m n g v ok ko vk e = whole-not-tail t c c k i m x g v ok.0 vk (sym (append_assoc (bytes_of_radial x) [] g) ∙ e)
  closed-not-now (x ∷ (p ∷ ps)) [] i j m n g v ok ko vk e =
      whole-not-tail t c c k i m x (run bytes_of_radial (p ∷ ps) ++ g) v ok.0 vk (sym (append_assoc (bytes_of_radial x) (run bytes_of_radial (p ∷ ps)) g) ∙ e)
  closed-not-now (x ∷ []) (y ∷ ys) i j m n g v ok ko vk e =
      let s = first-radial t c k i j m n x y [] ys g (tail_bytes v) ok.0 ko.0 e in
      ko.1 (closes-same t k x y s.0 ok.1)
  closed-not-now (x ∷ (p ∷ ps)) (y ∷ ys) i j m n g v ok ko vk e =
      let s = first-radial t c k i j m n x y (p ∷ ps) ys g (tail_bytes v) ok.0 ko.0 e in
      closed-not-now (p ∷ ps) ys (suc i) (suc j) (suc m) (suc n) g v ok.2 ko.2 vk s.1

-- ---- the layers, up to the one that is not closed

pub record Layered : Type 0 where
  pub early : List Cut
  pub closed : List (List VolumeRadial)
  pub cut : Cut
  pub now : List VolumeRadial
  pub later : List Cut
  pub tail : Tail

abbrev layered : List Cut → List (List VolumeRadial) → Cut → List VolumeRadial → List Cut → Tail → Layered
layered es xs c nx el u = record { early = es; closed = xs; cut = c; now = nx; later = el; tail = u }

abbrev behind : Cut → List VolumeRadial → Layered → Layered
behind c l z = layered (c ∷ z.early) (l ∷ z.closed) z.cut z.now z.later z.tail

module _ (t : Task) where
  -- a layer that is closed in one reading and not in the other
  clash : (c d : Cut) (k p i j : ℕ) (l ny : List VolumeRadial) (g : List ℕ) (v : Tail) → c ≡ d → p ≡ k + 0 → LayerOk t c k i 0 l → UnclosedOk t d p j 0 ny → TailOk d v → run bytes_of_radial l ++ g ≡ run bytes_of_radial ny ++ tail_bytes v → ⊥
  clash c d k p i j l ny g v ce pe ok ko vk e =
      let z : p ≡ k = omega arith in
      closed-not-now t d k l ny i j 0 0 g v (subst (λ (x : Cut). LayerOk t x k i 0 l) ce ok) (subst (λ (x : ℕ). UnclosedOk t d x j 0 ny) z ko) vk e

  pub layers-same : (es : List Cut) (xs : List (List VolumeRadial)) (fs : List Cut) (ys : List (List VolumeRadial)) (c d : Cut) (nx ny : List VolumeRadial) (el fl : List Cut) (u v : Tail) (k i j p q m n : ℕ) → es ++ (c ∷ el) ≡ fs ++ (d ∷ fl)
      → LayersOk t k i es xs → LayersOk t k j fs ys → p ≡ k + length xs → q ≡ k + length ys → UnclosedOk t c p m 0 nx → UnclosedOk t d q n 0 ny → TailOk c u → TailOk d v
      → run (run bytes_of_radial) xs ++ (run bytes_of_radial nx ++ tail_bytes u) ≡ run (run bytes_of_radial) ys ++ (run bytes_of_radial ny ++ tail_bytes v) → layered es xs c nx el u ≡ layered fs ys d ny fl v
  unfolding run
  layers-same [] (x ∷ xs) fs ys c d nx ny el fl u v k i j p q m n ce ok ko pe qe xk yk uk vk e = absurd ok
  layers-same (a ∷ es) [] fs ys c d nx ny el fl u v k i j p q m n ce ok ko pe qe xk yk uk vk e = absurd ok
  layers-same [] [] [] (y ∷ ys) c d nx ny el fl u v k i j p q m n ce ok ko pe qe xk yk uk vk e = absurd ko
  layers-same [] [] (f ∷ fs) [] c d nx ny el fl u v k i j p q m n ce ok ko pe qe xk yk uk vk e = absurd ko
  layers-same (a ∷ es) (x ∷ xs) [] (y ∷ ys) c d nx ny el fl u v k i j p q m n ce ok ko pe qe xk yk uk vk e = absurd ko
  layers-same (a ∷ es) (x ∷ xs) (f ∷ fs) [] c d nx ny el fl u v k i j p q m n ce ok ko pe qe xk yk uk vk e = absurd ko
  layers-same [] [] [] [] c d nx ny el fl u v k i j p q m n ce ok ko pe qe xk yk uk vk e =
      let h = head-eq_of_cons-eq ce in
      let l = tail-eq_of_cons-eq ce in
      let z : q ≡ p = omega arith in
      let s = now-same t c p nx ny m n 0 0 u v xk (subst (λ (x : Cut). UnclosedOk t x p n 0 ny) (sym h) (subst (λ (x : ℕ). UnclosedOk t d x n 0 ny) z yk)) uk (subst (λ (x : Cut). TailOk x v) (sym h) vk) e in
      λ i. layered [] [] (h i) (s.0 i) (l i) (s.1 i)
  layers-same [] [] (f ∷ fs) (y ∷ ys) c d nx ny el fl u v k i j p q m n ce ok ko pe qe xk yk uk vk e =
      absurd (clash f c k p j m y nx _ u (sym (head-eq_of_cons-eq ce)) pe ko.0 xk uk (sym (append_assoc (run bytes_of_radial y) (run (run bytes_of_radial) ys) (run bytes_of_radial ny ++ tail_bytes v)) ∙ sym e))
  layers-same (a ∷ es) (x ∷ xs) [] [] c d nx ny el fl u v k i j p q m n ce ok ko pe qe xk yk uk vk e =
      absurd (clash a d k q i n x ny _ v (head-eq_of_cons-eq ce) qe ok.0 yk vk (sym (append_assoc (run bytes_of_radial x) (run (run bytes_of_radial) xs) (run bytes_of_radial nx ++ tail_bytes u)) ∙ e))
  layers-same (a ∷ es) (x ∷ xs) (f ∷ fs) (y ∷ ys) c d nx ny el fl u v k i j p q m n ce ok ko pe qe xk yk uk vk e =
      let h = head-eq_of_cons-eq ce in
      let gx = run bytes_of_radial nx ++ tail_bytes u in
      let gy = run bytes_of_radial ny ++ tail_bytes v in
      let s = same-layer t a k i j 0 0 x y (run (run bytes_of_radial) xs ++ gx) (run (run bytes_of_radial) ys ++ gy) ok.0 (subst (λ (z : Cut). LayerOk t z k j 0 y) (sym h) ko.0)
      (sym (append_assoc (run bytes_of_radial x) (run (run bytes_of_radial) xs) gx) ∙ e ∙ append_assoc (run bytes_of_radial y) (run (run bytes_of_radial) ys) gy) in
      let o = layers-same es xs fs ys c d nx ny el fl u v (suc k) (i + length x) (j + length y) p q m n (tail-eq_of_cons-eq ce) ok.1 ko.1 (omega arith) (omega arith) xk yk uk vk s.1 in
      λ i. behind (h i) (s.0 i) (o i)

  -- a volume has all its layers closed
  pub over-not-begun : (cs : List Cut) (ls : List (List VolumeRadial)) (fs : List Cut) (ys : List (List VolumeRadial)) (d : Cut) (ny : List VolumeRadial) (fl : List Cut) (v : Tail) (k i j q n : ℕ) → cs ≡ fs ++ (d ∷ fl) → LayersOk t k i cs ls
      → LayersOk t k j fs ys → q ≡ k + length ys → UnclosedOk t d q n 0 ny → TailOk d v → run (run bytes_of_radial) ls ≡ run (run bytes_of_radial) ys ++ (run bytes_of_radial ny ++ tail_bytes v) → ⊥
  unfolding run
  over-not-begun [] ls [] ys d ny fl v k i j q n ce ok ko qe yk vk e = let z : ◌≡◌ {A = ℕ} 0 1 = cc in omega arith
  over-not-begun [] ls (f ∷ fs) ys d ny fl v k i j q n ce ok ko qe yk vk e = let z : ◌≡◌ {A = ℕ} 0 1 = cc in omega arith
  over-not-begun (a ∷ cs) [] fs ys d ny fl v k i j q n ce ok ko qe yk vk e = absurd ok
  over-not-begun (a ∷ cs) (l ∷ ls) [] (y ∷ ys) d ny fl v k i j q n ce ok ko qe yk vk e = absurd ko
  over-not-begun (a ∷ cs) (l ∷ ls) (f ∷ fs) [] d ny fl v k i j q n ce ok ko qe yk vk e = absurd ko
  over-not-begun (a ∷ cs) (l ∷ ls) [] [] d ny fl v k i j q n ce ok ko qe yk vk e = clash a d k q i n l ny _ v (head-eq_of_cons-eq ce) qe ok.0 yk vk e
  over-not-begun (a ∷ cs) (l ∷ ls) (f ∷ fs) (y ∷ ys) d ny fl v k i j q n ce ok ko qe yk vk e =
      let h = head-eq_of_cons-eq ce in
      let gy = run bytes_of_radial ny ++ tail_bytes v in
      let s = same-layer t a k i j 0 0 l y (run (run bytes_of_radial) ls) (run (run bytes_of_radial) ys ++ gy) ok.0 (subst (λ (z : Cut). LayerOk t z k j 0 y) (sym h) ko.0) (e ∙ append_assoc (run bytes_of_radial y) (run (run bytes_of_radial) ys) gy) in
      over-not-begun cs ls fs ys d ny fl v (suc k) (i + length l) (j + length y) q n (tail-eq_of_cons-eq ce) ok.1 ko.1 (omega arith) yk vk s.1

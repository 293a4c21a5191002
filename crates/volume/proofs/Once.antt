-- Accepted blocks with the same bytes are the same, and so is what follows them where they say what is told. Assumes nothing.
use Prim.Native.Nat.{ℕ, suc, ◌+◌, ◌*◌, ◌<◌, ◌≤◌}
use native.Mathlib.Decide.{dec_le}
use native.Mathlib.Omega.{arith}
use mathlib.Core.Logic.{dite}
use mathlib.Core.Path.{◌≡◌, refl, sym, ap, ap₂, subst, ◌∙◌}
use mathlib.Core.List.{List, [], ◌∷◌, ◌++◌, append_assoc, append-nil}
use lib.ListN.{length, length-append}
use Rattle.le.specs.Le.{run}
use Rattle.le.proofs.Here.{split}
use Rattle.le.proofs.Coded.{same}
use Rattle.cut.specs.declared.Cut.{Cut}
use Rattle.generic.specs.declared.Generic.{Generic}
use Rattle.site.specs.declared.Site.{Site}
use Rattle.task.specs.declared.Task.{Task}
use Rattle.cut.specs.Cut.{cut_bytes}
use Rattle.generic.specs.Generic.{generic_bytes}
use Rattle.moment.specs.Moment.{moment_bytes}
use Rattle.site.specs.Site.{site_bytes}
use Rattle.task.specs.Task.{task_bytes}
use Rattle.generic.proofs.Trips as generic-trip
use Rattle.site.proofs.Trips as site-trip
use Rattle.task.proofs.Trips as task-trip
use Rattle.cut.proofs.Trips as cut-trip
use Rattle.reading.specs.Reading.{plain_stop}
use Rattle.volume.specs.Volume.{VolumeRadial, Volume, IsVolume, bytes_of_radial, bytes_of_volume, GenericOk, SiteOk, TaskOk, CutsOk, LayersOk}
use Rattle.volume.specs.Accepted.{Begun, Accepted, nothing, generic, site, task, radials, radial, moment, volume, volume_of, bytes_of_accepted, radials_in, UnclosedOk, BegunOk, RadialBegun, AcceptedOk, Says}
use Rattle.le.proofs.Laws.{run_end}
use Rattle.volume.proofs.Tells.{tells}
use Rattle.volume.proofs.Same.{same-cuts, same-layers}
use Rattle.volume.proofs.SameBegun.{Tail, none, begun, headed, tail_bytes, Fewer, TailOk, Layered, layers-same, over-not-begun}

-- ---- what stands behind the task

data Body : Type 0 where
  cuts : List Cut → Body
  layers : Layered → Body
  over : List Cut → List (List VolumeRadial) → Body

abbrev body_bytes : Body → List ℕ
body_bytes (cuts cs) = run cut_bytes cs ++ []
body_bytes (layers l) = run cut_bytes (l.early ++ (l.cut ∷ l.later)) ++ (run (run bytes_of_radial) l.closed ++ (run bytes_of_radial l.now ++ tail_bytes l.tail))
body_bytes (over cs ls) = run cut_bytes cs ++ run (run bytes_of_radial) ls

record LayeredOk (t : Task) (l : Layered) : Type 0 where
  number : length (l.early ++ (l.cut ∷ l.later)) ≡ t.cut_number
  cuts : CutsOk (l.early ++ (l.cut ∷ l.later))
  closed : LayersOk t 1 0 l.early l.closed
  now : UnclosedOk t l.cut (suc (length l.closed)) (radials_in l.closed) 0 l.now
  tail : TailOk l.cut l.tail

abbrev BodyOk : Task → Body → Type 0
BodyOk t (cuts cs) = (length cs < t.cut_number) × CutsOk cs
BodyOk t (layers l) = LayeredOk t l
BodyOk t (over cs ls) = (length cs ≡ t.cut_number) × CutsOk cs × LayersOk t 1 0 cs ls

cuts-long : (cs : List Cut) (g : List ℕ) → CutsOk cs → length (run cut_bytes cs ++ g) ≡ 256 * length cs + length g
unfolding run
cuts-long [] g ok = omega arith
cuts-long (c ∷ cs) g ok =
    let h = cuts-long cs g ok.2 in
    let l = cut-trip.length-is c ok.0 in
    let z : length ((cut_bytes c ++ run cut_bytes cs) ++ g) ≡ length (cut_bytes c) + length (run cut_bytes cs ++ g) = ap length (append_assoc (cut_bytes c) (run cut_bytes cs) g) ∙ length-append (cut_bytes c) (run cut_bytes cs ++ g) in
    omega arith

-- fewer cuts than the task says, against all of them
fewer-cuts : (t : Task) (cs ds : List Cut) (g : List ℕ) → length cs < t.cut_number → CutsOk cs → length ds ≡ t.cut_number → CutsOk ds → run cut_bytes cs ++ [] ≡ run cut_bytes ds ++ g → ⊥
fewer-cuts t cs ds g n ok m ko e =
    let x = cuts-long cs [] ok in
    let y = cuts-long ds g ko in
    let z : length (run cut_bytes cs ++ []) ≡ length (run cut_bytes ds ++ g) = ap length e in
    omega arith

same_body : (t : Task) (x y : Body) → BodyOk t x → BodyOk t y → body_bytes x ≡ body_bytes y → x ≡ y
same_body t (cuts cs) (cuts ds) ok ko e =
    let x = cuts-long cs [] ok.1 in
    let y = cuts-long ds [] ko.1 in
    let z : length (run cut_bytes cs ++ []) ≡ length (run cut_bytes ds ++ []) = ap length e in
    ap cuts (same-cuts cs ds [] [] ok.1 ko.1 (omega arith) e).0
same_body t (cuts cs) (layers l) ok ko e = absurd (fewer-cuts t cs _ _ ok.0 ok.1 ko.number ko.cuts e)
same_body t (cuts cs) (over ds ls) ok ko e = absurd (fewer-cuts t cs ds _ ok.0 ok.1 ko.0 ko.1 e)
same_body t (layers l) (cuts ds) ok ko e = absurd (fewer-cuts t ds _ _ ko.0 ko.1 ok.number ok.cuts (sym e))
same_body t (over cs ls) (cuts ds) ok ko e = absurd (fewer-cuts t ds cs _ ko.0 ko.1 ok.0 ok.1 (sym e))
same_body t (layers x) (layers y) ok ko e =
    let s = same-cuts (x.early ++ (x.cut ∷ x.later)) (y.early ++ (y.cut ∷ y.later)) _ _ ok.cuts ko.cuts (ok.number ∙ sym ko.number) e in
    ap layers (layers-same t x.early x.closed y.early y.closed x.cut y.cut x.now y.now x.later y.later x.tail y.tail 1 0 0 _ _ _ _ s.0
    ok.closed ko.closed (omega arith) (omega arith) ok.now ko.now ok.tail ko.tail s.1)
same_body t (layers x) (over ds ls) ok ko e =
    let s = same-cuts ds (x.early ++ (x.cut ∷ x.later)) _ _ ko.1 ok.cuts (ko.0 ∙ sym ok.number) (sym e) in
    absurd (over-not-begun t ds ls x.early x.closed x.cut x.now x.later x.tail 1 0 0 _ _ s.0 ko.2 ok.closed (omega arith) ok.now ok.tail s.1)
same_body t (over cs ls) (layers y) ok ko e =
    let s = same-cuts cs (y.early ++ (y.cut ∷ y.later)) _ _ ok.1 ko.cuts (ok.0 ∙ sym ko.number) e in
    absurd (over-not-begun t cs ls y.early y.closed y.cut y.now y.later y.tail 1 0 0 _ _ s.0 ok.2 ko.closed (omega arith) ko.now ko.tail s.1)
same_body t (over cs ls) (over ds ms) ok ko e =
    let s = same-cuts cs ds _ _ ok.1 ko.1 (ok.0 ∙ sym ko.0) e in
    ap₂ over s.0 (same-layers t cs 1 0 0 ls ms ok.2 (subst (λ (x : List Cut). LayersOk t 1 0 x ms) (sym s.0) ko.2) s.1)

-- ---- accepted blocks, by whether the task is among them

data View : Type 0 where
  first : View
  second : Generic → View
  third : Generic → Site → View
  behind : Generic → Site → Task → Body → View

abbrev tailed : Begun → Tail → View
tailed b u =
    behind b.generic b.site b.task (layers (record { early = b.early; closed = b.closed; cut = b.cut; now = b.now; later = b.later; tail = u }))

abbrev begun_of : Generic → Site → Task → Layered → Begun
begun_of g s t l = record { generic = g; site = s; task = t; early = l.early; closed = l.closed; cut = l.cut; now = l.now; later = l.later }

abbrev accept-tail : Begun → Tail → Accepted
accept-tail b none = radials b
accept-tail b (begun r) = radial b r
accept-tail b (headed r m) = moment b r m

abbrev accept : View → Accepted
accept first = nothing
accept (second g) = generic g
accept (third g s) = site g s
accept (behind g s t (cuts cs)) = task g s t cs
accept (behind g s t (layers l)) = accept-tail (begun_of g s t l) l.tail
accept (behind g s t (over cs ls)) = volume (record { generic = g; site = s; task = t; cuts = cs; layers = ls })

abbrev view_bytes : View → List ℕ
view_bytes first = []
view_bytes (second g) = generic_bytes g
view_bytes (third g s) = generic_bytes g ++ site_bytes s
view_bytes (behind g s t x) = generic_bytes g ++ (site_bytes s ++ (task_bytes t ++ body_bytes x))

abbrev ViewOk : View → Type 0
ViewOk first = Unit {0}
ViewOk (second g) = GenericOk g
ViewOk (third g s) = GenericOk g × SiteOk s
ViewOk (behind g s t x) = GenericOk g × SiteOk s × TaskOk t × BodyOk t x

-- how long they are, as far as the site; with the task they are at least so long
abbrev rank : View → ℕ
rank first = 0
rank (second g) = 32
rank (third g s) = 160
rank (behind g s t x) = 416

record Long (x : View) : Type 0 where
  most : rank x ≤ 416
  least : rank x ≤ length (view_bytes x)
  exact : rank x < 416 → length (view_bytes x) ≡ rank x

long : (x : View) → ViewOk x → Long x
long first ok = record { most = omega arith; least = omega arith; exact = λ h. refl }
long (second g) ok = let x = generic-trip.length-is g ok.0 in record { most = omega arith; least = omega arith; exact = λ h. x }
long (third g s) ok =
    let x = generic-trip.length-is g ok.0.0 in
    let y = site-trip.length-is s ok.1.0 in
    let z = length-append (generic_bytes g) (site_bytes s) in
    record { most = omega arith; least = omega arith; exact = λ h. omega arith }
long (behind g s t b) ok =
    let x = generic-trip.length-is g ok.0.0 in
    let y = site-trip.length-is s ok.1.0 in
    let z = task-trip.length-is t ok.2.0 in
    let w : length (generic_bytes g ++ (site_bytes s ++ (task_bytes t ++ body_bytes b))) ≡ length (generic_bytes g) + (length (site_bytes s) + (length (task_bytes t) + length (body_bytes b))) = simp length-append in
    record { most = omega arith; least = omega arith; exact = λ h. omega arith }

rank_same : (x y : View) → ViewOk x → ViewOk y → view_bytes x ≡ view_bytes y → rank x ≡ rank y
rank_same x y ok ko e =
    let l = long x ok in
    let k = long y ko in
    let lm = l.most in
    let ll = l.least in
    let km = k.most in
    let kl = k.least in
    let z : length (view_bytes x) ≡ length (view_bytes y) = ap length e in
    dite (dec_le 416 (rank x))
    (λ h. dite (dec_le 416 (rank y)) (λ i. omega arith) (λ i. let q = k.exact (omega arith) in omega arith))
    (λ h. let p = l.exact (omega arith) in dite (dec_le 416 (rank y)) (λ i. omega arith) (λ i. let q = k.exact (omega arith) in omega arith))

other : (x y : View) → ViewOk x → ViewOk y → view_bytes x ≡ view_bytes y → (rank x ≡ rank y → ⊥) → ⊥
other x y ok ko e n = n (rank_same x y ok ko e)

same_view : (x y : View) → ViewOk x → ViewOk y → view_bytes x ≡ view_bytes y → x ≡ y
same_view first first ok ko e = refl
same_view (second g) (second h) ok ko e = ap second (same generic-trip.coded g h [] [] ok.0 ko.0 (ap (λ (l : List ℕ). l ++ []) e)).0
same_view (third g s) (third h r) ok ko e =
    let x = same generic-trip.coded g h (site_bytes s) (site_bytes r) ok.0.0 ko.0.0 e in
    let y = same site-trip.coded s r [] [] ok.1.0 ko.1.0 (ap (λ (l : List ℕ). l ++ []) x.1) in
    ap₂ third x.0 y.0
same_view (behind g s t x) (behind h r u y) ok ko e =
    let a = same generic-trip.coded g h _ _ ok.0.0 ko.0.0 e in
    let b = same site-trip.coded s r _ _ ok.1.0 ko.1.0 a.1 in
    let c = same task-trip.coded t u _ _ ok.2.0 ko.2.0 b.1 in
    let d = same_body t x y ok.3 (subst (λ (z : Task). BodyOk z y) (sym c.0) ko.3) c.1 in
    λ i. behind (a.0 i) (b.0 i) (c.0 i) (d i)
same_view first (second h) ok ko e = absurd (other first (second h) ok ko e (λ h. omega arith))
same_view first (third h r) ok ko e = absurd (other first (third h r) ok ko e (λ h. omega arith))
same_view first (behind h r u y) ok ko e = absurd (other first (behind h r u y) ok ko e (λ h. omega arith))
same_view (second g) first ok ko e = absurd (other (second g) first ok ko e (λ h. omega arith))
same_view (second g) (third h r) ok ko e = absurd (other (second g) (third h r) ok ko e (λ h. omega arith))
same_view (second g) (behind h r u y) ok ko e = absurd (other (second g) (behind h r u y) ok ko e (λ h. omega arith))
same_view (third g s) first ok ko e = absurd (other (third g s) first ok ko e (λ h. omega arith))
same_view (third g s) (second h) ok ko e = absurd (other (third g s) (second h) ok ko e (λ h. omega arith))
same_view (third g s) (behind h r u y) ok ko e = absurd (other (third g s) (behind h r u y) ok ko e (λ h. omega arith))
same_view (behind g s t x) first ok ko e = absurd (other (behind g s t x) first ok ko e (λ h. omega arith))
same_view (behind g s t x) (second h) ok ko e = absurd (other (behind g s t x) (second h) ok ko e (λ h. omega arith))
same_view (behind g s t x) (third h r) ok ko e = absurd (other (behind g s t x) (third h r) ok ko e (λ h. omega arith))

-- ---- the view of accepted blocks

abbrev view : Accepted → View
view nothing = first
view (generic g) = second g
view (site g s) = third g s
view (task g s t cs) = behind g s t (cuts cs)
view (radials b) = tailed b none
view (radial b r) = tailed b (begun r)
view (moment b r m) = tailed b (headed r m)
view (volume v) = behind v.generic v.site v.task (over v.cuts v.layers)

back : (a : Accepted) → accept (view a) ≡ a
back nothing = refl
back (generic g) = refl
back (site g s) = refl
back (task g s t cs) = refl
back (radials b) = refl
back (radial b r) = refl
back (moment b r m) = refl
back (volume v) = refl

fewer-of : (b : Begun) (r : VolumeRadial) → RadialBegun b r → Fewer b.cut r
fewer-of b r ok = record { fits = ok.fits; fewer = ok.fewer; moments = ok.moments }

begun_ok : (b : Begun) (u : Tail) → BegunOk b → TailOk b.cut u → ViewOk (tailed b u)
begun_ok b u ok tail = (ok.headed.generic, ok.headed.site, ok.headed.task, record { number = ok.headed.number; cuts = ok.headed.cuts; closed = ok.closed; now = ok.now; tail = tail })

view-ok : (a : Accepted) → AcceptedOk a → ViewOk (view a)
view-ok nothing ok = tt
view-ok (generic g) ok = ok
view-ok (site g s) ok = ok
view-ok (task g s t cs) ok = (ok.0, ok.1, ok.2, (ok.3, ok.4))
view-ok (radials b) ok = begun_ok b none ok tt
view-ok (radial b r) ok = begun_ok b (begun r) ok.0 (fewer-of b r ok.1)
view-ok (moment b r m) ok = begun_ok b (headed r m) ok.0 (fewer-of b r ok.1, ok.2)
view-ok (volume v) ok = (ok.headed.generic, ok.headed.site, ok.headed.task, (ok.headed.number, ok.headed.cuts, ok.layers))

begun-bytes : (b : Begun) (u : Tail) → view_bytes (tailed b u) ≡ bytes_of_volume (volume_of b) ++ tail_bytes u
begun-bytes b u =
    let c = run (run bytes_of_radial) b.closed in
    let n = run bytes_of_radial b.now in
    let h = (generic_bytes b.generic ++ site_bytes b.site) ++ task_bytes b.task in
    let d = run cut_bytes (b.early ++ (b.cut ∷ b.later)) in
    regroup (generic_bytes b.generic) (site_bytes b.site) (task_bytes b.task) d c n (tail_bytes u) ∙ ap (λ (l : List ℕ). ((h ++ d) ++ l) ++ tail_bytes u) (sym (run_end (run bytes_of_radial) b.closed b.now))
  where
    regroup : (a b c d e f g : List ℕ) → a ++ (b ++ (c ++ (d ++ (e ++ (f ++ g))))) ≡ ((((a ++ b) ++ c) ++ d) ++ (e ++ f)) ++ g
    regroup a b c d e f g = simp append_assoc

together : (a b c d e : List ℕ) → a ++ (b ++ (c ++ (d ++ e))) ≡ (((a ++ b) ++ c) ++ d) ++ e
together a b c d e = simp append_assoc

view-bytes : (a : Accepted) → view_bytes (view a) ≡ bytes_of_accepted a
unfolding run
view-bytes nothing = refl
view-bytes (generic g) = refl
view-bytes (site g s) = refl
view-bytes (task g s t cs) = together (generic_bytes g) (site_bytes s) (task_bytes t) (run cut_bytes cs) []
view-bytes (radials b) = begun-bytes b none ∙ append-nil (bytes_of_volume (volume_of b))
view-bytes (radial b r) = begun-bytes b (begun r) ∙ ap (λ (l : List ℕ). bytes_of_volume (volume_of b) ++ l) (append-nil (bytes_of_radial r))
view-bytes (moment b r m) = begun-bytes b (headed r m) ∙ sym (append_assoc (bytes_of_volume (volume_of b)) (bytes_of_radial r) (moment_bytes m))
view-bytes (volume v) = together (generic_bytes v.generic) (site_bytes v.site) (task_bytes v.task) (run cut_bytes v.cuts) (run (run bytes_of_radial) v.layers)

pub same-accepted : (a b : Accepted) → AcceptedOk a → AcceptedOk b → bytes_of_accepted a ≡ bytes_of_accepted b → a ≡ b
same-accepted a b ok ko e = sym (back a) ∙ ap accept (same_view (view a) (view b) (view-ok a ok) (view-ok b ko) (view-bytes a ∙ e ∙ sym (view-bytes b))) ∙ back b

pub same-volume : (v u : Volume) → IsVolume v → IsVolume u → bytes_of_volume v ≡ bytes_of_volume u → v ≡ u
same-volume v u ok ko e = let s = same-accepted (volume v) (volume u) ok ko e in cc

-- what is read of their file is as long as the one's, and as the other's
pub one : (a b : Accepted) (rest q x y : List ℕ) → AcceptedOk a → AcceptedOk b → Says a rest x → Says b q y → bytes_of_accepted a ++ rest ≡ bytes_of_accepted b ++ q → (a ≡ b) × (rest ≡ q)
one a b rest q x y ok ko says said e =
    let l = (tells a rest x ok says).read in
    let k = (tells b q y ko said).read in
    let s = split (bytes_of_accepted a) (bytes_of_accepted b) rest q (sym l ∙ ap (λ (f : List ℕ). (plain_stop f).at) e ∙ k) e in
    (same-accepted a b ok ko s.0, s.1)

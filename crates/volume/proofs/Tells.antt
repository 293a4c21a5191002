-- What the structure says of accepted blocks and the bytes behind them is told of the file. Assumes nothing.
use Prim.Native.Nat.{ℕ, suc, ◌+◌, ◌-◌, ◌*◌}
use native.Mathlib.Omega.{arith}
use mathlib.Core.Path.{◌≡◌, refl, sym, ap, subst, subst⁻¹, ◌∙◌}
use mathlib.Core.Bool.{false}
use mathlib.Core.List.{List, [], ◌∷◌, ◌++◌, append_assoc, append-nil, reverse}
use lib.Dec.{leb}
use lib.ListN.{length, take, length-append, length-drop}
use borrow.Author.Tests.{lt-leb}
use Rattle.le.specs.Le.{run}
use Rattle.le.proofs.Here.{At}
use Rattle.le.proofs.Coded.{stands}
use Rattle.rules.proofs.Numbers.{some-cut}
use Rattle.cut.specs.declared.Cut.{Cut}
use Rattle.generic.specs.declared.Generic.{Generic}
use Rattle.moment.specs.declared.Moment.{Moment}
use Rattle.site.specs.declared.Site.{Site}
use Rattle.task.specs.declared.Task.{Task}
use Rattle.cut.specs.Cut.{cut_of, cut_at, cut_bytes, cut_rules}
use Rattle.generic.specs.Generic.{generic_of, generic_at, generic_bytes, generic_rules}
use Rattle.moment.specs.Moment.{moment_of, moment_at, moment_bytes, moment_rules}
use Rattle.radial.specs.Radial.{radial_of, radial_at, radial_bytes, radial_rules}
use Rattle.site.specs.Site.{site_of, site_at, site_bytes, site_rules}
use Rattle.task.specs.Task.{task_of, task_at, task_bytes, task_rules}
use Rattle.generic.proofs.Trips as generic-trip
use Rattle.site.proofs.Trips as site-trip
use Rattle.task.proofs.Trips as task-trip
use Rattle.walk.specs.declared.due.Due.{Due}
use Rattle.walk.specs.declared.due.Due.TheVariants as due
use Rattle.walk.specs.declared.due.Present.{Present}
use Rattle.walk.specs.declared.due.Rest.{Rest}
use Rattle.walk.specs.declared.due.Walk.{Walk}
use Rattle.walk.specs.Due.{cut_place, at_start, is_end, ends_radial, size_at, due_if}
use Rattle.walk.specs.After.{after_generic, after_site}
use Rattle.reading.specs.declared.Stretch.{Stretch}
use Rattle.reading.specs.Reading.{plain_stop, stretch_if}
use Rattle.reading.proofs.Run.{plain_here}
use Rattle.volume.specs.Volume.{VolumeRadial, GenericOk, SiteOk, TaskOk, CutsOk, LayersOk, bytes_of_moment, bytes_of_radial, bytes_of_volume}
use Rattle.volume.specs.Accepted.{Begun, Accepted, nothing, generic, site, task, radials, radial, moment, volume, volume_of, bytes_of_accepted, radials_in, due_radial, due_moment, BegunOk, RadialBegun, AcceptedOk, Says}
use Rattle.volume.specs.Meaning.{end_of, layer_stretches, layers_stretches, first_place, volume_stretches, accepted_stretches, Told}
use Rattle.volume.proofs.Runs.{Finishes, before-block}
use Rattle.reading.proofs.Exactly.{holding, breaking, settles-generic, settles-site, settles-task, settles-cut, settles-radial, settles-moment}
use Rattle.volume.proofs.Takes.{radial_walk, moment_walk, rest_of, cut_walk, nowhere}
use Rattle.volume.proofs.Forth.{Known, header-on, moments-begun, radial-header, unclosed}
use Rattle.volume.proofs.Layers.{CutsAt, cuts-at, cut-behind, ends_at, end_after, ends-after, stretches-end, layers-on, layers-whole, cuts-on}
use Rattle.volume.proofs.Stops.{Behind, Stops, none_first, front, stop-before, stop-behind}
use Rattle.le.proofs.Laws.{run_end}

-- ---- the blocks before the radials

module _ (f : List ℕ) (E : Walk → Type 0) where
  from-generic : (g : Generic) (h : List ℕ) (ss : List Stretch) → GenericOk g → f ≡ generic_bytes g ++ h → (At f 32 h → Finishes f E (after_generic at_start 32) ss) → Finishes f E at_start ss
  unfolding is_end size_at ends_radial stretch_if
  from-generic g h ss ok e next =
      let x = stands generic-trip.coded f 0 g h ok.0 (record { within = omega arith; rest = e }) in
      before-block f E at_start _ false _ refl x.room (settles-generic (take 32 f) at_start g x.is ∙ holding (generic_rules g) _ _ ok.1) refl (next x.next)

  from-site : (s : Site) (h : List ℕ) (ss : List Stretch) → SiteOk s → At f 32 (site_bytes s ++ h) → (At f 160 h → Finishes f E (after_site (after_generic at_start 32) 160) ss) → Finishes f E (after_generic at_start 32) ss
  unfolding is_end size_at ends_radial stretch_if
  from-site s h ss ok a next =
      let w = after_generic at_start 32 in
      let x = stands site-trip.coded f 32 s h ok.0 a in
      before-block f E w _ false _ refl x.room (settles-site (take 160 f) w s x.is ∙ holding (site_rules s) _ _ ok.1) refl (next x.next)

  from-task : (t : Task) (h : List ℕ) (ss : List Stretch) → TaskOk t → At f 160 (task_bytes t ++ h) → (At f 416 h → Finishes f E (cut_walk t 0 416 t.cut_number) ss)
      → Finishes f E (after_site (after_generic at_start 32) 160) ss
  unfolding is_end size_at ends_radial stretch_if
  from-task t h ss ok a next =
      let w = after_site (after_generic at_start 32) 160 in
      let x = stands task-trip.coded f 160 t h ok.0 a in
      before-block f E w _ false _ refl x.room (settles-task (take 416 f) w t x.is ∙ holding (task_rules t) _ _ ok.1) refl (next x.next)

  from_heads : (g : Generic) (s : Site) (t : Task) (h : List ℕ) (ss : List Stretch) → GenericOk g → SiteOk s → TaskOk t → f ≡ generic_bytes g ++ (site_bytes s ++ (task_bytes t ++ h))
      → (At f 416 h → Finishes f E (cut_walk t 0 416 t.cut_number) ss) → Finishes f E at_start ss
  from_heads g s t h ss go so to e next = from-generic g _ ss go e (λ a. from-site s _ ss so a (λ a. from-task t h ss to a next))

  -- all cuts
  from-cuts : (t : Task) (cs : List Cut) (g : List ℕ) (ss : List Stretch) → TaskOk t → length cs ≡ t.cut_number → CutsOk cs → At f 416 (run cut_bytes cs ++ g)
      → (CutsAt f (416 + 256 * length cs) 1 cs → (re : Rest) → At f (416 + 256 * length cs) g → Finishes f E (radial_walk t 1 0 0 (416 + 256 * length cs) nowhere re) ss)
      → Finishes f E (cut_walk t 0 416 t.cut_number) ss
  unfolding due_if
  from-cuts t [] g ss to n ok a next = let o = some-cut _ _ to.1.1.1.1.0 in absurd (omega arith)
  from-cuts t (c ∷ cs) g ss to n ok a next =
      let end = 416 + 256 * length (c ∷ cs) in
      let z : length (c ∷ cs) + 0 ≡ t.cut_number = omega arith in
      let ca = cuts-at f end 1 (c ∷ cs) g (omega arith) (omega arith) ok a in
      subst (λ (n : ℕ). Finishes f E (cut_walk t 0 416 n) ss) z (cuts-on f E t cs c 0 0 416 end g ss ok a refl (λ i. next ca _ i))

-- ---- a beginning, up to a radial's end

-- where its last radial ends
abbrev place_of : Begun → ℕ
place_of b = end_of (ends_at (first_place (volume_of b)) b.closed) b.now

-- its cut's number
abbrev number_of : Begun → ℕ
number_of b = suc (length b.closed)

pub same_number : (t : Task) (k before : ℕ) (cs : List Cut) (ls : List (List VolumeRadial)) → LayersOk t k before cs ls → length cs ≡ length ls
same_number t k before [] [] ok = refl
same_number t k before [] (l ∷ ls) ok = absurd ok
same_number t k before (c ∷ cs) [] ok = absurd ok
same_number t k before (c ∷ cs) (l ∷ ls) ok = ap suc (same_number t (suc k) (before + length l) cs ls ok.1)

begun-on : (f : List ℕ) (E : Walk → Type 0) (b : Begun) (g : List ℕ) (ss : List Stretch) → BegunOk b → f ≡ bytes_of_volume (volume_of b) ++ g
    → ((pr : Present) (re : Rest) → Known f E b.task b.cut (number_of b) (place_of b) → At f (place_of b) g
    → Finishes f E (radial_walk b.task (number_of b) (radials_in b.closed + length b.now) (length b.now) (place_of b) pr re) ss)
    → Finishes f E at_start (volume_stretches (volume_of b) ++ ss)
begun-on f E b g ss ok e next =
    let t = b.task in
    let v = volume_of b in
    let base = first_place v in
    let mid = ends_at base b.closed in
    let n = ok.headed.number in
    let la = length-append b.early (b.cut ∷ b.later) in
    let ln = same_number t 1 0 b.early b.closed ok.closed in
    let lb = ends-after base b.closed in
    let le = end_after mid b.now in
    let e1 : 1 + length b.closed ≡ number_of b = omega arith in
    let e2 : 1 + length b.early ≡ number_of b = omega arith in
    let e3 : 0 + radials_in b.closed ≡ radials_in b.closed = omega arith in
    let e4 : 0 + length b.now ≡ length b.now = omega arith in
    let r = run bytes_of_radial b.now in
    let q : run (run bytes_of_radial) v.layers ++ g ≡ run (run bytes_of_radial) b.closed ++ (r ++ g) = ap (λ (l : List ℕ). l ++ g) (run_end (run bytes_of_radial) b.closed b.now) ∙ append_assoc (run (run bytes_of_radial) b.closed) r g in
    let bytes : f ≡ generic_bytes b.generic ++ (site_bytes b.site ++ (task_bytes t ++ (run cut_bytes v.cuts ++ (run (run bytes_of_radial) b.closed ++ (r ++ g))))) =
    e ∙ whole (generic_bytes b.generic) (site_bytes b.site) (task_bytes t) (run cut_bytes v.cuts) (run (run bytes_of_radial) v.layers) g ∙ ap (λ (l : List ℕ). generic_bytes b.generic ++ (site_bytes b.site ++ (task_bytes t ++ (run cut_bytes v.cuts ++ l)))) q in
    let s : layers_stretches 1 base b.closed ++ (layer_stretches (number_of b) mid b.now ++ ss) ≡ volume_stretches v ++ ss =
    sym (append_assoc (layers_stretches 1 base b.closed) (layer_stretches (number_of b) mid b.now) ss)
    ∙ ap (λ (i : ℕ). (layers_stretches 1 base b.closed ++ layer_stretches i mid b.now) ++ ss) (sym e1)
    ∙ ap (λ (l : List Stretch). l ++ ss) (sym (stretches-end 1 base b.closed b.now)) in
    subst (Finishes f E at_start) s
    (from_heads f E b.generic b.site t _ _ ok.headed.generic ok.headed.site ok.headed.task bytes
    (λ i. from-cuts f E t v.cuts _ _ ok.headed.task n ok.headed.cuts i
    (λ ca re i. layers-on f E t b.early b.closed b.cut b.later 1 0 base base _ nowhere re _ ca (omega arith) (omega arith) ok.closed i
    (λ pr re i. subst⁻¹ (λ (k : ℕ). Finishes f E (radial_walk t k (0 + radials_in b.closed) 0 mid pr re) (layer_stretches (number_of b) mid b.now ++ ss)) e1
    (subst⁻¹ (λ (k : ℕ). Finishes f E (radial_walk t (number_of b) k 0 mid pr re) (layer_stretches (number_of b) mid b.now ++ ss)) e3
    (let known : Known f E t b.cut (number_of b) mid = λ m h. subst (λ (k : ℕ). cut_at (take m f) (cut_place k) ≡ b.cut) e2 (cut-behind f base 1 b.early b.cut b.later ca m (omega arith)) in
    unclosed f E t b.cut (number_of b) b.now (radials_in b.closed) 0 mid g pr re ss known ok.now i
    (λ pr re i. subst⁻¹ (λ (k : ℕ). Finishes f E (radial_walk t (number_of b) (radials_in b.closed + length b.now) k (place_of b) pr re) ss) e4
    (next pr re (λ m h. known m (omega arith)) i))))))))
  where
    whole : (a b c d e g : List ℕ) → ((((a ++ b) ++ c) ++ d) ++ e) ++ g ≡ a ++ (b ++ (c ++ (d ++ (e ++ g))))
    whole a b c d e g = simp append_assoc

-- ---- the stops

-- accepted blocks end where the bytes behind them begin
ends-at : (x rest : List ℕ) (at : ℕ) → At (x ++ rest) at rest → at ≡ length x
ends-at x rest at a =
    let h = a.within in
    let l = length-append x rest in
    let m : length (x ++ rest) - at ≡ length rest = sym (length-drop at (x ++ rest)) ∙ ap length a.rest in
    omega arith

module _ (rest x : List ℕ) where
  abbrev file_of : Accepted → List ℕ
  file_of a = bytes_of_accepted a ++ rest

  abbrev Halts : Accepted → Walk → List Stretch → Type 0
  Halts a w ss = Finishes (file_of a) (Stops a (file_of a) x) w ss

  stop-nothing : Says nothing rest x → Halts nothing at_start []
  unfolding is_end size_at generic_at
  stop-nothing says =
      let i : At rest 0 rest = record { within = omega arith; rest = refl } in
      stop-before nothing rest rest x at_start tt refl refl refl i refl
      (λ c h k. plain_here rest at_start refl h ∙ settles-generic (take 32 rest) at_start (generic_at rest 0) (ap generic_of (front 32 rest 0 rest i)) ∙ breaking (generic_rules (generic_at rest 0)) 0 _ c k) says

  stop-generic : (g : Generic) → Says (generic g) rest x → At (file_of (generic g)) 32 rest → Halts (generic g) (after_generic at_start 32) []
  unfolding is_end size_at site_at
  stop-generic g says i =
      let f = file_of (generic g) in
      let w = after_generic at_start 32 in
      stop-before (generic g) f rest x w tt refl refl refl i (ends-at (generic_bytes g) rest 32 i)
      (λ c h k. plain_here f w refl h ∙ settles-site (take 160 f) w (site_at rest 0) (ap site_of (front 128 f 32 rest i)) ∙ breaking (site_rules (site_at rest 0)) 32 _ c k) says

  stop-site : (g : Generic) (s : Site) → Says (site g s) rest x → At (file_of (site g s)) 160 rest → Halts (site g s) (after_site (after_generic at_start 32) 160) []
  unfolding is_end size_at task_at
  stop-site g s says i =
      let f = file_of (site g s) in
      let w = after_site (after_generic at_start 32) 160 in
      stop-before (site g s) f rest x w tt refl refl refl i (ends-at (generic_bytes g ++ site_bytes s) rest 160 i)
      (λ c h k. plain_here f w refl h ∙ settles-task (take 416 f) w (task_at rest 0) (ap task_of (front 256 f 160 rest i)) ∙ breaking (task_rules (task_at rest 0)) 160 _ c k) says

  stop-task : (g : Generic) (s : Site) (t : Task) (cs : List Cut) (j at todo : ℕ) → todo ≡ t.cut_number - length cs → Says (task g s t cs) rest x → At (file_of (task g s t cs)) at rest → Halts (task g s t cs) (cut_walk t j at todo) []
  unfolding is_end size_at cut_at
  stop-task g s t cs j at todo left says i =
      let f = file_of (task g s t cs) in
      let w = cut_walk t j at todo in
      stop-before (task g s t cs) f rest x w tt (refl, refl, left) refl refl i (ends-at (bytes_of_accepted (task g s t cs)) rest at i)
      (λ c h k. plain_here f w refl h ∙ settles-cut (take (at + 256) f) w (cut_at rest 0) (ap cut_of (front 256 f at rest i)) ∙ breaking (cut_rules (cut_at rest 0)) at _ c k) says

  stop-radials : (b : Begun) (at : ℕ) (pr : Present) (re : Rest) → Says (radials b) rest x → At (file_of (radials b)) at rest
      → Halts (radials b) (radial_walk b.task (number_of b) (radials_in b.closed + length b.now) (length b.now) at pr re) []
  unfolding is_end size_at radial_at
  stop-radials b at pr re says i =
      let f = file_of (radials b) in
      let w = radial_walk b.task (number_of b) (radials_in b.closed + length b.now) (length b.now) at pr re in
      stop-before (radials b) f rest x w tt (refl, refl) refl refl i (ends-at (bytes_of_volume (volume_of b)) rest at i)
      (λ c h k. plain_here f w refl h ∙ settles-radial (take (at + 64) f) w (radial_at rest 0) _ (ap radial_of (front 64 f at rest i)) refl ∙ breaking (radial_rules (radial_at rest 0) (due_radial b)) at _ c k) says

  stop-radial : (b : Begun) (r : VolumeRadial) (start at len : ℕ) → start ≡ length (bytes_of_volume (volume_of b)) → Says (radial b r) rest x → At (file_of (radial b r)) at rest
      → Halts (radial b r) (moment_walk b.task b.cut (number_of b) r.header (radials_in b.closed + length b.now) start at (rest_of r.header (reverse r.moments) len)) []
  unfolding is_end size_at moment_at
  stop-radial b r start at len place says i =
      let f = file_of (radial b r) in
      let w = moment_walk b.task b.cut (number_of b) r.header (radials_in b.closed + length b.now) start at (rest_of r.header (reverse r.moments) len) in
      stop-before (radial b r) f rest x w tt (refl, refl, place, refl) refl refl i (ends-at (bytes_of_accepted (radial b r)) rest at i)
      (λ c h k. plain_here f w refl h ∙ settles-moment (take (at + 32) f) w (moment_at rest 0) (ap moment_of (front 32 f at rest i)) ∙ breaking (moment_rules (moment_at rest 0) (due_moment b r)) at _ c k) says

  stop-moment : (b : Begun) (r : VolumeRadial) (m : Moment) (w : Walk) → w.due ≡ due.Data → w.rest.length ≡ m.length → Says (moment b r m) rest x → At (file_of (moment b r m)) w.at rest → Halts (moment b r m) w []
  unfolding is_end size_at
  stop-moment b r m w e s says i =
      stop-before (moment b r m) (file_of (moment b r m)) rest x w tt (e, s) (ap is_end e) (ap (λ (d : Due). size_at d w.rest.length) e ∙ s) i (ends-at (bytes_of_accepted (moment b r m)) rest w.at i) (λ c h k. absurd (none_first c k)) says

-- ---- all of it

-- a radial's header and its moments so far
radial-on : (b : Begun) (r : VolumeRadial) (f : List ℕ) (E : Walk → Type 0) (g : List ℕ) → BegunOk b → RadialBegun b r → f ≡ bytes_of_volume (volume_of b) ++ (bytes_of_radial r ++ g)
    → (place_of b ≡ length (bytes_of_volume (volume_of b)) → (at len : ℕ) → At f at g → Finishes f E (moment_walk b.task b.cut (number_of b) r.header (radials_in b.closed + length b.now) (place_of b) at (rest_of r.header (reverse r.moments) len)) [])
    → Finishes f E at_start (volume_stretches (volume_of b))
radial-on b r f E g ok begun e next =
    let h = r.header in
    let few = begun.fewer in
    subst (Finishes f E at_start) (append-nil (volume_stretches (volume_of b)))
    (begun-on f E b (bytes_of_radial r ++ g) [] ok e
    (λ pr re known i. let place = ends-at (bytes_of_volume (volume_of b)) (bytes_of_radial r ++ g) (place_of b) (subst (λ (l : List ℕ). At l (place_of b) (bytes_of_radial r ++ g)) e i) in
    radial-header f E b.task b.cut (number_of b) h (radials_in b.closed + length b.now) (length b.now) (place_of b) (run bytes_of_moment r.moments ++ g) pr re [] begun.fits begun.rules (known (place_of b + 64) (omega arith))
    (subst (At f (place_of b)) (append_assoc (radial_bytes h) (run bytes_of_moment r.moments) g) i)
    (λ i. moments-begun f E b.task b.cut (number_of b) h (radials_in b.closed + length b.now) (place_of b) r.moments [] (place_of b + 64) 0 _ g [] begun.moments (omega arith) i refl
    (λ len i. next place _ len i))))

module _ (rest x : List ℕ) where
  finishes : (a : Accepted) → AcceptedOk a → Says a rest x → Halts rest x a at_start (accepted_stretches a)
  unfolding is_end size_at run due_if
  finishes nothing ok says = stop-nothing rest x says
  finishes (generic g) ok says = from-generic _ _ g rest [] ok refl (stop-generic rest x g says)
  finishes (site g s) ok says = from-generic _ _ g _ [] ok.0 (append_assoc (generic_bytes g) (site_bytes s) rest) (λ i. from-site _ _ s rest [] ok.1 i (stop-site rest x g s says))
  finishes (task g s t []) ok says = from_heads _ _ g s t rest [] ok.0 ok.1 ok.2 (none (generic_bytes g) (site_bytes s) (task_bytes t)) (λ i. stop-task rest x g s t [] 0 416 t.cut_number (omega arith) says i)
    where
      none : (a b c : List ℕ) → ((((a ++ b) ++ c) ++ []) ++ []) ++ rest ≡ a ++ (b ++ (c ++ rest))
      none a b c = simp (append_assoc, append-nil)
  finishes (task g s t (c ∷ cs)) ok says =
      let few = ok.3 in
      let more = t.cut_number - length (c ∷ cs) in
      let z : length (c ∷ cs) + more ≡ t.cut_number = omega arith in
      let q : leb (suc more) 1 ≡ false = lt-leb (suc more) 1 (omega arith) in
      let f = file_of rest x (task g s t (c ∷ cs)) in
      let E = Stops (task g s t (c ∷ cs)) f x in
      from_heads f E g s t (run cut_bytes (c ∷ cs) ++ rest) [] ok.0 ok.1 ok.2 (some (generic_bytes g) (site_bytes s) (task_bytes t) (run cut_bytes (c ∷ cs)))
      (λ i. subst (λ (n : ℕ). Finishes f E (cut_walk t 0 416 n) []) z (cuts-on f E t cs c more 0 416 _ rest [] ok.4 i refl
      (λ i. rw q (stop-task rest x g s t (c ∷ cs) 1 (416 + 256 * length (c ∷ cs)) (suc more - 1) (omega arith) says i))))
    where
      some : (a b c d : List ℕ) → ((((a ++ b) ++ c) ++ d) ++ []) ++ rest ≡ a ++ (b ++ (c ++ (d ++ rest)))
      some a b c d = simp (append_assoc, append-nil)
  finishes (radials b) ok says =
      subst (Halts rest x (radials b) at_start) (append-nil (volume_stretches (volume_of b))) (begun-on _ _ b rest [] ok refl (λ pr re known i. stop-radials rest x b (place_of b) pr re says i))
  finishes (radial b r) ok says =
      radial-on b r _ _ rest ok.0 ok.1 (append_assoc (bytes_of_volume (volume_of b)) (bytes_of_radial r) rest) (λ place at len i. stop-radial rest x b r (place_of b) at len place says i)
  finishes (moment b r m) ok says =
      let f = file_of rest x (moment b r m) in
      let E = Stops (moment b r m) f x in
      radial-on b r f E (moment_bytes m ++ rest) ok.0 ok.1 (regroup (bytes_of_volume (volume_of b)) (bytes_of_radial r) (moment_bytes m))
      (λ place at len i. header-on f E b.task b.cut (number_of b) r.header (radials_in b.closed + length b.now) (place_of b) (reverse r.moments) (record { header = m; bytes = [] }) at len rest [] ok.2 ok.3 i
      (λ i. stop-moment rest x b r m _ refl refl says i))
    where
      regroup : (a b c : List ℕ) → ((a ++ b) ++ c) ++ rest ≡ a ++ (b ++ (c ++ rest))
      regroup a b c = simp append_assoc
  finishes (volume v) ok says = layered v.cuts v.layers ok.headed.number ok.headed.cuts ok.layers refl
    where
      f : List ℕ
      f = bytes_of_volume v ++ rest

      E : Walk → Type 0
      E = Stops (volume v) f x

      regroup : (a b c d e : List ℕ) → ((((a ++ b) ++ c) ++ d) ++ e) ++ rest ≡ a ++ (b ++ (c ++ (d ++ (e ++ rest))))
      regroup a b c d e = simp append_assoc

      layered : (cs : List Cut) (ls : List (List VolumeRadial)) → length cs ≡ v.task.cut_number → CutsOk cs → LayersOk v.task 1 0 cs ls
          → f ≡ ((((generic_bytes v.generic ++ site_bytes v.site) ++ task_bytes v.task) ++ run cut_bytes cs) ++ run (run bytes_of_radial) ls) ++ rest
          → Finishes f E at_start (layers_stretches 1 (416 + 256 * length cs) ls)
      layered [] ls n co lo e = let o = some-cut _ _ ok.headed.task.1.1.1.1.0 in absurd (omega arith)
      layered (c ∷ cs) [] n co lo e = absurd lo
      layered (c ∷ cs) (l ∷ ls) n co lo e =
          let t = v.task in
          let base = 416 + 256 * length (c ∷ cs) in
          subst (Finishes f E at_start) (append-nil (layers_stretches 1 base (l ∷ ls)))
          (from_heads f E v.generic v.site t _ _ ok.headed.generic ok.headed.site ok.headed.task
          (e ∙ regroup (generic_bytes v.generic) (site_bytes v.site) (task_bytes t) (run cut_bytes (c ∷ cs)) (run (run bytes_of_radial) (l ∷ ls)))
          (λ i. from-cuts f E t (c ∷ cs) _ _ ok.headed.task n co i
          (λ ca re i. layers-whole f E t cs c ls l 1 0 base base rest nowhere re [] ca (omega arith) (omega arith) lo i
          (λ co pr re i. stop-behind v f rest x _ refl i (ends-at (bytes_of_volume v) rest _ i) says))))

pub tells : (a : Accepted) (rest x : List ℕ) → AcceptedOk a → Says a rest x → Told (bytes_of_accepted a ++ rest) a x
tells a rest x ok says = let r = finishes rest x a ok says in record { verdict = r.ends.0.0; read = r.ends.0.1; radials = r.stretches }

-- and reading stops at the walk that stands behind them
pub stands-behind : (a : Accepted) (rest x : List ℕ) → AcceptedOk a → Says a rest x → Behind a (plain_stop (bytes_of_accepted a ++ rest))
stands-behind a rest x ok says = (finishes rest x a ok says).ends.1

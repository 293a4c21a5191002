-- The radials of a volume's beginning, read: each block is taken, and radials become whole one after the other. Each law goes
-- back over a part: where reading finishes from the walk behind the part, it finishes from the walk before it. Assumes nothing.
use Prim.Native.Nat.{ℕ, suc, ◌+◌, ◌-◌, ◌<◌, ◌≤◌}
use native.Mathlib.Omega.{arith}
use mathlib.Core.Path.{◌≡◌, refl, subst, subst⁻¹, ◌∙◌}
use mathlib.Core.Bool.{Bool, true, false}
use mathlib.Core.List.{List, [], ◌∷◌, ◌++◌, append_assoc, append-nil, reverse_aux}
use lib.Dec.{ltb}
use lib.ListN.{length, take, length-append}
use borrow.Author.Tests.{eq-eqb, ne_eqb, lt-ltb, le-ltb}
use Rattle.le.specs.Le.{run}
use Rattle.rules.specs.Check.{Hold}
use Rattle.rules.specs.States.{closing}
use Rattle.cut.specs.declared.Cut.{Cut}
use Rattle.radial.specs.declared.Radial.{Radial}
use Rattle.task.specs.declared.Task.{Task}
use Rattle.moment.specs.Moment.{moment_bytes, moment_rules, MomentFits}
use Rattle.moment.proofs.Trips as moment-trip
use Rattle.radial.proofs.Trips as radial-trip
use Rattle.radial.specs.Radial.{radial_bytes, radial_rules, RadialFits}
use Rattle.cut.specs.Cut.{cut_at}
use Rattle.walk.specs.declared.due.Due.TheVariants as due
use Rattle.walk.specs.declared.due.Present.{Present}
use Rattle.walk.specs.declared.due.Rest.{Rest}
use Rattle.walk.specs.declared.due.Walk.{Walk}
use Rattle.walk.specs.Due.{cut_place, is_end, ends_radial, size_at, due_if}
use Rattle.walk.specs.After.{after_data, after_data_if, closes_cut}
use Rattle.reading.specs.declared.Stretch.{Stretch}
use Rattle.reading.specs.Step.{block_at, take_data}
use Rattle.reading.specs.Reading.{stretch_if}
use Rattle.volume.specs.Volume.{VolumeMoment, VolumeRadial, bytes_of_moment, bytes_of_radial, tiled, judged, judged_radial, MomentsOk, RadialOk, Closes, LayerOk}
use Rattle.volume.specs.Accepted.{UnclosedOk}
use Rattle.volume.specs.Meaning.{layer_stretches, end_of}
use Rattle.le.proofs.Here.{At, here}
use Rattle.le.proofs.Coded.{stands}
use Rattle.radial.proofs.Header.{header}
use Rattle.volume.proofs.Runs.{Finishes, before-block}
use Rattle.reading.proofs.Exactly.{holding, settles-moment, settles-radial}
use Rattle.volume.proofs.Takes.{radial_walk, closed_walk, present_of, moment_walk, data_walk, rest_of, whole_walk}

module _ (f : List ℕ) (E : Walk → Type 0) (t : Task) (c : Cut) (k : ℕ) where
  -- ---- a radial's moments

  module _ (r : Radial) (whole start : ℕ) where
    abbrev at_moment : List VolumeMoment → ℕ → ℕ → Walk
    at_moment before at len = moment_walk t c k r whole start at (rest_of r before len)

    abbrev at_data : List VolumeMoment → VolumeMoment → ℕ → Walk
    at_data before p at = data_walk t c k r whole start at (rest_of r (p ∷ before) p.header.length)

    -- a moment's header
    pub header-on : (before : List VolumeMoment) (p : VolumeMoment) (at len : ℕ) (g : List ℕ) (ss : List Stretch) → MomentFits p.header
        → Hold (moment_rules p.header (judged c r before)) → At f at (moment_bytes p.header ++ g)
        → (At f (at + 32) g → Finishes f E (at_data before p (at + 32)) ss) → Finishes f E (at_moment before at len) ss
    unfolding is_end size_at ends_radial stretch_if
    header-on before p at len g ss fits rules a next =
        let h = p.header in
        let w = at_moment before at len in
        let x = stands moment-trip.coded f at h g fits a in
        let one : (r.moment_number - length before) - 1 ≡ r.moment_number - suc (length before) = omega arith in
        let two : (r.length_of_data - tiled before) - (32 + h.length) ≡ r.length_of_data - (32 + h.length + tiled before) = omega arith in
        before-block f E w _ false _ refl x.room (settles-moment (take (at + 32) f) w h x.is ∙ holding (moment_rules h (judged c r before)) _ _ rules) refl (rw (one, two) (next x.next))

    -- one moment and its data
    moment-on : (before : List VolumeMoment) (p : VolumeMoment) (at len : ℕ) (g : List ℕ) (b : Bool) (ss : List Stretch) → MomentFits p.header
        → Hold (moment_rules p.header (judged c r before)) → length p.bytes ≡ p.header.length → At f at (bytes_of_moment p ++ g) → ends_radial due.Data (r.moment_number - suc (length before)) ≡ b
        → (At f (at + 32 + p.header.length) g → Finishes f E (after_data (at_data before p (at + 32)) (at + 32 + p.header.length)) ss)
        → Finishes f E (at_moment before at len) (stretch_if b (at_data before p (at + 32)) (after_data (at_data before p (at + 32)) (at + 32 + p.header.length)) ss)
    unfolding is_end size_at block_at take_data
    moment-on before p at len g b ss fits rules long a ends next =
        let d = at_data before p (at + 32) in
        header-on before p at len (p.bytes ++ g) _ fits rules (subst (At f at) (append_assoc (moment_bytes p.header) p.bytes g) a)
        (λ i. let y = here f (at + 32) p.header.length p.bytes g long i in
        before-block f E d (after_data d (at + 32 + p.header.length)) b ss refl y.room refl ends (next y.next))

    -- some of its moments
    pub moments-begun : (ps before : List VolumeMoment) (at len end : ℕ) (g : List ℕ) (ss : List Stretch) → MomentsOk c r before ps → length ps + length before < r.moment_number
        → At f at (run bytes_of_moment ps ++ g) → end ≡ at + length (run bytes_of_moment ps) → ((len : ℕ) → At f end g → Finishes f E (at_moment (reverse_aux ps before) end len) ss)
        → Finishes f E (at_moment before at len) ss
    unfolding run ends_radial stretch_if after_data due_if
    moments-begun [] before at len end g ss ok few a e next =
        let z : at ≡ end = omega arith in
        subst⁻¹ (λ (n : ℕ). Finishes f E (at_moment before n len) ss) z (next len (subst (λ (n : ℕ). At f n g) z a))
    moments-begun (p ∷ ps) before at len end g ss ok few a e next =
        let h = p.header in
        let lm = moment-trip.length-is h ok.0 in
        let lp = ok.2 in
        let l : length ((moment_bytes h ++ p.bytes) ++ run bytes_of_moment ps) ≡ 32 + h.length + length (run bytes_of_moment ps) = simp length-append (omega arith) in
        let n = r.moment_number - suc (length before) in
        let more : ltb 0 n ≡ true = lt-ltb 0 n (omega arith) in
        moment-on before p at len (run bytes_of_moment ps ++ g) false ss ok.0 ok.1 ok.2
        (subst (At f at) (append_assoc (bytes_of_moment p) (run bytes_of_moment ps) g) a)
        (ne_eqb n 0 (λ z. omega arith))
        (λ q. rw more (moments-begun ps (p ∷ before) (at + 32 + h.length) h.length end g ss ok.3 (omega arith) q (omega arith) next))

    -- all of its moments, from one of them on
    moments : (ps before : List VolumeMoment) (p : VolumeMoment) (at len end : ℕ) (g : List ℕ) (ss : List Stretch) → MomentsOk c r before (p ∷ ps) → length (p ∷ ps) + length before ≡ r.moment_number
        → At f at (run bytes_of_moment (p ∷ ps) ++ g) → end ≡ at + length (run bytes_of_moment (p ∷ ps)) → ((re : Rest) → At f end g → Finishes f E (whole_walk t c k r whole start end re) ss)
        → Finishes f E (at_moment before at len) (record { start = start; end = end; cut = k } ∷ ss)
    unfolding run after_data closes_cut stretch_if ends_radial due_if
    moments [] before p at len end g ss ok all a e next =
        let h = p.header in
        let lm = moment-trip.length-is h ok.0 in
        let lp = ok.2 in
        let l : length ((moment_bytes h ++ p.bytes) ++ []) ≡ 32 + h.length = simp length-append (omega arith) in
        let ee : at + 32 + h.length ≡ end = omega arith in
        let n = r.moment_number - suc (length before) in
        let last : ltb 0 n ≡ false = le-ltb 0 n (omega arith) in
        subst (λ (x : ℕ). ((re : Rest) → At f x g → Finishes f E (whole_walk t c k r whole start x re) ss) → Finishes f E (at_moment before at len) (record { start = start; end = x; cut = k } ∷ ss)) ee
        (λ next. moment-on before p at len g true ss ok.0 ok.1 ok.2 (subst (At f at) (append_assoc (bytes_of_moment p) [] g) a) (eq-eqb n 0 (omega arith)) (λ q. rw last (next _ q))) next
    moments (n ∷ ns) before p at len end g ss ok all a e next =
        moments-begun (p ∷ []) before at len _ (run bytes_of_moment (n ∷ ns) ++ g) _ (ok.0, ok.1, ok.2, tt) (omega arith)
        (subst (At f at) (one-first (bytes_of_moment p) (run bytes_of_moment (n ∷ ns)) g) a) refl
        (λ len q. moments ns (p ∷ before) n _ len end g ss ok.3 (omega arith) q (e ∙ first-length at (bytes_of_moment p) (run bytes_of_moment (n ∷ ns))) next)
      where
        one-first : (a b c : List ℕ) → (a ++ b) ++ c ≡ (a ++ []) ++ (b ++ c)
        one-first a b c = simp (append_assoc, append-nil)

        first-length : (at : ℕ) (a b : List ℕ) → at + length (a ++ b) ≡ at + length (a ++ []) + length b
        first-length at a b = simp (length-append, append-nil) (omega arith)

  -- ---- a radial

  -- its header
  pub radial-header : (r : Radial) (before in_cut at : ℕ) (g : List ℕ) (pr : Present) (re : Rest) (ss : List Stretch) → RadialFits r → Hold (radial_rules r (judged_radial t k before in_cut))
      → cut_at (take (at + 64) f) (cut_place k) ≡ c → At f at (radial_bytes r ++ g) → (At f (at + 64) g → Finishes f E (at_moment r before at [] (at + 64) 0) ss)
      → Finishes f E (radial_walk t k before in_cut at pr re) ss
  unfolding is_end size_at ends_radial stretch_if
  radial-header r before in_cut at g pr re ss fits rules ce a next =
      let w = radial_walk t k before in_cut at pr re in
      let x = stands radial-trip.coded f at r g fits a in
      let one : r.length_of_data - 0 ≡ r.length_of_data = omega arith in
      let two : r.moment_number - 0 ≡ r.moment_number = omega arith in
      before-block f E w _ false _ refl x.room (settles-radial (take (at + 64) f) w r c x.is ce ∙ holding (radial_rules r (judged_radial t k before in_cut)) _ _ rules) refl (rw (one, two) at (next x.next))

  radial-on : (b : VolumeRadial) (before in_cut at : ℕ) (g : List ℕ) (pr : Present) (re : Rest) (ss : List Stretch) → RadialOk t c k before in_cut b → cut_at (take (at + 64) f) (cut_place k) ≡ c
      → At f at (bytes_of_radial b ++ g) → ((re : Rest) → At f (at + length (bytes_of_radial b)) g → Finishes f E (whole_walk t c k b.header before at (at + length (bytes_of_radial b)) re) ss)
      → Finishes f E (radial_walk t k before in_cut at pr re) (record { start = at; end = at + length (bytes_of_radial b); cut = k } ∷ ss)
  radial-on b before in_cut at g pr re ss ok ce a next = go b.moments ok.count ok.moments a next
    where
      r : Radial
      r = b.header

      go : (ms : List VolumeMoment) → length ms ≡ r.moment_number → MomentsOk c r [] ms → At f at ((radial_bytes r ++ run bytes_of_moment ms) ++ g)
          → ((re : Rest) → At f (at + length (radial_bytes r ++ run bytes_of_moment ms)) g → Finishes f E (whole_walk t c k r before at (at + length (radial_bytes r ++ run bytes_of_moment ms)) re) ss)
          → Finishes f E (radial_walk t k before in_cut at pr re) (record { start = at; end = at + length (radial_bytes r ++ run bytes_of_moment ms); cut = k } ∷ ss)
      go [] n o a next = let h = (header r _ ok.rules).some in absurd (omega arith)
      go (p ∷ ps) n o a next =
          let lr = radial-trip.length-is r ok.fits in
          let la = length-append (radial_bytes r) (run bytes_of_moment (p ∷ ps)) in
          radial-header r before in_cut at (run bytes_of_moment (p ∷ ps) ++ g) pr re _ ok.fits ok.rules ce (subst (At f at) (append_assoc (radial_bytes r) (run bytes_of_moment (p ∷ ps)) g) a)
          (λ i. moments r before at ps [] p (at + 64) 0 _ g ss o (omega arith) i (omega arith) next)

  -- one that does not close its cut
  open-radial : (b : VolumeRadial) (before in_cut at : ℕ) (g : List ℕ) (pr : Present) (re : Rest) (ss : List Stretch) → RadialOk t c k before in_cut b → (Closes t k b → ⊥)
      → cut_at (take (at + 64) f) (cut_place k) ≡ c → At f at (bytes_of_radial b ++ g)
      → ((pr : Present) (re : Rest) → At f (at + length (bytes_of_radial b)) g → Finishes f E (radial_walk t k (suc before) (suc in_cut) (at + length (bytes_of_radial b)) pr re) ss)
      → Finishes f E (radial_walk t k before in_cut at pr re) (record { start = at; end = at + length (bytes_of_radial b); cut = k } ∷ ss)
  unfolding due_if
  open-radial b before in_cut at g pr re ss ok keeps ce a next =
      let r = b.header in
      let end = at + length (bytes_of_radial b) in
      let h = header r _ ok.rules in
      let s = h.sequence in
      let j = h.number in
      let q : suc before ≡ r.sequence = omega arith in
      let v : suc in_cut ≡ r.radial_number = omega arith in
      let u = ne_eqb r.state (closing t.scan_type t.cut_number k) keeps in
      radial-on b before in_cut at g pr re ss ok ce a
      (λ re i. subst⁻¹ (λ (x : Bool). Finishes f E (after_data_if false x (ltb k t.cut_number) (data_walk t c k r before at end re) end) ss) u
      (subst (λ (x : ℕ). Finishes f E (radial_walk t k x r.radial_number end (present_of c r at) re) ss) q
      (subst (λ (x : ℕ). Finishes f E (radial_walk t k (suc before) x end (present_of c r at) re) ss) v (next (present_of c r at) re i))))

  -- ---- a layer

  abbrev pub Known : ℕ → Type 0
  Known at = (n : ℕ) → at ≤ n → cut_at (take n f) (cut_place k) ≡ c

  -- some radials of it that do not close it
  pub unclosed : (l : List VolumeRadial) (before in_cut at : ℕ) (g : List ℕ) (pr : Present) (re : Rest) (ss : List Stretch) → Known at → UnclosedOk t c k before in_cut l → At f at (run bytes_of_radial l ++ g)
      → ((pr : Present) (re : Rest) → At f (end_of at l) g → Finishes f E (radial_walk t k (before + length l) (in_cut + length l) (end_of at l) pr re) ss)
      → Finishes f E (radial_walk t k before in_cut at pr re) (layer_stretches k at l ++ ss)
  unfolding run
  unclosed [] before in_cut at g pr re ss ce ok a next =
      let y : before + 0 ≡ before = omega arith in
      let z : in_cut + 0 ≡ in_cut = omega arith in
      subst (λ (x : ℕ). Finishes f E (radial_walk t k x in_cut at pr re) ss) y (subst (λ (x : ℕ). Finishes f E (radial_walk t k (before + 0) x at pr re) ss) z (next pr re a))
  unclosed (b ∷ bs) before in_cut at g pr re ss ce ok a next =
      let end = at + length (bytes_of_radial b) in
      let y : before + suc (length bs) ≡ suc before + length bs = omega arith in
      let z : in_cut + suc (length bs) ≡ suc in_cut + length bs = omega arith in
      open-radial b before in_cut at (run bytes_of_radial bs ++ g) pr re _ ok.0 ok.1 (ce (at + 64) (omega arith)) (subst (At f at) (append_assoc (bytes_of_radial b) (run bytes_of_radial bs) g) a)
      (λ pr re i. unclosed bs (suc before) (suc in_cut) end g pr re ss (λ m y. ce m (omega arith)) ok.2 i
      (λ pr re i. subst (λ (x : ℕ). Finishes f E (radial_walk t k x (suc in_cut + length bs) (end_of end bs) pr re) ss) y
      (subst (λ (x : ℕ). Finishes f E (radial_walk t k (before + suc (length bs)) x (end_of end bs) pr re) ss) z (next pr re i))))

  -- the rest of it, and a later cut follows or none
  pub layer : (l : List VolumeRadial) (before in_cut at : ℕ) (g : List ℕ) (pr : Present) (re : Rest) (ss : List Stretch) → Known at → LayerOk t c k before in_cut l → At f at (run bytes_of_radial l ++ g)
      → ((pr : Present) (re : Rest) → At f (end_of at l) g → Finishes f E (closed_walk (ltb k t.cut_number) t k (before + length l) (end_of at l) pr re) ss)
      → Finishes f E (radial_walk t k before in_cut at pr re) (layer_stretches k at l ++ ss)
  unfolding run due_if
  layer [] before in_cut at g pr re ss ce ok a next = absurd ok
  layer (b ∷ []) before in_cut at g pr re ss ce ok a next =
      let o = ok.0 in
      let r = b.header in
      let end = at + length (bytes_of_radial b) in
      let q = (header r _ o.rules).sequence in
      let u = eq-eqb r.state (closing t.scan_type t.cut_number k) ok.1 in
      radial-on b before in_cut at g pr re ss o (ce (at + 64) (omega arith)) (subst (At f at) (append_assoc (bytes_of_radial b) [] g) a)
      (λ re i. subst⁻¹ (λ (x : Bool). Finishes f E (after_data_if false x (ltb k t.cut_number) (data_walk t c k r before at end re) end) ss) u
      (subst⁻¹ (λ (n : ℕ). Finishes f E (closed_walk (ltb k t.cut_number) t k n end (present_of c r at) re) ss) q (next (present_of c r at) re i)))
  layer (b ∷ (n ∷ ns)) before in_cut at g pr re ss ce ok a next =
      let end = at + length (bytes_of_radial b) in
      let z : suc before + length (n ∷ ns) ≡ before + length (b ∷ (n ∷ ns)) = omega arith in
      open-radial b before in_cut at (run bytes_of_radial (n ∷ ns) ++ g) pr re _ ok.0 ok.1 (ce (at + 64) (omega arith)) (subst (At f at) (append_assoc (bytes_of_radial b) (run bytes_of_radial (n ∷ ns)) g) a)
      (λ pr re i. layer (n ∷ ns) (suc before) (suc in_cut) end g pr re ss (λ m y. ce m (omega arith)) ok.2 i
      (λ pr re i. subst⁻¹ (λ (x : ℕ). Finishes f E (closed_walk (ltb k t.cut_number) t k x (end_of end (n ∷ ns)) pr re) ss) z (next pr re i)))

  -- a layer, and a later cut's first radial is due
  pub layer-then : (l : List VolumeRadial) (before at : ℕ) (g : List ℕ) (pr : Present) (re : Rest) (ss : List Stretch) → k < t.cut_number → Known at → LayerOk t c k before 0 l → At f at (run bytes_of_radial l ++ g)
      → ((pr : Present) (re : Rest) → At f (end_of at l) g → Finishes f E (radial_walk t (suc k) (before + length l) 0 (end_of at l) pr re) ss)
      → Finishes f E (radial_walk t k before 0 at pr re) (layer_stretches k at l ++ ss)
  unfolding due_if
  layer-then l before at g pr re ss h ce ok a next =
      let z : suc k ≡ k + 1 = omega arith in
      layer l before 0 at g pr re ss ce ok a
      (λ pr re i. subst⁻¹ (λ (x : Bool). Finishes f E (closed_walk x t k (before + length l) (end_of at l) pr re) ss) (lt-ltb k t.cut_number h)
      (subst (λ (x : ℕ). Finishes f E (radial_walk t x (before + length l) 0 (end_of at l) pr re) ss) z (next pr re i)))

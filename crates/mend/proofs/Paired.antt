-- The kept radials and the mended volume's are answered alike, two by two: only places and the last one's state differ. Assumes nothing.
use Prim.Native.Nat.{ℕ, suc, ◌+◌, ◌-◌, ◌*◌, ◌≤◌}
use native.Mathlib.Decide.{dec_le}
use native.Mathlib.Omega.{arith}
use mathlib.Core.Bool.{Bool, cond}
use mathlib.Core.List.{List, [], ◌∷◌, ◌++◌, append_assoc, append-nil}
use mathlib.Core.Logic.{dite}
use mathlib.Core.Path.{◌≡◌, refl, sym, ap, ap₂, subst, transport, ◌∙◌}
use borrow.Author.Tests.{eq-eqb, ne_eqb}
use lib.Dec.{eqb}
use lib.ListN.{length, take, drop, length-append}
use lib.Seq.{take_at, drop_at}
use Rattle.std.specs.Prelude.{Option, Some}
use Rattle.le.specs.Le.{le, bytes, run}
use Rattle.le.proofs.Here.{At, here}
use Rattle.le.proofs.Laws.{length-bytes, le_bytes}
use Rattle.rules.specs.States.{closing}
use Rattle.rules.proofs.Numbers.{closing-small}
use Rattle.radial.specs.declared.Radial.{Radial}
use Rattle.radial.specs.Radial.{radial_at}
use Rattle.reading.specs.declared.Stretch.{Stretch}
use Rattle.reading.specs.Reading.{stretches, nth, bytes_of}
use Rattle.volume.specs.Volume.{VolumeRadial, Headed, IsVolume, bytes_of_radial, bytes_of_volume}
use Rattle.volume.specs.Accepted.{Begun, volume_of}
use Rattle.volume.specs.Meaning.{layer_stretches, end_of, layers_stretches, first_place, volume_stretches}
use Rattle.volume.proofs.Grow.{headed-as}
use Rattle.volume.proofs.Layers.{ends_at}
use Rattle.volume.proofs.Placed.{front}
use Rattle.ask.specs.Answers.{radial_told, radial_of_file}
use Rattle.ask.proofs.Growing.{nth-kept, nth-placed}
use Rattle.ask.proofs.Sounding.{own-radial}
use Rattle.mend.specs.Answers.{Alike}
use Rattle.mend.specs.Kept.{kept}
use Rattle.mend.proofs.Behind.{volume-long, whole-stretches, whole-bytes, behind-bytes}
use Rattle.mend.proofs.Fields.{radial_back, radial-parts, state-in}
use Rattle.mend.proofs.Nth.{nth_end, Pairs, none, more, pairs-long, pairs-join, pairs-as, pairs-nth}
use Rattle.mend.proofs.Own.{alike}
use Rattle.mend.proofs.View.{View, stretch_at, stretch_behind, cuts_of, closed_begun, closed_radial, closed_volume}

-- ---- two files side by side

-- a radial's own bytes, where it stands
own-bytes : (f : List ℕ) (k at : ℕ) (r : VolumeRadial) (x : List ℕ) → At f at (bytes_of_radial r ++ x)
    → (bytes_of f (stretch_at k at r) ≡ bytes_of_radial r) × At f (at + length (bytes_of_radial r)) x
own-bytes f k at r x a =
    let n = at + length (bytes_of_radial r) - at in
    (ap (take n) a.rest ∙ take_at (bytes_of_radial r) x n (omega arith), (here f at (length (bytes_of_radial r)) (bytes_of_radial r) x refl a).next)

module _ (f g : List ℕ) (gap : ℕ) where
  -- radial s of f and radial u of g: as many bytes, and the same behind the state
  pub record Moved (s u : Stretch) : Type 0 where
    pub start : s.start ≡ u.start + gap
    pub cut : u.cut ≡ s.cut
    pub long : length (bytes_of g u) ≡ length (bytes_of f s)
    pub behind : drop 4 (bytes_of g u) ≡ drop 4 (bytes_of f s)

  -- and all the same
  record Same (s u : Stretch) : Type 0 where
    start : s.start ≡ u.start + gap
    cut : u.cut ≡ s.cut
    bytes : bytes_of g u ≡ bytes_of f s

  same-moved : (s u : Stretch) → Same s u → Moved s u
  same-moved s u h = record { start = h.start; cut = h.cut; long = ap length h.bytes; behind = ap (drop 4) h.bytes }

  -- so they are answered alike, by their number
  moved-alike : (n x : ℕ) (s u : Stretch) → nth (stretches f) n ≡ Some s → nth (stretches g) n ≡ Some u → Moved s u → (radial_at (bytes_of g u) 0).state ≡ x
      → Alike f g n gap x
  moved-alike n x s u here there m e =
      subst (Alike f g n gap) (ap (λ (r : Radial). r.state) (sym (own-radial g u (nth-placed g n u there))) ∙ e)
      (alike f g n gap s u here there m.start m.long m.behind)

  -- from place `at` on f is x, and from place `to` on g is y
  record Beside (at to : ℕ) (x y : List ℕ) : Type 0 where
    apart : at ≡ to + gap
    here : At f at x
    there : At g to y

  layer : (l : List VolumeRadial) (k at to : ℕ) (x y : List ℕ) → Beside at to (run bytes_of_radial l ++ x) (run bytes_of_radial l ++ y)
      → Pairs Same (layer_stretches k at l) (layer_stretches k to l) × Beside (end_of at l) (end_of to l) x y
  unfolding run
  layer [] k at to x y a = (none, a)
  layer (b ∷ bs) k at to x y a =
      let e = a.apart in
      let n = length (bytes_of_radial b) in
      let v = own-bytes f k at b (run bytes_of_radial bs ++ x) (subst (At f at) (append_assoc (bytes_of_radial b) (run bytes_of_radial bs) x) a.here) in
      let w = own-bytes g k to b (run bytes_of_radial bs ++ y) (subst (At g to) (append_assoc (bytes_of_radial b) (run bytes_of_radial bs) y) a.there) in
      let r = layer bs k (at + n) (to + n) x y (record { apart = omega arith; here = v.1; there = w.1 }) in
      (more (record { start = e; cut = refl; bytes = w.0 ∙ sym v.0 }) r.0, r.1)

  layers : (ls : List (List VolumeRadial)) (k at to : ℕ) (x y : List ℕ) → Beside at to (run (run bytes_of_radial) ls ++ x) (run (run bytes_of_radial) ls ++ y)
      → Pairs Same (layers_stretches k at ls) (layers_stretches k to ls) × Beside (ends_at at ls) (ends_at to ls) x y
  unfolding run
  layers [] k at to x y a = (none, a)
  layers (l ∷ ls) k at to x y a =
      let m = run (run bytes_of_radial) ls in
      let v = subst (At f at) (append_assoc (run bytes_of_radial l) m x) a.here in
      let w = subst (At g to) (append_assoc (run bytes_of_radial l) m y) a.there in
      let p = layer l k at to (m ++ x) (m ++ y) (record { apart = a.apart; here = v; there = w }) in
      let q = layers ls (suc k) (end_of at l) (end_of to l) x y p.1 in
      (pairs-join p.0 q.0, q.1)

-- ---- the kept radials and the mended volume's

module _ (f : List ℕ) (v : View f) (is : IsVolume (closed_volume v.begun v.final)) where
  abbrev b : Begun
  b = v.begun

  abbrev r : VolumeRadial
  r = v.final

  -- what they become, and the bytes of that
  abbrev c : Begun
  c = closed_begun v.begun

  abbrev q : VolumeRadial
  q = closed_radial v.begun v.final

  abbrev g : List ℕ
  g = bytes_of_volume (closed_volume v.begun v.final)

  abbrev gap : ℕ
  gap = 256 * length v.begun.later

  -- the state of the last radial
  abbrev closed : ℕ
  closed = closing v.begun.task.scan_type (cuts_of v.begun) (cuts_of v.begun)

  -- the radials but the last, where they lie in f, and in g
  abbrev before : List Stretch
  before = volume_stretches (volume_of v.begun)

  abbrev after : List Stretch
  after = volume_stretches (volume_of (closed_begun v.begun))

  headed : Headed (volume_of c)
  headed = headed-as (closed_volume b r) _ _ refl is.headed

  radials : volume_stretches (closed_volume b r) ≡ after ++ (stretch_behind c q ∷ [])
  radials = whole-stretches c q headed

  own : bytes_of_volume (volume_of c) ++ (bytes_of_radial q ++ []) ≡ g
  own = sym (whole-bytes c q []) ∙ append-nil g

  apart : first_place (volume_of b) ≡ first_place (volume_of c) + gap
  apart = let n = length-append b.early (b.cut ∷ b.later) in let m = length-append b.early (b.cut ∷ []) in omega arith

  walked : Pairs (Same f g gap) before after
  walked =
      let x = front f (volume_of b) (bytes_of_radial r ++ v.rest) v.last.begun.headed v.bytes in
      let y = front g (volume_of c) (bytes_of_radial q ++ []) headed own in
      (layers f g gap (b.closed ++ (b.now ∷ [])) 1 (first_place (volume_of b)) (first_place (volume_of c)) (bytes_of_radial r ++ v.rest) (bytes_of_radial q ++ [])
      (record { apart = apart; here = x.radials; there = y.radials })).0

  -- the last radial's own bytes in both: a state, and the same behind it
  old-bytes : bytes_of f (stretch_behind b r) ≡ bytes 4 r.header.state ++ radial_back r
  old-bytes = behind-bytes b r f v.rest v.bytes ∙ radial-parts r

  new-bytes : bytes_of g (stretch_behind c q) ≡ bytes 4 closed ++ radial_back r
  new-bytes = behind-bytes c q g [] own ∙ radial-parts q

  last-moved : Moved f g gap (stretch_behind b r) (stretch_behind c q)
  last-moved =
      let back = radial_back r in
      let here = volume-long (volume_of b) v.last.begun.headed in
      let there = volume-long (volume_of c) headed in
      let place = apart in
      let x = length-bytes 4 r.header.state in
      let y = length-bytes 4 closed in
      let long : length (bytes 4 closed ++ back) ≡ length (bytes 4 r.header.state ++ back) = simp length-append (omega arith) in
      record {
        start = omega arith;
        cut = refl;
        long = ap length new-bytes ∙ long ∙ sym (ap length old-bytes);
        behind = ap (drop 4) new-bytes ∙ drop_at (bytes 4 closed) back 4 y ∙ sym (ap (drop 4) old-bytes ∙ drop_at (bytes 4 r.header.state) back 4 x);
      }

  last-state : (radial_at (bytes_of g (stretch_behind c q)) 0).state ≡ closed
  last-state =
      let small = closing-small b.task.scan_type (cuts_of b) (cuts_of b) in
      sym (state-in (bytes_of g (stretch_behind c q)) 0) ∙ ap (λ (l : List ℕ). le 4 l 0) new-bytes ∙ le_bytes 4 closed (radial_back r) (omega arith)

  pub paired : Pairs (Moved f g gap) (kept f) (volume_stretches (closed_volume b r))
  paired =
      transport (sym (ap₂ (Pairs (Moved f g gap)) v.kept radials))
      (pairs-join (pairs-as (same-moved f g gap) walked) (more last-moved none))

  -- where the radials of both files are these
  module _ (read : stretches g ≡ volume_stretches (closed_volume b r)) (later : List Stretch) (first : stretches f ≡ kept f ++ later) where
    here_of : (n : ℕ) (s : Stretch) → nth (before ++ (stretch_behind b r ∷ [])) n ≡ Some s → nth (stretches f) n ≡ Some s
    here_of n s e = ap (λ (l : List Stretch). nth l n) first ∙ nth-kept (kept f) later n s (ap (λ (l : List Stretch). nth l n) v.kept ∙ e)

    there-of : (n : ℕ) (u : Stretch) → nth (after ++ (stretch_behind c q ∷ [])) n ≡ Some u → nth (stretches g) n ≡ Some u
    there-of n u e = ap (λ (l : List Stretch). nth l n) (read ∙ radials) ∙ e

    early-alike : (n : ℕ) → 1 ≤ n → n ≤ length before → Alike f g n gap (radial_of_file f n).header.state
    unfolding radial_told
    early-alike n low high =
        let p = pairs-nth walked n low high in
        let here = here_of n p.s (nth-kept before (stretch_behind b r ∷ []) n p.s p.here) in
        let there = there-of n p.u (nth-kept after (stretch_behind c q ∷ []) n p.u p.there) in
        let told : radial_at f p.s.start ≡ (radial_of_file f n).header = ap (λ (x : Option Stretch). (radial_told f x).header) (sym here) in
        let header = ap (λ (l : List ℕ). radial_at l 0) p.pair.bytes ∙ own-radial f p.s (nth-placed f n p.s here) ∙ told in
        moved-alike f g gap n (radial_of_file f n).header.state p.s p.u here there (same-moved f g gap p.s p.u p.pair) (ap (λ (h : Radial). h.state) header)

    last-alike : (n : ℕ) → suc (length before) ≡ n → Alike f g n gap closed
    last-alike n e =
        let e' : suc (length after) ≡ n = ap suc (pairs-long walked) ∙ e in
        let here = here_of n (stretch_behind b r) (ap (nth (before ++ (stretch_behind b r ∷ []))) (sym e) ∙ nth_end before (stretch_behind b r)) in
        let there = there-of n (stretch_behind c q) (ap (nth (after ++ (stretch_behind c q ∷ []))) (sym e') ∙ nth_end after (stretch_behind c q)) in
        moved-alike f g gap n closed (stretch_behind b r) (stretch_behind c q) here there last-moved last-state

    pub answers : (n : ℕ) → 1 ≤ n → n ≤ length (kept f) → Alike f g n gap (cond (eqb n (length (kept f))) closed (radial_of_file f n).header.state)
    answers n low high =
        let many = ap length v.kept ∙ length-append before (stretch_behind b r ∷ []) in
        let state : Bool → ℕ = λ x. cond x closed (radial_of_file f n).header.state in
        dite (dec_le n (length before))
        (λ h. subst (Alike f g n gap) (ap state (sym (ne_eqb n (length (kept f)) (λ e. omega arith)))) (early-alike n low h))
        (λ h. subst (Alike f g n gap) (ap state (sym (eq-eqb n (length (kept f)) (omega arith)))) (last-alike n (omega arith)))

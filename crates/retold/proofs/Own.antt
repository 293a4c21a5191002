-- A radial's own bytes, as its blocks give them: the moments found in them are those that were put, in their order, each with its
-- header and its data. Assumes nothing.
use Prim.Native.Nat.{ℕ, suc, ◌+◌}
use native.Mathlib.Nat.{add-zero}
use native.Mathlib.Omega.{arith}
use borrow.Author.Tests.{le-leb}
use mathlib.Core.Bool.{Bool, true, false, cond}
use mathlib.Core.List.{List, [], ◌∷◌, ◌++◌, append_assoc}
use mathlib.Core.Path.{◌≡◌, refl, sym, ap, ap₂, ◌∙◌}
use lib.Dec.{eqb, leb}
use lib.ListN.{length, take, drop, length-append}
use lib.Seq.{take_at, drop_at}
use Rattle.std.specs.Prelude.{Option, Some, None}
use Rattle.le.specs.Le.{part, run}
use Rattle.le.proofs.Laws.{part-past, part_in, part-all}
use Rattle.moment.specs.declared.Moment.{Moment}
use Rattle.moment.specs.Moment.{moment_of, moment_at, moment_bytes, MomentFits}
use Rattle.moment.proofs.Trips as moment-trip
use Rattle.radial.specs.declared.Radial.{Radial}
use Rattle.radial.specs.Radial.{radial_of, radial_at, radial_bytes, RadialFits}
use Rattle.radial.proofs.Trips as radial-trip
use Rattle.gates.specs.Telling.{refused, answered}
use Rattle.moments.specs.Moments.{after, moments_from, moments_of, find_in, data_at}
use Rattle.reading.specs.declared.Stretch.{Stretch}
use Rattle.ask.specs.Answers.{gate_in, gate_told, moment_told, told_moment}
use Rattle.ask.specs.Places.{moment_in, in_stretch}
use Rattle.writer.specs.Block.{bytes_of}
use Rattle.reading.specs.Reading as reading
use Rattle.retold.specs.Retold.{Pair, PairsFit, moment_blocks, radial_blocks, among, moment_among, gate_among}
use Rattle.retold.proofs.Whole.{PairsLong}

-- ---- a part that stands behind others

module _ (pre bs post : List ℕ) (n : ℕ) (long : length bs ≡ n) where
  -- where it begins,
  part-there : part n (pre ++ bs ++ post) (length pre) ≡ bs
  part-there =
      ap₂ (part n) (append_assoc pre bs post) (sym (add-zero (length pre)))
      ∙ part-past n pre (bs ++ post) 0
      ∙ part_in n bs post 0 (omega arith)
      ∙ part-all n bs long

  -- and as a front of what begins there
  pub front-there : take n (drop (length pre) (pre ++ bs ++ post)) ≡ bs
  front-there =
      ap (λ (l : List ℕ). take n (drop (length pre) l)) (append_assoc pre bs post)
      ∙ ap (take n) (drop_at pre (bs ++ post) (length pre) refl)
      ∙ take_at bs post n long

-- ---- a record that was put reads back as it was

pub header-there : (pre : List ℕ) (r : Radial) (post : List ℕ) → RadialFits r → radial_at (pre ++ radial_bytes r ++ post) (length pre) ≡ r
unfolding radial_at
header-there pre r post fits = ap radial_of (part-there pre (radial_bytes r) post 64 (radial-trip.length-is r fits)) ∙ radial-trip.there_and_back r fits

moment-there : (pre : List ℕ) (h : Moment) (post : List ℕ) → MomentFits h → moment_at (pre ++ moment_bytes h ++ post) (length pre) ≡ h
unfolding moment_at
moment-there pre h post fits = ap moment_of (part-there pre (moment_bytes h) post 32 (moment-trip.length-is h fits)) ∙ moment-trip.there_and_back h fits

-- ---- what is said of a moment that was found

unfoldable pub said : {X : Type 0} → (Moment → List ℕ → X) → X → List ℕ → Option ℕ → X
said say none b (Some p) = say (moment_at b p) (data_at b p)
said say none b None = none

-- one moment of those from a place on, with the others behind it
module _ (pre : List ℕ) (p : Pair) (post : List ℕ) (fits : MomentFits p.header) (long : length p.bytes ≡ p.header.length) where
  whole : List ℕ
  whole = pre ++ (moment_bytes p.header ++ (p.bytes ++ post))

  by-data : whole ≡ pre ++ moment_bytes p.header ++ p.bytes ++ post
  unfolding whole
  by-data =
      sym (append_assoc pre (moment_bytes p.header) (p.bytes ++ post)) ∙ sym (append_assoc (pre ++ moment_bytes p.header) p.bytes post)

  header_is : moment_at whole (length pre) ≡ p.header
  unfolding whole
  header_is = ap (λ (l : List ℕ). moment_at l (length pre)) (sym (append_assoc pre (moment_bytes p.header) (p.bytes ++ post))) ∙ moment-there pre p.header (p.bytes ++ post) fits

  begins : length (pre ++ moment_bytes p.header) ≡ length pre + 32
  begins = let l = moment-trip.length-is p.header fits in length-append pre (moment_bytes p.header) ∙ omega arith

  data_is : data_at whole (length pre) ≡ p.bytes
  unfolding data_at
  data_is =
      ap₂ (λ (n : ℕ) (l : List ℕ). take n (drop (length pre + 32) l)) (ap (λ (h : Moment). h.length) header_is) by-data
      ∙ ap (λ (n : ℕ). take p.header.length (drop n (pre ++ moment_bytes p.header ++ p.bytes ++ post))) (sym begins)
      ∙ front-there (pre ++ moment_bytes p.header) p.bytes post p.header.length long

  -- where the next begins
  next-is : after whole (length pre) ≡ length (pre ++ moment_bytes p.header ++ p.bytes)
  next-is =
      let b = begins in
      let n = ap (λ (h : Moment). h.length) header_is in
      let l = length-append (pre ++ moment_bytes p.header) p.bytes in
      omega arith

  within : leb (length pre + 32) (length whole) ≡ true
  within =
      let b = begins in
      let l = length-append (pre ++ moment_bytes p.header) p.bytes in
      let m = ap length by-data ∙ length-append (pre ++ moment_bytes p.header ++ p.bytes) post in
      le-leb (length pre + 32) (length whole) (omega arith)

  -- so it is the first of them,
  moments-more : (k : ℕ) → moments_from (suc k) whole (length pre) ≡ length pre ∷ moments_from k whole (length (pre ++ moment_bytes p.header ++ p.bytes))
  unfolding moments_from
  moments-more k =
      ap (λ (x : Bool). cond x (length pre ∷ moments_from k whole (after whole (length pre))) []) within
      ∙ ap (λ (n : ℕ). length pre ∷ moments_from k whole n) next-is

  said-if : {X : Type 0} (say : Moment → List ℕ → X) (none : X) (x : Bool) (y : Option ℕ)
      → said say none whole (cond x (Some (length pre)) y) ≡ cond x (say p.header p.bytes) (said say none whole y)
  unfolding said
  said-if say none true y = ap₂ say header_is data_is
  said-if say none false y = refl

  -- and it is what is said of, or one of the others
  said-first : {X : Type 0} (say : Moment → List ℕ → X) (none : X) (t : ℕ) (l : List ℕ)
      → said say none whole (find_in whole t (length pre ∷ l)) ≡ cond (eqb p.header.data_type t) (say p.header p.bytes) (said say none whole (find_in whole t l))
  unfolding find_in
  said-first say none t l =
      ap (λ (h : Moment). said say none whole (cond (eqb h.data_type t) (Some (length pre)) (find_in whole t l))) header_is
      ∙ said-if say none (eqb p.header.data_type t) (find_in whole t l)

-- ---- all of them

module _ {X : Type 0} (say : Moment → List ℕ → X) (none : X) where
  -- the moments behind some bytes
  said-from : (ps : List Pair) → PairsFit ps → PairsLong ps → (pre : List ℕ) (t : ℕ)
      → said say none (pre ++ run bytes_of (moment_blocks ps)) (find_in (pre ++ run bytes_of (moment_blocks ps)) t (moments_from (length ps) (pre ++ run bytes_of (moment_blocks ps)) (length pre)))
      ≡ among say none ps t
  unfolding moment_blocks run among said find_in moments_from whole
  said-from [] fits long pre t = refl
  said-from (p ∷ ps) fits long pre t =
      let post = run bytes_of (moment_blocks ps) in
      let b = whole pre p post fits.0 long.0 in
      let next = pre ++ moment_bytes p.header ++ p.bytes in
      let others = moments_from (length ps) b (length next) in
      let others-told : said say none b (find_in b t others) ≡ among say none ps t =
      ap (λ (l : List ℕ). said say none l (find_in l t (moments_from (length ps) l (length next)))) (by-data pre p post fits.0 long.0) ∙ said-from ps fits.1 long.1 next t in
      ap (λ (l : List ℕ). said say none b (find_in b t l)) (moments-more pre p post fits.0 long.0 (length ps))
      ∙ said-first pre p post fits.0 long.0 say none t others
      ∙ ap (cond (eqb p.header.data_type t) (say p.header p.bytes)) others-told

  -- those of a radial whose own bytes are those of its blocks
  pub said-own : (r : Radial) (ps : List Pair) → RadialFits r → PairsFit ps → PairsLong ps → r.moment_number ≡ length ps
      → (l : List ℕ) → l ≡ run bytes_of (radial_blocks r ps) → (t : ℕ) → said say none l (find_in l t (moments_of l)) ≡ among say none ps t
  unfolding run
  said-own r ps fits pairs long k l own t =
      let post = run bytes_of (moment_blocks ps) in
      let b = radial_bytes r ++ post in
      let number : (radial_at b 0).moment_number ≡ length ps = ap (λ (x : Radial). x.moment_number) (header-there [] r post fits) ∙ k in
      ap (λ (x : List ℕ). said say none x (find_in x t (moments_of x))) own
      ∙ ap₂ (λ (n at : ℕ). said say none b (find_in b t (moments_from n b at))) number (sym (radial-trip.length-is r fits))
      ∙ said-from ps pairs long (radial_bytes r) t

module _ (r : Radial) (ps : List Pair) (fits : RadialFits r) (pairs : PairsFit ps) (long : PairsLong ps) (k : r.moment_number ≡ length ps)
    (f : List ℕ) (s : Stretch) (own : reading.bytes_of f s ≡ run bytes_of (radial_blocks r ps)) where
  gate-found : (x : Option ℕ) (i : ℕ) → gate_told f (in_stretch s x) i ≡ said (λ h bytes. gate_in h bytes i) (refused 31 0) (reading.bytes_of f s) x
  unfolding said gate_told in_stretch
  gate-found (Some p) i = refl
  gate-found None i = refl

  pub gates-told : (t i : ℕ) → gate_told f (moment_in f t s) i ≡ gate_among ps t i
  gates-told t i =
      gate-found (find_in (reading.bytes_of f s) t (moments_of (reading.bytes_of f s))) i
      ∙ said-own (λ h bytes. gate_in h bytes i) (refused 31 0) r ps fits pairs long k (reading.bytes_of f s) own t

  moment-found : (x : Option ℕ) → told_moment (moment_told f (in_stretch s x)) ≡ said (λ h bytes. answered h) (refused 31 0) (reading.bytes_of f s) x
  unfolding said moment_told in_stretch
  moment-found (Some p) = refl
  moment-found None = refl

  pub moments-told : (t : ℕ) → told_moment (moment_told f (moment_in f t s)) ≡ moment_among ps t
  moments-told t =
      moment-found (find_in (reading.bytes_of f s) t (moments_of (reading.bytes_of f s)))
      ∙ said-own (λ h bytes. answered h) (refused 31 0) r ps fits pairs long k (reading.bytes_of f s) own t

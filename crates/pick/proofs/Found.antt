-- What is found in the own bytes of a radial with its rules kept: its header, and of a type the first of its moments that has it. A pick leaves
-- those of the wanted types, so what is found of such a type is the same, and of another nothing. Assumes nothing.
use Prim.Native.Nat.{ℕ}
use native.Mathlib.Omega.{arith}
use borrow.Author.Tests.{ne_eqb}
use mathlib.Core.Bool.{Bool, true, false, cond}
use mathlib.Core.List.{List, [], ◌∷◌, ◌++◌, append_assoc, map}
use mathlib.Core.Path.{◌≡◌, refl, sym, ap, ◌∙◌}
use lib.Dec.{eqb}
use lib.ListN.{length-map}
use Rattle.std.specs.Prelude.{Option, Some, None}
use Rattle.le.specs.Le.{run}
use Rattle.rules.specs.Masks.{bit}
use Rattle.cut.specs.declared.Cut.{Cut}
use Rattle.moment.specs.declared.Moment.{Moment}
use Rattle.moment.specs.Moment.{moment_at, moment_bytes}
use Rattle.radial.specs.declared.Radial.{Radial}
use Rattle.radial.specs.Radial.{radial_at, radial_bytes}
use Rattle.moments.specs.Moments.{moments_of, find_in, data_at}
use Rattle.volume.specs.Volume.{VolumeMoment, VolumeRadial, MomentsOk, bytes_of_moment, bytes_of_radial}
use Rattle.writer.specs.Block.{bytes_of}
use Rattle.retold.specs.Retold.{Pair, PairsFit, moment_blocks, among}
use Rattle.retold.proofs.Own.{said, said-own, header-there}
use Rattle.retold.proofs.Whole.{PairsLong}
use Rattle.pick.specs.Only.{only_moments, only_radial}
use Rattle.pick.proofs.Owned.{Ok}

-- ---- what a search finds, by header and data alone

-- none, or a moment by its header and its data
pub data Seen : Type 0 where
  nothing : Seen
  moment : Moment → List ℕ → Seen

-- of type t in the bytes b
abbrev pub seen : List ℕ → ℕ → Seen
seen b t = said moment nothing b (find_in b t (moments_of b))

-- what is told of two searches, each by the header and the data of the moment that it finds, is the same where these are
module _ {ℓ} {X : Type ℓ} (b c : List ℕ) (v w : Option ℕ → X) (none : v None ≡ w None) (one : (p q : ℕ) → moment_at c p ≡ moment_at b q → data_at c p ≡ data_at b q → v (Some p) ≡ w (Some q)) where
  pub told-alike : (x y : Option ℕ) → said moment nothing c x ≡ said moment nothing b y → v x ≡ w y
  unfolding said
  told-alike None None e = none
  told-alike None (Some q) e = absurd (let z : ◌≡◌ {A = ℕ} 0 1 = cc in omega arith)
  told-alike (Some p) None e = absurd (let z : ◌≡◌ {A = ℕ} 0 1 = cc in omega arith)
  told-alike (Some p) (Some q) e = one p q (cc) (cc)

-- a search in which nothing is seen finds none
pub found_nothing : (b : List ℕ) (x : Option ℕ) → said moment nothing b x ≡ nothing → x ≡ None
unfolding said
found_nothing b None e = refl
found_nothing b (Some p) e = absurd (let z : ◌≡◌ {A = ℕ} 0 1 = cc in omega arith)

-- ---- a radial's moments, as they are put

-- a volume's moment as one that is put
abbrev pair : VolumeMoment → Pair
pair p = record { header = p.header; bytes = p.bytes }

abbrev pairs : List VolumeMoment → List Pair
pairs ps = map pair ps

-- each has a header that its type holds,
pairs-fit : (c : Cut) (r : Radial) (before ps : List VolumeMoment) → MomentsOk c r before ps → PairsFit (pairs ps)
pairs-fit c r before [] ok = tt
pairs-fit c r before (p ∷ ps) ok = (ok.0, pairs-fit c r (p ∷ before) ps ok.3)

-- and data as long as it says
pairs-long : (c : Cut) (r : Radial) (before ps : List VolumeMoment) → MomentsOk c r before ps → PairsLong (pairs ps)
pairs-long c r before [] ok = tt
pairs-long c r before (p ∷ ps) ok = (ok.2, pairs-long c r (p ∷ before) ps ok.3)

-- their bytes are those of their blocks
pairs-bytes : (ps : List VolumeMoment) → run bytes_of_moment ps ≡ run bytes_of (moment_blocks (pairs ps))
unfolding run moment_blocks
pairs-bytes [] = refl
pairs-bytes (p ∷ ps) =
    ap (λ (l : List ℕ). bytes_of_moment p ++ l) (pairs-bytes ps) ∙ append_assoc (moment_bytes p.header) p.bytes (run bytes_of (moment_blocks (pairs ps)))

-- the first of them with type t
abbrev first : List VolumeMoment → ℕ → Seen
first ps t = among moment nothing (pairs ps) t

module _ (b : VolumeRadial) (is : Ok b) (l : List ℕ) (own : l ≡ bytes_of_radial b) where
  -- the header at the front of its own bytes
  pub own-header : radial_at l 0 ≡ b.header
  own-header = ap (λ (x : List ℕ). radial_at x 0) own ∙ header-there [] b.header (run bytes_of_moment b.moments) is.ok.fits

  -- and the moment of a type in them
  own-seen : (t : ℕ) → seen l t ≡ first b.moments t
  unfolding run moment_blocks
  own-seen t =
      let ms = b.moments in
      let ok = is.ok.moments in
      let fits = pairs-fit is.cut b.header [] ms ok in
      let long = pairs-long is.cut b.header [] ms ok in
      let count = sym is.ok.count ∙ sym (length-map ms pair) in
      said-own moment nothing b.header (pairs ms) is.ok.fits fits long count l
      (own ∙ ap (λ (x : List ℕ). radial_bytes b.header ++ x) (pairs-bytes ms)) t

-- ---- those of the wanted types

module _ (wanted : ℕ) where
  -- a type that is wanted and one that is not are two
  unlike : (x y : ℕ) → bit wanted x ≡ true → bit wanted y ≡ false → x ≡ y → ⊥
  unlike x y e d same = let z : ◌≡◌ {A = ℕ} 0 1 = cc in omega arith

  module _ (t : ℕ) where
    -- the first moment of a wanted type is left,
    first-kept : bit wanted t ≡ true → (ps : List VolumeMoment) → first (only_moments wanted ps) t ≡ first ps t
    unfolding among
    first-kept e [] = refl
    first-kept e (p ∷ ps) = go (bit wanted p.header.data_type) refl (first-kept e ps)
      where
        go : (x : Bool) → bit wanted p.header.data_type ≡ x → first (only_moments wanted ps) t ≡ first ps t → first (cond x (p ∷ only_moments wanted ps) (only_moments wanted ps)) t ≡ first (p ∷ ps) t
        go true d rest = ap (cond (eqb p.header.data_type t) (moment p.header p.bytes)) rest
        go false d rest = rw (ne_eqb p.header.data_type t (λ same. unlike t p.header.data_type e d (sym same))) rest

    -- and of any other type none is
    first-none : bit wanted t ≡ false → (ps : List VolumeMoment) → first (only_moments wanted ps) t ≡ nothing
    unfolding among
    first-none e [] = refl
    first-none e (p ∷ ps) = go (bit wanted p.header.data_type) refl (first-none e ps)
      where
        go : (x : Bool) → bit wanted p.header.data_type ≡ x → first (only_moments wanted ps) t ≡ nothing → first (cond x (p ∷ only_moments wanted ps) (only_moments wanted ps)) t ≡ nothing
        go true d rest = rw (ne_eqb p.header.data_type t (unlike p.header.data_type t d e)) rest
        go false d rest = rest

  -- in the bytes m of what a pick makes of a radial
  module _ (b : VolumeRadial) (left : Ok (only_radial wanted b)) (m : List ℕ) (new : m ≡ bytes_of_radial (only_radial wanted b)) (t : ℕ) where
    -- a moment of a wanted type is seen as in the radial's own bytes l,
    pub seen-kept : Ok b → (l : List ℕ) → l ≡ bytes_of_radial b → bit wanted t ≡ true → seen m t ≡ seen l t
    seen-kept is l own e = own-seen (only_radial wanted b) left m new t ∙ first-kept t e b.moments ∙ sym (own-seen b is l own t)

    -- and none of another
    pub seen_none : bit wanted t ≡ false → seen m t ≡ nothing
    seen_none e = own-seen (only_radial wanted b) left m new t ∙ first-none t e b.moments

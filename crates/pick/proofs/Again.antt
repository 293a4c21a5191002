-- One mask and then another: what is taken, what is written and what is refused is that of the bits they share. Assumes nothing.
use Prim.Native.Nat.{ℕ, suc}
use native.Mathlib.Omega.{arith}
use mathlib.Core.Bool.{Bool, true, false, cond}
use mathlib.Core.List.{List, [], ◌∷◌, map}
use mathlib.Core.Logic.{◌↔◌, ◌⊎◌, inl, inr}
use mathlib.Core.Path.{◌≡◌, refl, sym, ap, subst, ◌∙◌}
use lib.Bits.{bit_and}
use lib.Dec.{eqb}
use lib.ListN.{length}
use Rattle.std.specs.Prelude.{Option, Some, None}
use Rattle.le.specs.Le.{Bytes}
use Rattle.reading.specs.declared.Stretch.{Stretch}
use Rattle.reading.specs.Reading.{bytes_of, nth, stretches, told}
use Rattle.volume.specs.Volume.{VolumeMoment, VolumeRadial, Volume, IsVolume, bytes_of_volume}
use Rattle.hope.proofs.Meaning.{means}
use Rattle.pick.specs.Only.{only_moments, only_radial, only_volume, AllLeft}
use Rattle.pick.specs.Pick.{Complete, empties, empty_in, first_empty, picked}
use Rattle.pick.specs.Picked.{SameRadial, Taken, Twice}
use Rattle.pick.proofs.Blocks.{own-holds}
use Rattle.pick.proofs.Bytes.{left_is, volume-picked}
use Rattle.pick.proofs.Only.{only-is}
use Rattle.pick.proofs.Owned.{Owns, Owned, none, more, flat}
use Rattle.pick.proofs.Picking.{by-volume, own, own-only}
use Rattle.pick.proofs.Twice.{left-twice, moments-twice, only-twice}

-- ---- one radial

-- whether a radial would have no moment left goes by its record's moments
empties-own : (wanted : ℕ) (f : List ℕ) (s : Stretch) (b : VolumeRadial) → Owns f s b → empties wanted (bytes_of f s) ≡ eqb (length (only_moments wanted b.moments)) 0
empties-own wanted f s b o = ap (empties wanted) o.own ∙ ap (λ (n : ℕ). eqb n 0) (own-holds wanted b o.is).1

module _ (m w : ℕ) where
  module _ (f g : List ℕ) where
    -- so of what a pick by m makes of it w leaves none where both leave none of it
    empties-twice : (s u : Stretch) (b : VolumeRadial) → Owns f s b → Owns g u (only_radial m b) → empties w (bytes_of g u) ≡ empties (bit_and m w) (bytes_of f s)
    empties-twice s u b x y =
        empties-own w g u (only_radial m b) y
        ∙ ap (λ (ms : List VolumeMoment). eqb (length ms) 0) (moments-twice m w b.moments)
        ∙ sym (empties-own (bit_and m w) f s b x)

    -- ---- the first of some radials

    -- s of ss in f, and the first of us in g of which w leaves none, have the same number
    record Meets (s : Stretch) (ss us : List Stretch) : Type 0 where
      before : ℕ
      then : Stretch
      here : nth ss (suc before) ≡ Some s
      there : nth us (suc before) ≡ Some then
      second : first_empty w g us ≡ Some then

    -- so it is where s is the first of ss of which both masks leave none, and us are what a pick by m makes of ss
    meets : {ss us : List Stretch} (bs : List VolumeRadial) (s : Stretch) → Owned f ss bs → Owned g us (map (only_radial m) bs) → first_empty (bit_and m w) f ss ≡ Some s → Meets s ss us
    unfolding first_empty nth
    meets [] s none none e = absurd (let z : ◌≡◌ {A = ℕ} 0 1 = cc in omega arith)
    meets (b ∷ bs) s (more {s = i} {ss = ss} x xs) (more {s = j} {ss = us} y ys) e =
        go (empties (bit_and m w) (bytes_of f i)) refl e (meets bs s xs ys)
      where
        go : (t : Bool) → empties (bit_and m w) (bytes_of f i) ≡ t → cond t (Some i) (first_empty (bit_and m w) f ss) ≡ Some s → (first_empty (bit_and m w) f ss ≡ Some s → Meets s ss us) → Meets s (i ∷ ss) (j ∷ us)
        go true d q rest = let k = empties-twice i j b x y ∙ d in record { before = 0; then = j; here = q; there = refl; second = rw k }
        go false d q rest =
            let k = empties-twice i j b x y ∙ d in
            let r = rest q in
            record { before = suc r.before; then = r.then; here = r.here; there = r.there; second = rw k r.second }

  -- ---- the volume

  module _ (v : Volume) (is : IsVolume v) where
    abbrev file : List ℕ
    file = bytes_of_volume v

    abbrev once : Volume
    once = only_volume m v

    -- what the first pick writes
    written : picked m file ≡ bytes_of_volume once
    written = volume-picked m v is

    -- in it each radial has a moment left that w wants, where no radial is found that has none
    left-then : IsVolume once → (empty_in w (picked m file) ≡ None) ↔ AllLeft w once.layers
    left-then ok =
        let e = ap (empty_in w) written in
        let x = left_is w once ok in
        (λ z. x.0 (sym e ∙ z), λ z. e ∙ x.1 z)

    -- both picks are taken where the one by the shared bits is
    both-taken : (Taken m file × Taken w (picked m file)) ↔ Taken (bit_and m w) file
    both-taken = (forth, back)
      where
        forth : Taken m file × Taken w (picked m file) → Taken (bit_and m w) file
        forth t =
            let left = (left_is m v is).0 t.0.left in
            let then = (left-then (only-is m v is left)).0 t.1.left in
            record { complete = t.0.complete; left = (left_is (bit_and m w) v is).1 ((left-twice m w v.layers).0 (left, then)) }

        back : Taken (bit_and m w) file → Taken m file × Taken w (picked m file)
        back t =
            let all = (left-twice m w v.layers).1 ((left_is (bit_and m w) v is).0 t.left) in
            let ok = only-is m v is all.0 in (
              record { complete = t.complete; left = (left_is m v is).1 all.0 },
              record { complete = ap told written ∙ (means.reads once ok).complete; left = (left-then ok).1 all.1 },
            )

    -- and then write the same bytes
    same-written : Taken m file → picked w (picked m file) ≡ picked (bit_and m w) file
    same-written t =
        let ok = only-is m v is ((left_is m v is).0 t.left) in
        ap (picked w) written ∙ volume-picked w once ok ∙ ap bytes_of_volume (only-twice m w v) ∙ sym (volume-picked (bit_and m w) v is)

    -- where that is refused, the first is, or the second is at the same radial
    same-refused : (s : Stretch) → empty_in (bit_and m w) file ≡ Some s → ((u : Stretch) × (empty_in m file ≡ Some u)) ⊎ SameRadial m w file s
    same-refused s e = go (empty_in m file) refl
      where
        go : (x : Option Stretch) → empty_in m file ≡ x → ((u : Stretch) × (empty_in m file ≡ Some u)) ⊎ SameRadial m w file s
        go (Some u) d = inl (u, d)
        go None d =
            let ok = only-is m v is ((left_is m v is).0 d) in
            let r =
            subst (λ (g : List ℕ). Meets file g s (stretches file) (stretches g)) (sym written)
            (meets file (bytes_of_volume once) (flat v.layers) s (own v is) (own-only m v ok) e) in
            inr (record { number = suc r.before; then = r.then; here = r.here; there = r.there; second = r.second })

    -- the statement, of a volume's bytes
    volume-twice : Twice m w file
    volume-twice = record { both = both-taken; same = same-written; refused = λ c. same-refused }

-- one mask and then another, of any file
pub twice : (m w : ℕ) (f : List ℕ) → Bytes f → Twice m w f
twice m w f bs =
    record {
      both = (λ t. (whole t.0.complete).both.0 t, λ t. (whole t.complete).both.1 t);
      same = λ t. (whole t.complete).same t;
      refused = λ c. (whole c).refused c;
    }
  where
    whole : Complete f → Twice m w f
    whole c = by-volume (Twice m w) f bs c (volume-twice m w)

-- What a pick makes of a volume's bytes are the bytes of the volume with the wanted moments only; and what the blocks before its radials say,
-- in both. Assumes nothing.
use Prim.Native.Nat.{ℕ, suc, ◌+◌, ◌≤◌, ◌<◌}
use native.Mathlib.Decide.{ℕ_discrete}
use native.Mathlib.Omega.{arith}
use mathlib.Core.Bool.{Bool, true, false, cond}
use mathlib.Core.List.{List, [], ◌∷◌, ◌++◌, append_assoc, append-nil, flatten, map}
use mathlib.Core.Logic.{◌↔◌, dite}
use mathlib.Core.Path.{◌≡◌, refl, sym, ap, ap₂, subst, ◌∙◌}
use lib.Bits.{bit_and}
use lib.ListN.{length, take, drop, length-append}
use lib.Seq.{take_at, drop_at}
use Rattle.std.specs.Prelude.{Option, Some, None}
use Rattle.le.specs.Le.{items, part, run}
use Rattle.le.proofs.Here.{At, here}
use Rattle.le.proofs.Laws.{part-take}
use Rattle.cut.specs.declared.Cut.{Cut}
use Rattle.cut.specs.Cut.{cut_bytes}
use Rattle.cut.proofs.Trips as cut-trip
use Rattle.generic.specs.Generic.{generic_bytes}
use Rattle.generic.proofs.Trips as generic-trip
use Rattle.site.specs.Site.{site_bytes}
use Rattle.site.proofs.Trips as site-trip
use Rattle.task.specs.declared.Task.{Task}
use Rattle.task.specs.Task.{task_bytes}
use Rattle.task.proofs.Trips as task-trip
use Rattle.reading.specs.declared.Stretch.{Stretch}
use Rattle.reading.specs.Reading.{bytes_of}
use Rattle.volume.specs.InPlace.{cut_block, task_block}
use Rattle.volume.specs.Volume.{VolumeRadial, Volume, Headed, IsVolume, CutsOk, bytes_of_radial, bytes_of_volume}
use Rattle.volume.proofs.Placed.{CutsIn, front}
use Rattle.hope.proofs.Meaning.{means}
use Rattle.pick.specs.Keep.{picked_radial}
use Rattle.pick.specs.Only.{only_cut, only_radial, only_volume, SomeLeft, AllLeft}
use Rattle.pick.specs.Pick.{empties, empty_in, first_empty, picked, picked_cut}
use Rattle.pick.specs.Picked as specs
use Rattle.pick.proofs.Blocks.{cut-picked, radial-picked, empties-is}
use Rattle.pick.proofs.Lies.{CutsLie}
use Rattle.pick.proofs.Owned.{Owned, none, more, flat, flat_map, owned, run-flat}

-- ---- what is found

-- nothing is found where neither the first is, nor one of the others
neither : {X Y : Type 0} (t : Bool) (s : Stretch) (x : Option Stretch) → ((t ≡ true) ↔ X) → ((x ≡ None) ↔ Y) → (cond t (Some s) x ≡ None) ↔ ((X → ⊥) × Y)
neither true s x i r = (λ e. absurd (let z : ◌≡◌ {A = ℕ} 0 1 = cc in omega arith), λ y. absurd (y.0 (i.0 refl)))
neither false s x i r = (λ e. (λ y. let q = i.1 y in let z : ◌≡◌ {A = ℕ} 0 1 = cc in omega arith, r.0 e), λ y. r.1 y.1)

-- ---- the blocks before the cuts

abbrev ahead : Volume → List ℕ
ahead v = generic_bytes v.generic ++ site_bytes v.site ++ task_bytes v.task

abbrev behind : Volume → List ℕ
behind v = run cut_bytes v.cuts ++ run (run bytes_of_radial) v.layers

-- they are 416 bytes
ahead-long : (v : Volume) → Headed v → length (ahead v) ≡ 416
ahead-long v h =
    let g = generic-trip.length-is v.generic h.generic.0 in
    let s = site-trip.length-is v.site h.site.0 in
    let t = task-trip.length-is v.task h.task.0 in
    simp length-append (omega arith)

-- the file's first,
ahead-is : (v : Volume) → Headed v → take 416 (bytes_of_volume v) ≡ ahead v
ahead-is v h = ap (take 416) (append_assoc (ahead v) (run cut_bytes v.cuts) (run (run bytes_of_radial) v.layers)) ∙ take_at (ahead v) (behind v) 416 (ahead-long v h)

-- and the cuts and the radials stand behind them
behind-is : (v : Volume) → Headed v → At (bytes_of_volume v) 416 (behind v)
behind-is v h =
    let e = append_assoc (ahead v) (run cut_bytes v.cuts) (run (run bytes_of_radial) v.layers) in
    let l = ahead-long v h in
    let all = ap length e ∙ length-append (ahead v) (behind v) in
    record { within = omega arith; rest = ap (drop 416) e ∙ drop_at (ahead v) (behind v) 416 l }

-- ---- the cuts

module _ (wanted : ℕ) where
  -- what a pick makes of the cuts that stand in a file from a place on
  cuts-picked : (f : List ℕ) (cs : List Cut) (at : ℕ) (g : List ℕ) → CutsOk cs → At f at (run cut_bytes cs ++ g) → run (picked_cut wanted) (items (part 256) 256 (length cs) f at) ≡ run cut_bytes (map (only_cut wanted) cs)
  unfolding run items
  cuts-picked f [] at g ok a = refl
  cuts-picked f (c ∷ cs) at g ok a =
      let x = here f at 256 (cut_bytes c) (run cut_bytes cs ++ g) (cut-trip.length-is c ok.0) (subst (At f at) (append_assoc (cut_bytes c) (run cut_bytes cs) g) a) in
      let own : part 256 f at ≡ cut_bytes c = sym (part-take 256 f at (at + 256) (omega arith)) ∙ x.is in
      ap₂ (λ (y ys : List ℕ). y ++ ys) (ap (picked_cut wanted) own ∙ cut-picked wanted c ok.0) (cuts-picked f cs (at + 256) g ok.2 x.next)

  -- ---- the radials

  -- what it makes of some radials
  radials-picked : {f : List ℕ} {ss : List Stretch} {bs : List VolumeRadial} → Owned f ss bs → run (λ (s : Stretch). picked_radial wanted (bytes_of f s)) ss ≡ run bytes_of_radial (map (only_radial wanted) bs)
  unfolding run
  radials-picked none = refl
  radials-picked (more {b = b} o os) = ap₂ (λ (x xs : List ℕ). x ++ xs) (ap (picked_radial wanted) o.own ∙ radial-picked wanted b o.is) (radials-picked os)

  -- each has a moment left where none is found that would have none
  first-left : {f : List ℕ} {ss : List Stretch} {bs : List VolumeRadial} → Owned f ss bs → (first_empty wanted f ss ≡ None) ↔ SomeLeft wanted bs
  unfolding first_empty
  first-left none = (λ e. tt, λ e. refl)
  first-left {f} (more {s} {b = b} o os) =
      let i = empties-is wanted b o.is in
      let e = ap (empties wanted) o.own in
      neither (empties wanted (bytes_of f s)) s _ (λ t. i.0 (sym e ∙ t), λ t. e ∙ i.1 t) (first-left os)

  -- those of all layers, layer by layer
  flat-left : (ls : List (List VolumeRadial)) → SomeLeft wanted (flat ls) ↔ AllLeft wanted ls
  unfolding flatten
  flat-left [] = (λ x. x, λ x. x)
  flat-left (l ∷ ls) = go l (flat-left ls)
    where
      go : (l : List VolumeRadial) → SomeLeft wanted (flat ls) ↔ AllLeft wanted ls → SomeLeft wanted (l ++ flat ls) ↔ (SomeLeft wanted l × AllLeft wanted ls)
      go [] r = (λ x. (tt, r.0 x), λ x. r.1 x.1)
      go (b ∷ bs) r = let q = go bs r in (λ x. let y = q.0 x.1 in ((x.0, y.0), y.1), λ x. (x.0.0, q.1 (x.0.1, x.1)))

  -- ---- the volume

  module _ (v : Volume) (is : IsVolume v) where
    abbrev file : List ℕ
    file = bytes_of_volume v

    -- as many cuts as its task says
    pub number_is : (task_block file).cut_number ≡ length v.cuts
    number_is = ap (λ (t : Task). t.cut_number) (front file v [] is.headed (append-nil file)).task ∙ sym is.headed.number

    -- a volume's bytes with the wanted moments only are those of the volume with them
    pub volume-picked : picked wanted file ≡ bytes_of_volume (only_volume wanted v)
    unfolding picked
    volume-picked =
        let cuts = ap (λ (n : ℕ). run (picked_cut wanted) (items (part 256) 256 n file 416)) number_is ∙ cuts-picked file v.cuts 416 (run (run bytes_of_radial) v.layers) is.headed.cuts (behind-is v is.headed) in
        let radials =
        ap (run (λ (s : Stretch). picked_radial wanted (bytes_of file s))) (means.reads v is).radials
        ∙ radials-picked (owned v is)
        ∙ ap (run bytes_of_radial) (sym (flat_map (only_radial wanted) v.layers))
        ∙ sym (run-flat (map (map (only_radial wanted)) v.layers)) in
        ap₂ (λ (x y : List ℕ). x ++ y) (ap₂ (λ (x y : List ℕ). x ++ y) (ahead-is v is.headed) cuts) radials

    -- no radial is found that would have no moment left where each has one
    pub left_is : (empty_in wanted file ≡ None) ↔ AllLeft wanted v.layers
    left_is =
        let e = ap (first_empty wanted file) (means.reads v is).radials in
        let x = first-left (owned v is) in
        let y = flat-left v.layers in
        (λ z. y.0 (x.0 (sym e ∙ z)), λ z. e ∙ x.1 (y.1 z))

    -- the blocks before the cuts are the same, and each cut is but for its mask
    pub fronted : IsVolume (only_volume wanted v) → specs.Fronted file (bytes_of_volume (only_volume wanted v)) wanted
    fronted only =
        let g = bytes_of_volume (only_volume wanted v) in
        let x = front file v [] is.headed (append-nil file) in
        let y = front g (only_volume wanted v) [] only.headed (append-nil g) in
        let n = number_is in
        record {
          same = ahead-is (only_volume wanted v) only.headed ∙ sym (ahead-is v is.headed);
          task = y.task ∙ sym x.task;
          cuts = λ k low high. cut_in g 1 v.cuts x.cuts y.cuts k low (omega arith);
        }
      where
        cut_in : (g : List ℕ) (j : ℕ) (cs : List Cut) → CutsIn file j cs → CutsIn g j (map (only_cut wanted) cs) → (k : ℕ) → j ≤ k → k < j + length cs → cut_block g k ≡ only_cut wanted (cut_block file k)
        cut_in g j [] x y k low high = absurd (omega arith)
        cut_in g j (c ∷ cs) x y k low high =
            dite (ℕ_discrete j k)
            (λ e. ap (cut_block g) (sym e) ∙ y.0 ∙ ap (only_cut wanted) (sym x.0 ∙ ap (cut_block file) e))
            (λ e. cut_in g (suc j) cs x.1 y.1 k (omega arith) (omega arith))

    -- where each cut's mask in the file has wanted bits only, so has that of each of its cuts
    pub cuts-lie : specs.CutsIn wanted file → CutsLie wanted v.cuts
    cuts-lie lie = let n = number_is in go 1 v.cuts (front file v [] is.headed (append-nil file)).cuts (λ k low high. lie k low (omega arith))
      where
        go : (j : ℕ) (cs : List Cut) → CutsIn file j cs → ((k : ℕ) → j ≤ k → k < j + length cs → bit_and (cut_block file k).moments_mask wanted ≡ (cut_block file k).moments_mask) → CutsLie wanted cs
        go j [] x h = tt
        go j (c ∷ cs) x h = (
          subst (λ (r : Cut). bit_and r.moments_mask wanted ≡ r.moments_mask) x.0 (h j (omega arith) (omega arith)),
          go (suc j) cs x.1 (λ k low high. h k (omega arith) (omega arith)),
        )
